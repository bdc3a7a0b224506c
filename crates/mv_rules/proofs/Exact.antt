-- What an answered get, an accepted put and a decision leave, exactly.
use Rattle.std.proofs.Common.{◌≡◌, ℕ, ◌<◌, Bool, true, false, ◌||◌, List, [], ◌∷◌, ◌++◌, length, Option, Some, None, refl, sym, ap, ◌∙◌, subst, arith}
use Rattle.std.specs.Prelude.{option_map, bytes_eq, ◌==◌, IsSome, is_some, if◌then◌else◌}
use Rattle.std.specs.Option.{option_map_or}
use Rattle.std.specs.List.{AllByRecursion as Each}
use Rattle.std.specs.BTreeMap.{BTreeMap, get_by}
use Rattle.std.specs.Ordering.{nat_cmp}
use Rattle.std.proofs.lemmas.Bool.Decides.{nat_tests}
use Rattle.std.proofs.lemmas.Slice.Eq.{bytes_eq-Decides}
use Rattle.xa_codes.specs.declared.write.Write.{Write}
use Rattle.mv_chain.specs.declared.fate.Fate.{Fate}
use Rattle.mv_chain.specs.declared.version.Version.{Version}
use Rattle.mv_chain.specs.Accesses.{decided, IsUndecided, IsUnsettled}
use Rattle.mv_chain.specs.Chain.{fresh, shows, installed, settled}
use Rattle.mv_rules.specs.declared.records.Records.{Records}
use Rattle.mv_rules.specs.declared.own.Own.{Own}
use Rattle.mv_rules.specs.declared.own.Notes.{Notes}
use Rattle.mv_rules.specs.Accesses.{Accesses}
use Rattle.mv_rules.specs.Own.{own_in, decided_in, read_in, is_listed}
use Rattle.mv_rules.specs.Records.{StandsFor, index_of, chain_at, own_of}
use Rattle.mv_rules.specs.Steps.{SettlesListed}
use Rattle.mv_rules.specs.Tidy.{kept_of, names}
use Rattle.mv_rules.specs.Noted.{NotesAt, or_fresh, NotesRead, Reads, Puts, PutsAll, Settles}
use Rattle.mv_rules.proofs.Tests.{same_key}
use Rattle.mv_rules.proofs.Tidied.{absent_kept}
use Rattle.mv_rules.proofs.Settled.{stands_settled}
use Rattle.mv_rules.proofs.Written.{finds}
use Rattle.mv_chain.proofs.Stands.{key_itself}
use Rattle.mv_chain.specs.Chain.{marked_at}

-- a key is named in the branch's list where its index is listed
listed_names : (r : Records) (q : List ℕ) (i : ℕ) (own : List Own) → index_of q r ≡ Some i → ((a b : List ℕ) (j : ℕ) → index_of a r ≡ Some j → index_of b r ≡ Some j → a ≡ b) → Each (λ o. index_of o.key r ≡ Some o.index) own → names q own ≡ is_listed i own
listed_names r q i [] here apart named = refl
listed_names r q i (o ∷ own) here apart named = one (bytes_eq q o.key) refl (i == o.index) refl (listed_names r q i own here apart named.1)
  where
    one : (x : Bool) → bytes_eq q o.key ≡ x → (y : Bool) → (i == o.index) ≡ y → names q own ≡ is_listed i own → (x || names q own) ≡ (y || is_listed i own)
    one true e true f rest = refl
    one false e false f rest = rest
    one true e false f rest =
        let same : Some i ≡ Some o.index = sym here ∙ (ap (λ k. index_of k r) (same_key q o.key e) ∙ named.0) in
        let is : i ≡ o.index = cc same in
        absurd (grind (arith, nat_tests, f, is))
    one false e true f rest =
        let is : i ≡ o.index = grind (arith, nat_tests, f) in
        let same : q ≡ o.key = apart q o.key i here (named.0 ∙ ap Some (sym is)) in
        let hit : bytes_eq q o.key ≡ true = (bytes_eq-Decides q o.key).1 same in
        absurd (cc (hit, e))

-- what is kept of each key once the branch's keys are settled
pub kept_settled : (h : Accesses) (r r2 : Records) (ts : ℕ) (fate : Fate) → ((q : List ℕ) → index_of q r2 ≡ index_of q r) → SettlesListed ts fate (own_of ts r) r.pool r.chains r2.pool r2.chains → StandsFor h r
    → (q : List ℕ) → kept_of q r2 ≡ (if names q (own_of ts r) then option_map (settled ts fate) (kept_of q r) else kept_of q r)
kept_settled h r r2 ts fate indices settles s q = ap (λ o. kept_at o r2) (indices q) ∙ at (index_of q r) refl
  where
    kept_at : Option ℕ → Records → Option (List Version)
    kept_at o x = option_map (λ i. chain_at i x) o

    at : (o : Option ℕ) → index_of q r ≡ o → kept_at o r2 ≡ (if names q (own_of ts r) then option_map (settled ts fate) (kept_at o r) else kept_at o r)
    at None e = none (names q (own_of ts r))
      where
        none : (x : Bool) → None ≡ (if x then option_map (settled ts fate) None else None)
        none true = refl
        none false = refl
    at (Some i) e = rw (listed_names r q i (own_of ts r) e s.chains.apart (s.lists.named ts)) (there (is_listed i (own_of ts r)) refl)
      where
        there : (x : Bool) → is_listed i (own_of ts r) ≡ x → Some (chain_at i r2) ≡ (if x then option_map (settled ts fate) (Some (chain_at i r)) else Some (chain_at i r))
        there true l = ap Some (settles.exact i l)
        there false l = ap Some (settles.others i l)

-- a branch that has written nothing
pub nothing_settled : (h : Accesses) (r : Records) (ts : ℕ) (fate : Fate) → own_of ts r ≡ [] → IsUndecided ts h.writes → StandsFor h r → StandsFor (record h { writes = decided ts fate h.writes }) r
nothing_settled h r ts fate none u s = stands_settled h r r ts fate u (λ q. refl) done (λ t. at t (t == ts) refl) s
  where
    done : SettlesListed ts fate (own_of ts r) r.pool r.chains r.pool r.chains
    done = subst (λ own. SettlesListed ts fate own r.pool r.chains r.pool r.chains) (sym none)
        (record { held = s.chains.held; stands = λ i. refl; listed = λ i e. absurd (cc e); exact = λ i e. absurd (cc e); others = λ i e. refl })

    at : (t : ℕ) (x : Bool) → (t == ts) ≡ x → own_of t r ≡ (if x then [] else own_of t r)
    at t true e = let is : t ≡ ts = grind (arith, nat_tests, e) in ap (λ (u : ℕ). own_of u r) is ∙ none
    at t false e = refl

pub settles_nothing : (r : Records) (ts : ℕ) (fate : Fate) → own_of ts r ≡ [] → Settles ts fate r r
settles_nothing r ts fate none = record {
  kept = λ q. rw none refl;
  some = λ more. absurd (few (rw none at more));
  none = λ e. refl;
}
  where
    few : 0 < 0 → ⊥
    few h = omega arith

pub own_nowhere : (r : Records) (ts : ℕ) → get_by (nat_cmp ts) r.notes ≡ None → own_of ts r ≡ []
own_nowhere r ts none = ap (λ o. option_map_or (λ n. n.written.items) o []) none

pub own_there : (r : Records) (ts : ℕ) (n : Notes) → get_by (nat_cmp ts) r.notes ≡ Some n → own_of ts r ≡ n.written.items
own_there r ts n here = ap (λ o. option_map_or (λ n. n.written.items) o []) here

pub own_empty : (r : Records) (ts : ℕ) (n : Notes) → get_by (nat_cmp ts) r.notes ≡ Some n → length n.written.items ≡ 0 → own_of ts r ≡ []
own_empty r ts n here few = own_there r ts n here ∙ none n.written.items few
  where
    none : (xs : List Own) → length xs ≡ 0 → xs ≡ []
    none [] e = refl
    none (x ∷ xs) e = absurd (cc e)

-- one chain has changed
kept_there : (f : List Version → List Version) (key : List ℕ) (r r2 : Records) (versions : List Version) → kept_of key r ≡ Some versions → ((q : List ℕ) → kept_of q r2 ≡ (if bytes_eq q key then option_map f (kept_of q r) else kept_of q r))
    → (q : List ℕ) → kept_of q r2 ≡ (if bytes_eq q key then Some (f (or_fresh (kept_of key r))) else kept_of q r)
kept_there f key r r2 versions here is q = is q ∙ at (bytes_eq q key) refl
  where
    at : (x : Bool) → bytes_eq q key ≡ x → (if x then option_map f (kept_of q r) else kept_of q r) ≡ (if x then Some (f (or_fresh (kept_of key r))) else kept_of q r)
    at true e = ap (λ k. option_map f (kept_of k r)) (same_key q key e) ∙ (ap (option_map f) here ∙ sym (ap (λ o. Some (f (or_fresh o))) here))
    at false e = refl

-- the chain was made first
module _ (key : List ℕ) (r made : Records) (none : kept_of key r ≡ None) (begun : (q : List ℕ) → kept_of q made ≡ (if bytes_eq q key then Some fresh else kept_of q r)) where
  alike : or_fresh (kept_of key made) ≡ or_fresh (kept_of key r)
  alike = let there : kept_of key made ≡ Some fresh = rw (key_itself key) at (begun key) in ap or_fresh there ∙ sym (ap or_fresh none)

  kept_made : (f : List Version → List Version) (r2 : Records) → ((q : List ℕ) → kept_of q r2 ≡ (if bytes_eq q key then Some (f (or_fresh (kept_of key made))) else kept_of q made))
      → (q : List ℕ) → kept_of q r2 ≡ (if bytes_eq q key then Some (f (or_fresh (kept_of key r))) else kept_of q r)
  kept_made f r2 is q = is q ∙ (ap (λ (vs : List Version). if bytes_eq q key then Some (f vs) else kept_of q made) alike ∙ at (bytes_eq q key) (begun q))
    where
      at : (x : Bool) → kept_of q made ≡ (if x then Some fresh else kept_of q r) → (if x then Some (f (or_fresh (kept_of key r))) else kept_of q made) ≡ (if x then Some (f (or_fresh (kept_of key r))) else kept_of q r)
      at true b = refl
      at false b = b

  pub reads_made : (ts : ℕ) (r2 : Records) → made.notes ≡ r.notes → Reads ts key made r2 → Reads ts key r r2
  reads_made ts r2 same reads = record {
    kept = kept_made (marked_at ts) r2 reads.kept;
    notes = subst (λ (n : BTreeMap ℕ Notes). NotesRead ts key (or_fresh (kept_of key r)) n r2.notes) same (subst (λ (vs : List Version). NotesRead ts key vs made.notes r2.notes) alike reads.notes);
  }

  pub puts_made : (ts : ℕ) (value : Option (List ℕ)) (r2 : Records) → made.notes ≡ r.notes → Puts ts key value made r2 → Puts ts key value r r2
  puts_made ts value r2 same puts = record {
    kept = kept_made (installed ts value) r2 puts.kept;
    again = subst (λ (n : BTreeMap ℕ Notes). names key (own_in ts n) ≡ true → r2.notes ≡ n) same puts.again;
    first = subst (λ (n : BTreeMap ℕ Notes). names key (own_in ts n) ≡ false → (i : ℕ) × (index_of key r2 ≡ Some i) × NotesAt ts (own_in ts n ++ (record { key = key; index = i }) ∷ []) (decided_in ts n) (read_in ts n) n r2.notes) same puts.first;
  }

-- an answered read
pub reads_there : (ts : ℕ) (key : List ℕ) (r r2 : Records) (versions : List Version) → kept_of key r ≡ Some versions → ((q : List ℕ) → kept_of q r2 ≡ (if bytes_eq q key then option_map (marked_at ts) (kept_of q r) else kept_of q r))
    → NotesRead ts key versions r.notes r2.notes → Reads ts key r r2
reads_there ts key r r2 versions here is notes = record {
  kept = kept_there (marked_at ts) key r r2 versions here is;
  notes = subst (λ (o : Option (List Version)). NotesRead ts key (or_fresh o) r.notes r2.notes) (sym here) notes;
}

-- an accepted write
module _ (h : Accesses) (r r2 : Records) (key : List ℕ) (i ts : ℕ) (vs : List Version) (value : Option (List ℕ)) (u : IsUnsettled ts h.low h.writes) (s : StandsFor h r) (here : index_of key r ≡ Some i) (at : vs ≡ chain_at i r)
    (is : (q : List ℕ) → kept_of q r2 ≡ (if bytes_eq q key then option_map (installed ts value) (kept_of q r) else kept_of q r)) where
  named : names key (own_of ts r) ≡ ((shows ts vs).from == ts)
  named =
      listed_names r key i (own_of ts r) here s.chains.apart (s.lists.named ts)
      ∙ (s.lists.listed ts key i here ∙ (sym (finds h r key i ts u s here).own ∙ ap (λ (x : List Version). (shows ts x).from == ts) (sym at)))

  kept : (q : List ℕ) → kept_of q r2 ≡ (if bytes_eq q key then Some (installed ts value (or_fresh (kept_of key r))) else kept_of q r)
  kept = kept_there (installed ts value) key r r2 (chain_at i r) (ap (λ o. option_map (λ j. chain_at j r) o) here) is

  pub puts_again : ((shows ts vs).from == ts) ≡ true → r2.notes ≡ r.notes → Puts ts key value r r2
  puts_again own same = record {
    kept = kept;
    again = λ _. same;
    first = λ no. absurd (cc (no, named, own));
  }

  pub puts_first : ((shows ts vs).from == ts) ≡ false → index_of key r2 ≡ index_of key r
      → NotesAt ts (own_of ts r ++ (record { key = key; index = i }) ∷ []) (decided_in ts r.notes) (read_in ts r.notes) r.notes r2.notes → Puts ts key value r r2
  puts_first other indexed notes = record {
    kept = kept;
    again = λ written. absurd (cc (written, named, other));
    first = λ _. (i, indexed ∙ here, notes);
  }

-- where the chain was made if there was none
pub puts_indexed : (key : List ℕ) (r made r2 : Records) (ts : ℕ) (value : Option (List ℕ)) → (IsSome (index_of key r) → made ≡ r) → (index_of key r ≡ None → (q : List ℕ) → kept_of q made ≡ (if bytes_eq q key then Some fresh else kept_of q r)) → made.notes ≡ r.notes
    → Puts ts key value made r2 → Puts ts key value r r2
puts_indexed key r made r2 ts value known begun same puts = at (index_of key r) refl
  where
    at : (o : Option ℕ) → index_of key r ≡ o → Puts ts key value r r2
    at None e = puts_made key r made (absent_kept r key e) (begun e) ts value r2 same puts
    at (Some i) e = subst (λ (x : Records). Puts ts key value x r2) (known (ap is_some e)) puts

-- one write more
pub puts_more : (ts : ℕ) (ws : List Write) (w : Write) (r mid r2 : Records) → PutsAll ts ws r mid → Puts ts w.key w.value mid r2 → PutsAll ts (ws ++ w ∷ []) r r2
puts_more ts [] w r mid r2 all one = (r2, subst (λ (x : Records). Puts ts w.key w.value x r2) (sym all) one, refl)
puts_more ts (x ∷ ws) w r mid r2 all one = (all.0, all.1, puts_more ts ws w all.0 mid r2 all.2 one)
