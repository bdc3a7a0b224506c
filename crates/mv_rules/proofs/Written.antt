-- What the records stand for once a write is added.
use Rattle.std.proofs.Common.{◌≡◌, ℕ, Bool, true, false, not, ◌||◌, ◌&&◌, List, [], ◌∷◌, ◌++◌, length, Option, None, Some, refl, sym, ap, ◌∙◌, subst, inl, inr, ◌⊎◌, arith}
use Rattle.std.specs.Prelude.{if◌then◌else◌, ◌==◌, bytes_eq, nat_le, IsSome}
use Rattle.std.specs.List.{AllByRecursion as Each}
use Rattle.std.proofs.lemmas.Bool.Decides.{nat_tests}
use Rattle.std.proofs.lemmas.Slice.Eq.{bytes_eq-Decides}
use Rattle.std.proofs.Math.ListN.{length-append}
use Rattle.slab.specs.Slab.{get as chain_in}
use Rattle.mv_chain.specs.declared.version.Version.{Version}
use Rattle.mv_chain.specs.Accesses.{Written, Answered, nobody, seen, is_late, has_undecided, IsUnsettled}
use Rattle.mv_chain.specs.Chain.{shows, is_marked, StandsFor as ChainStandsFor}
use Rattle.mv_chain.specs.declared.look.Look.{Look}
use Rattle.mv_chain.specs.Look.{looked}
use Rattle.mv_rules.specs.declared.own.Own.{Own}
use Rattle.mv_rules.specs.declared.records.Records.{Records}
use Rattle.mv_rules.specs.declared.answers.Put.{Put}
use Rattle.mv_rules.specs.declared.answers.Put.TheVariants.{Done, Late, Limit, Memory}
use Rattle.mv_rules.specs.declared.verdict.Verdict.{Verdict}
use Rattle.mv_rules.specs.declared.verdict.Verdict.TheVariants.{Refused, Again, First}
use Rattle.mv_rules.specs.Accesses.{Accesses, undecided_keys, wrote, put_by, put_of, after_put}
use Rattle.mv_rules.specs.Held.{Changes}
use Rattle.mv_rules.specs.Own.{is_listed}
use Rattle.mv_rules.specs.Records.{StandsFor, index_of, chain_at, own_of}
use Rattle.mv_rules.specs.Steps.{IsWritten}
use Rattle.mv_rules.specs.Verdict.{verdict_by, verdict_of}
use Rattle.mv_rules.proofs.Indices.{stands_at, named_moved}
use Rattle.mv_rules.proofs.Listed.{listed_append}
use Rattle.mv_chain.proofs.Seen.{undecided_seen, seen_undecided}
use Rattle.mv_rules.proofs.Tests.{same_key, or_false}

write_elsewhere : (key q : List ℕ) (ts : ℕ) (value : Option (List ℕ)) (low : ℕ) (ws : List Written) (rs : List Answered) (vs : List Version) → bytes_eq q key ≡ false → ChainStandsFor q low ws rs vs → ChainStandsFor q low (wrote ts key value ∷ ws) rs vs
write_elsewhere key q ts value low ws rs vs d s = record { seen = λ gone t le. rw (d, s.seen gone t le) refl; own = λ gone t g o. rw (d, s.own gone t g (grind (arith, o, d))) refl; late = s.late; based = s.based }

pub stands_written : (h : Accesses) (r r2 : Records) (key : List ℕ) (i ts : ℕ) (value : Option (List ℕ)) → IsUnsettled ts h.low h.writes → is_late key ts h.reads ≡ false → index_of key r ≡ Some i → ((q : List ℕ) → index_of q r2 ≡ index_of q r) → Changes i r.pool r.chains r2.pool r2.chains → IsSome (chain_in r2.chains i)
    → IsWritten ts value (chain_at i r) (chain_at i r2)
    → ((t : ℕ) → own_of t r2 ≡ (if (t == ts) && not (has_undecided key ts h.writes) then own_of ts r ++ (record { key = key; index = i }) ∷ [] else own_of t r))
    → StandsFor h r → StandsFor (record h { writes = wrote ts key value ∷ h.writes }) r2
stands_written h r r2 key i ts value u late here indices changed there written lists s =
    record {
      chains = stands_at h _ r r2 key i here indices changed there (written key h.low h.writes h.reads (rw here at (s.chains.chains key)) u late) (λ q xs d c. write_elsewhere key q ts value h.low h.writes h.reads xs d c) s.chains;
      lists = record {
        listed = λ t q j e. rw lists (listed t q j (sym (indices q) ∙ e) (t == ts) refl (has_undecided key ts h.writes) refl (bytes_eq q key) refl);
        unindexed = λ t q e. unindexed t q (sym (indices q) ∙ e) (bytes_eq q key) refl;
        named = λ t. rw lists (named t ((t == ts) && not (has_undecided key ts h.writes)));
        count = λ t. rw lists (count t (t == ts) refl (has_undecided key ts h.writes) refl);
      };
    }
  where
    or_true : (x : Bool) → (x || true) ≡ true
    or_true true = refl
    or_true false = refl

    listed : (t : ℕ) (q : List ℕ) (j : ℕ) → index_of q r ≡ Some j → (x : Bool) → (t == ts) ≡ x → (y : Bool) → has_undecided key ts h.writes ≡ y → (z : Bool) → bytes_eq q key ≡ z → is_listed j (if x && not y then own_of ts r ++ (record { key = key; index = i }) ∷ [] else own_of t r) ≡ has_undecided q t (wrote ts key value ∷ h.writes)
    listed t q j e false f y g z d = s.lists.listed t q j e ∙ grind (arith, nat_tests, f)
    listed t q j e true f true g false d = rw d (s.lists.listed t q j e)
    listed t q j e true f false g false d =
        let same : t ≡ ts = grind (arith, nat_tests, f) in
        let differ : j ≡ i → ⊥ = λ n. (let k : q ≡ key = s.chains.apart q key i (e ∙ ap Some n) here in let c : bytes_eq q key ≡ true = (bytes_eq-Decides q key).1 k in grind (arith, c, d)) in
        let apart : (j == i) ≡ false = grind (arith, nat_tests, differ) in
        rw d (listed_append j (record { key = key; index = i }) (own_of ts r) ∙ (rw (apart, s.lists.listed ts q j e) (or_false (has_undecided q ts h.writes) ∙ ap (λ u. has_undecided q u h.writes) (sym same))))
    listed t q j e true f true g true d =
        let same : ts ≡ t = grind (arith, nat_tests, f) in
        let own : (ts == t) ≡ true = grind (arith, nat_tests, same) in
        let all_undecided : has_undecided q t h.writes ≡ true = ap (λ k. has_undecided k t h.writes) (same_key q key d) ∙ (ap (λ u. has_undecided key u h.writes) (sym same) ∙ g) in
        s.lists.listed t q j e ∙ rw (all_undecided, d, own) refl
    listed t q j e true f false g true d =
        let same : t ≡ ts = grind (arith, nat_tests, f) in
        let one : Some j ≡ Some i = sym e ∙ (ap (λ k. index_of k r) (same_key q key d) ∙ here) in
        let index : j ≡ i = cc in
        let itself_too : (j == i) ≡ true = grind (arith, nat_tests, index) in
        let own : (ts == ts) ≡ true = grind (arith, nat_tests) in
        rw (same, d, own) (listed_append j (record { key = key; index = i }) (own_of ts r) ∙ rw itself_too (or_true (is_listed j (own_of ts r))))

    unindexed : (t : ℕ) (q : List ℕ) → index_of q r ≡ None → (z : Bool) → bytes_eq q key ≡ z → has_undecided q t (wrote ts key value ∷ h.writes) ≡ false
    unindexed t q e false d = rw (d, s.lists.unindexed t q e) refl
    unindexed t q e true d = let k : None ≡ Some i = sym e ∙ (ap (λ k. index_of k r) (same_key q key d) ∙ here) in absurd (cc)

    appended : (own : List Own) → Each (λ o. index_of o.key r2 ≡ Some o.index) own → Each (λ o. index_of o.key r2 ≡ Some o.index) (own ++ (record { key = key; index = i }) ∷ [])
    appended [] n = (indices key ∙ here, tt)
    appended (o ∷ own) n = (n.0, appended own n.1)

    named : (t : ℕ) (x : Bool) → Each (λ o. index_of o.key r2 ≡ Some o.index) (if x then own_of ts r ++ (record { key = key; index = i }) ∷ [] else own_of t r)
    named t false = named_moved r r2 (own_of t r) indices (s.lists.named t)
    named t true = appended (own_of ts r) (named_moved r r2 (own_of ts r) indices (s.lists.named ts))

    count : (t : ℕ) (x : Bool) → (t == ts) ≡ x → (y : Bool) → has_undecided key ts h.writes ≡ y → length (if x && not y then own_of ts r ++ (record { key = key; index = i }) ∷ [] else own_of t r) ≡ undecided_keys t (wrote ts key value ∷ h.writes)
    count t false f y g = s.lists.count t ∙ grind (arith, nat_tests, f)
    count t true f true g = let same : t ≡ ts = grind (arith, nat_tests, f) in rw same (s.lists.count ts ∙ grind (arith, nat_tests, g))
    count t true f false g = let same : t ≡ ts = grind (arith, nat_tests, f) in rw same (simp length-append (rw (s.lists.count ts) (grind (arith, nat_tests, g))))

-- what a put finds at the chain of its key
pub record Finds (h : Accesses) (key : List ℕ) (ts : ℕ) (vs : List Version) : Type 0 where
  pub own : ((shows ts vs).from == ts) ≡ has_undecided key ts h.writes
  pub late : is_marked ts vs ≡ is_late key ts h.reads

pub finds : (h : Accesses) (r : Records) (key : List ℕ) (i ts : ℕ) → IsUnsettled ts h.low h.writes → StandsFor h r → index_of key r ≡ Some i → Finds h key ts (chain_at i r)
finds h r key i ts u s here =
    let c : ChainStandsFor key h.low h.writes h.reads (chain_at i r) = rw here at (s.chains.chains key) in
    let e : shows ts (chain_at i r) ≡ seen key ts h.writes = c.seen nobody ts u.above in
    record {
      own = rw e (own (has_undecided key ts h.writes) refl);
      late = c.late ts u.above;
    }
  where
    own : (x : Bool) → has_undecided key ts h.writes ≡ x → ((seen key ts h.writes).from == ts) ≡ has_undecided key ts h.writes
    own true g = let f = (undecided_seen key ts h.writes u.all_undecided g).0 in rw g (grind (arith, nat_tests, f))
    own false g = rw g (differ ((seen key ts h.writes).from == ts) refl)
      where
        differ : (y : Bool) → ((seen key ts h.writes).from == ts) ≡ y → ((seen key ts h.writes).from == ts) ≡ false
        differ false k = k
        differ true k = let f : (seen key ts h.writes).from ≡ ts = grind (arith, nat_tests, k) in let b = seen_undecided key ts h.writes u.positive u.all_undecided f in absurd (grind (arith, b, g))

pub judged : (h : Accesses) (r : Records) (key : List ℕ) (i ts n : ℕ) (vs : List Version) (v : Verdict) → IsUnsettled ts h.low h.writes → StandsFor h r → index_of key r ≡ Some i → vs ≡ chain_at i r → n ≡ length (own_of ts r) → v ≡ verdict_of ((shows ts vs).from == ts) n (is_marked ts vs) → v ≡ verdict_of (has_undecided key ts h.writes) (undecided_keys ts h.writes) (is_late key ts h.reads)
judged h r key i ts n vs v u s here at count e =
    let f = finds h r key i ts u s here in
    let m : n ≡ undecided_keys ts h.writes = count ∙ s.lists.count ts in
    e ∙ rw (at, f.own, f.late, m) refl

verdict_cases : (a : Put) (o l : Bool) (full : Bool) → Refused a ≡ verdict_by o full l → (a ≡ put_by full l) × ((a ≡ Limit) ⊎ (a ≡ Late))
verdict_cases a o l true e = (cc, inl (cc))
verdict_cases a o true false e = (cc, inr (cc))
verdict_cases a true false false e = absurd (cc)
verdict_cases a false false false e = absurd (cc)

pub refused_is : (a : Put) (o : Bool) (n : ℕ) (l : Bool) → Refused a ≡ verdict_of o n l → a ≡ put_of o n l
refused_is a o n l e = (verdict_cases a o l (not o && nat_le 256 n) e).0

pub refused_keeps : (a : Put) (o : Bool) (n : ℕ) (l : Bool) (ts : ℕ) (key : List ℕ) (value : Option (List ℕ)) (h : Accesses) → Refused a ≡ verdict_of o n l → h ≡ after_put a ts key value h
refused_keeps a o n l ts key value h e = elim (verdict_cases a o l (not o && nat_le 256 n) e).1 [ inl p ↦ rw p refl | inr p ↦ rw p refl ]

again_cases : (o l full : Bool) → Again ≡ verdict_by o full l → (Done ≡ put_by full l) × (o ≡ true) × (l ≡ false)
again_cases o l true e = absurd (cc)
again_cases o true false e = absurd (cc)
again_cases true false false e = (refl, refl, refl)
again_cases false false false e = absurd (cc)

pub again_is : (o : Bool) (n : ℕ) (l : Bool) → Again ≡ verdict_of o n l → (Done ≡ put_of o n l) × (o ≡ true) × (l ≡ false)
again_is o n l e = again_cases o l (not o && nat_le 256 n) e

first_cases : (o l full : Bool) → First ≡ verdict_by o full l → (Done ≡ put_by full l) × (o ≡ false) × (l ≡ false)
first_cases o l true e = absurd (cc)
first_cases o true false e = absurd (cc)
first_cases true false false e = absurd (cc)
first_cases false false false e = (refl, refl, refl)

pub first_is : (o : Bool) (n : ℕ) (l : Bool) → First ≡ verdict_of o n l → (Done ≡ put_of o n l) × (o ≡ false) × (l ≡ false)
first_is o n l e = first_cases o l (not o && nat_le 256 n) e

-- a put that was refused adds nothing
pub refused_same : (a : Put) (ts : ℕ) (key : List ℕ) (value : Option (List ℕ)) (h : Accesses) → (a ≡ Done → ⊥) → after_put a ts key value h ≡ h
refused_same Done ts key value h n = absurd (n refl)
refused_same Late ts key value h n = refl
refused_same Limit ts key value h n = refl
refused_same Memory ts key value h n = refl

-- the verdict by one look
pub looked_at : (v : Verdict) (l : Look) (ts n : ℕ) (vs : List Version) → l ≡ looked ts vs → v ≡ verdict_of (l.from == l.at) n l.late → v ≡ verdict_of ((shows ts vs).from == ts) n (is_marked ts vs)
looked_at v l ts n vs is e = subst (λ (x : Look). v ≡ verdict_of (x.from == x.at) n x.late) is e

-- what a put answers, and what the records stand for then
abbrev pub IsPut : Put → ℕ → List ℕ → Option (List ℕ) → Accesses → Records → Type 0
IsPut a ts key value h r = (a ≡ put_of (has_undecided key ts h.writes) (undecided_keys ts h.writes) (is_late key ts h.reads)) × StandsFor (after_put a ts key value h) r

-- the arms of a put
module _ (h : Accesses) (r : Records) (key : List ℕ) (i ts n : ℕ) (vs : List Version) (u : IsUnsettled ts h.low h.writes) (s : StandsFor h r) (here : index_of key r ≡ Some i) (at : vs ≡ chain_at i r) (many : n ≡ length (own_of ts r)) where
  pub put_refused : (a : Put) (value : Option (List ℕ)) → Refused a ≡ verdict_of ((shows ts vs).from == ts) n (is_marked ts vs) → IsPut a ts key value h r
  put_refused a value e =
      let v = judged h r key i ts n vs (Refused a) u s here at many e in
      let keeps = refused_keeps a (has_undecided key ts h.writes) (undecided_keys ts h.writes) (is_late key ts h.reads) ts key value h v in
      (refused_is a (has_undecided key ts h.writes) (undecided_keys ts h.writes) (is_late key ts h.reads) v, subst (λ (x : Accesses). StandsFor x r) keeps s)

  pub put_again : (value : Option (List ℕ)) (r2 : Records) → Again ≡ verdict_of ((shows ts vs).from == ts) n (is_marked ts vs) → ((q : List ℕ) → index_of q r2 ≡ index_of q r) → Changes i r.pool r.chains r2.pool r2.chains → IsSome (chain_in r2.chains i) → IsWritten ts value vs (chain_at i r2) → ((t : ℕ) → own_of t r2 ≡ own_of t r) → IsPut Done ts key value h r2
  put_again value r2 e indices changed there written lists =
      let v = judged h r key i ts n vs Again u s here at many e in
      let own = again_is (has_undecided key ts h.writes) (undecided_keys ts h.writes) (is_late key ts h.reads) v in
      (own.0, stands_written h r r2 key i ts value u own.2 here indices changed there (subst (λ (y : List Version). IsWritten ts value y (chain_at i r2)) at written) (λ t. lists t ∙ rw own.1 (kept t (t == ts))) s)
    where
      kept : (t : ℕ) (y : Bool) → own_of t r ≡ (if y && false then own_of ts r ++ (record { key = key; index = i }) ∷ [] else own_of t r)
      kept t true = refl
      kept t false = refl

  pub put_first : (value : Option (List ℕ)) (r2 : Records) → First ≡ verdict_of ((shows ts vs).from == ts) n (is_marked ts vs) → ((q : List ℕ) → index_of q r2 ≡ index_of q r) → Changes i r.pool r.chains r2.pool r2.chains → IsSome (chain_in r2.chains i) → IsWritten ts value vs (chain_at i r2) → ((t : ℕ) → own_of t r2 ≡ (if t == ts then own_of ts r ++ (record { key = key; index = i }) ∷ [] else own_of t r)) → IsPut Done ts key value h r2
  put_first value r2 e indices changed there written lists =
      let v = judged h r key i ts n vs First u s here at many e in
      let own = first_is (has_undecided key ts h.writes) (undecided_keys ts h.writes) (is_late key ts h.reads) v in
      (own.0, stands_written h r r2 key i ts value u own.2 here indices changed there (subst (λ (y : List Version). IsWritten ts value y (chain_at i r2)) at written) (λ t. lists t ∙ rw own.1 (kept t (t == ts))) s)
    where
      kept : (t : ℕ) (y : Bool) → (if y then own_of ts r ++ (record { key = key; index = i }) ∷ [] else own_of t r) ≡ (if y && true then own_of ts r ++ (record { key = key; index = i }) ∷ [] else own_of t r)
      kept t true = refl
      kept t false = refl
