-- The branches in doubt, gathered by timestamp, each with what the records list of it.
use Rattle.std.proofs.Common.{◌≡◌, ◌⊎◌, inl, inr, ℕ, ◌+◌, ◌==◌, Bool, true, false, not, cond, List, [], ◌∷◌, map, Option, Some, None, refl, ap, sym, ◌∙◌, subst, arith}
use Rattle.std.specs.Prelude.{find, nat_lt, option_map}
use Rattle.std.specs.BTreeMap.{BTreeMap, IsOrdered, insert_entry, is_at}
use Rattle.std.specs.List.{AllByRecursion as Each}
use Rattle.std.specs.List.Sorted.{IsStrictlySortedBy}
use Rattle.std.specs.Map.{lookup, keys_of}
use Rattle.std.specs.Ordering.{nat_cmp, is_eq, is_lt, match_ordering}
use Rattle.std.specs.declared.cmp.Ordering.{Ordering}
use Rattle.std.specs.declared.cmp.Ordering.TheVariants.{Less, Equal, Greater}
use Rattle.std.proofs.lemmas.Bool.Decides.{nat_tests}
use Rattle.std.proofs.lemmas.Map.Keys.{sorted_head, sorted_tail}
use Rattle.xa_codes.specs.declared.write.Write.{Write}
use Rattle.xa_xid.specs.Triple.{Triple, xid_eq, xid_cmp}
use Rattle.xa_xid.proofs.Same.{xid_same, xid_eq_itself}
use Rattle.mv_chain.specs.Accesses.{IsUndecided}
use Rattle.mv_rules.specs.Accesses.{Accesses, IsWritesOf}
use Rattle.mv_rules.specs.Records.{StandsFor as RecordsStandFor}
use Rattle.mv_rules.specs.Ties.{fate_of, writes_in, history_of}
use Rattle.mv_rules.proofs.ByTimestamp.{same as same_number}
use Rattle.mv_rules.proofs.Undecided.{undecided}
use Rattle.xa_model.specs.State.{State, Branch, Phase, Working, Prepared, Committed, is_known_as, known_of, is_working, timestamp_of}
use Rattle.xa_model.specs.Invariants.Sound.{IsSound}
use Rattle.xa_model.specs.Durable.{PreparedBranch, Pairwise, prepares_before, named_apart, prepared_part, writes_of, durable}
use Rattle.xa_model.proofs.Ascending.{parts, parts_none, found_in, absent}
use Rattle.xa_model.proofs.Counts.{count_none}
use Rattle.xa_model.proofs.Lists.{found_passes, found_all}
use Rattle.xa_model.proofs.Members.{Member, IsStrict, member_all, same_members, same_place_by}
use Rattle.xa_model.proofs.Recoveries.{recoverable_durable}
use Rattle.xa_model.proofs.Remains.{held_of, held_as, held_named, in_doubt, once, working_held}
use Rattle.xa_model.proofs.Tests.{prepares_transitive}
use Rattle.xa_model.proofs.Xids.{cmp_is_eq}
use Rattle.xa_branch.specs.Checkpointed.{TimesOf}
use Rattle.xa_branch.proofs.Picked.{cmp_flipped}
use Rattle.xa_recovery.specs.declared.durable.InDoubt.{InDoubt}
use Rattle.xa_recovery.specs.Durable.{as_prepared}
use Rattle.xa_recovery.proofs.Entries.{lt_nat}
use Rattle.xa_manager.specs.View.{View}
use Rattle.xa_manager.specs.Stands.{StandsFor}
use Rattle.xa_manager.proofs.Written.{listed_writes}

abbrev pub doubted : Triple → List PreparedBranch → Option PreparedBranch
doubted xid ps = find (λ p. xid_eq p.xid xid) ps

-- a branch in doubt is known, and undecided

none_held : (xid : Triple) (p : PreparedBranch) (ps : List PreparedBranch) → Each (λ q. xid_eq q.xid xid ≡ false) ps → doubted xid ps ≡ Some p → ⊥
none_held xid p ps none e =
    let off : xid_eq p.xid xid ≡ false = found_all (λ q. xid_eq q.xid xid ≡ false) (λ q. xid_eq q.xid xid) p ps none e in
    let on : xid_eq p.xid xid ≡ true = found_passes (λ q. xid_eq q.xid xid) p ps e in
    absurd (cc (off, on))

fate_held : (t : ℕ) (ws : List Write) (phase : Phase) (x : PreparedBranch) → prepared_part t ws phase ≡ Some x → fate_of phase ≡ None
fate_held t ws (Working xid work) x e = refl
fate_held t ws (Prepared xid) x e = refl
fate_held t ws Committed x e = absurd (cc e)

record IsKnown (s : State) (xid : Triple) (p : PreparedBranch) : Type 0 where
  branch : Branch
  known : known_of s.branches xid ≡ Some branch
  open_fate : fate_of branch.phase ≡ None
  is : p ≡ held_as xid branch

known_by : (s : State) (xid : Triple) (p : PreparedBranch) (o : Option Branch) → IsSound s → known_of s.branches xid ≡ o → doubted xid (parts held_of s.branches) ≡ Some p → IsKnown s xid p
known_by s xid p None h e found =
    absurd (none_held xid p (parts held_of s.branches)
    (parts_none held_of (is_known_as xid) (λ q. xid_eq q.xid xid) (held_named xid) s.branches (count_none (is_known_as xid) s.branches e)) found)
known_by s xid p (Some b) h e found = by (is_working b.phase) refl
  where
    by : (c : Bool) → is_working b.phase ≡ c → IsKnown s xid p
    by true works =
        absurd (none_held xid p (parts held_of s.branches)
        (absent held_of (is_known_as xid) (λ q. xid_eq q.xid xid) (held_named xid) b s.branches (working_held b.timestamp (writes_of b.operations) b.phase works) (once s xid h) e) found)
    by false rests =
        let held : held_of b ≡ Some (held_as xid b) = in_doubt xid b s.branches e rests in
        let there : doubted xid (parts held_of s.branches) ≡ Some (held_as xid b) =
        found_in held_of (is_known_as xid) (λ q. xid_eq q.xid xid) (held_named xid) b (held_as xid b) s.branches held (once s xid h) e in
        let same : p ≡ held_as xid b = cc (found, there) in
        record { branch = b; known = e; open_fate = fate_held b.timestamp (writes_of b.operations) b.phase (held_as xid b) held; is = same }

-- the records list what it wrote
pub told_held : (m : View) (s : State) (xid : Triple) (p : PreparedBranch) (t : ℕ) (ws : List Write) → StandsFor m s → doubted xid (durable s).prepared ≡ Some p → t ≡ p.timestamp
    → ((h : Accesses) → RecordsStandFor h m.records → IsUndecided t h.writes → IsWritesOf t h.writes ws) → ws ≡ p.writes
told_held m s xid p t ws st found time told =
    let sound = st.recoverable.sound in
    let x : IsKnown s xid p = known_by s xid p (known_of s.branches xid) sound refl found in
    let limit = timestamp_of s.boot s.given + 1 in
    let is : t ≡ x.branch.timestamp = time ∙ ap (λ (q : PreparedBranch). q.timestamp) x.is in
    let whole : IsUndecided x.branch.timestamp (writes_in s.branches) = undecided xid x.branch limit s.branches sound.descends x.known x.open_fate in
    let listed : IsWritesOf x.branch.timestamp (writes_in s.branches) ws =
    subst (λ (u : ℕ). IsWritesOf u (writes_in s.branches) ws) is (told (history_of s) st.records (subst (λ (u : ℕ). IsUndecided u (writes_in s.branches)) (sym is) whole)) in
    listed_writes xid x.branch limit s.branches ws sound.descends x.known listed ∙ ap (λ (q : PreparedBranch). q.writes) (sym x.is)

-- a new entry of a map by timestamp

inserted_all : {X : Type 0} (P : ℕ × X → Type 0) (k : ℕ) (v : X) (es : List (ℕ × X)) → P (k, v) → Each P es → Each P (insert_entry nat_cmp es k v)
inserted_all P k v [] here h = (here, tt)
inserted_all {X} P k v (e ∷ es) here h = by (nat_cmp k e.0) refl (inserted_all P k v es here h.1)
  where
    by : (o : Ordering) → nat_cmp k e.0 ≡ o → Each P (insert_entry nat_cmp es k v) → Each P (match_ordering o ((k, v) ∷ e ∷ es) ((e.0, v) ∷ es) (e ∷ insert_entry nat_cmp es k v))
    by Less is rest = (here, h)
    by Equal is rest = (subst (λ (n : ℕ). P (n, v)) (same_number k e.0 is) here, h.1)
    by Greater is rest = (h.0, rest)

inserted_member : {X A : Type 0} (f : ℕ × X → A) (k : ℕ) (v : X) (es : List (ℕ × X)) → Member (f (k, v)) (map f (insert_entry nat_cmp es k v))
inserted_member f k v [] = inl refl
inserted_member f k v (e ∷ es) = by (nat_cmp k e.0) refl (inserted_member f k v es)
  where
    by : (o : Ordering) → nat_cmp k e.0 ≡ o → Member (f (k, v)) (map f (insert_entry nat_cmp es k v)) → Member (f (k, v)) (map f (match_ordering o ((k, v) ∷ e ∷ es) ((e.0, v) ∷ es) (e ∷ insert_entry nat_cmp es k v)))
    by Less is rest = inl refl
    by Equal is rest = inl (ap (λ (n : ℕ). f (n, v)) (same_number k e.0 is))
    by Greater is rest = inr rest

others_stay : {X A : Type 0} (f : ℕ × X → A) (time : A → ℕ) (timed : (e : ℕ × X) → time (f e) ≡ e.0) (y : A) (k : ℕ) (v : X) (es : List (ℕ × X)) → (time y ≡ k → ⊥) → Member y (map f es) → Member y (map f (insert_entry nat_cmp es k v))
others_stay f time timed y k v [] apart m = absurd m
others_stay f time timed y k v (e ∷ es) apart m = by (nat_cmp k e.0) refl m (others_stay f time timed y k v es apart)
  where
    by : (o : Ordering) → nat_cmp k e.0 ≡ o → (y ≡ f e) ⊎ Member y (map f es) → (Member y (map f es) → Member y (map f (insert_entry nat_cmp es k v)))
        → Member y (map f (match_ordering o ((k, v) ∷ e ∷ es) ((e.0, v) ∷ es) (e ∷ insert_entry nat_cmp es k v)))
    by Less is n rest = inr n
    by Equal is (inl q) rest = absurd (apart (ap time q ∙ (timed e ∙ sym (same_number k e.0 is))))
    by Equal is (inr n) rest = inr n
    by Greater is (inl q) rest = inl q
    by Greater is (inr n) rest = inr (rest n)

-- what is found is a member, and where names are apart, a member is found

found_member_by : (q : PreparedBranch → Bool) (p x : PreparedBranch) (ps : List PreparedBranch) (c : Bool) → cond c (Some x) (find q ps) ≡ Some p → (find q ps ≡ Some p → Member p ps) → (p ≡ x) ⊎ Member p ps
found_member_by q p x ps true e rest = let same : x ≡ p = cc e in inl (sym same)
found_member_by q p x ps false e rest = inr (rest e)

found_member : (xid : Triple) (p : PreparedBranch) (ps : List PreparedBranch) → doubted xid ps ≡ Some p → Member p ps
found_member xid p [] e = absurd (cc e)
found_member xid p (x ∷ ps) e = found_member_by (λ q. xid_eq q.xid xid) p x ps (xid_eq x.xid xid) e (found_member xid p ps)

apart_by : (b : Bool) → not b ≡ true → b ≡ false
apart_by true e = absurd (cc e)
apart_by false e = refl

member_found : (p : PreparedBranch) (ps : List PreparedBranch) → Pairwise named_apart ps → Member p ps → doubted p.xid ps ≡ Some p
member_found p [] h m = absurd m
member_found p (x ∷ ps) h (inl e) = let here : xid_eq x.xid p.xid ≡ true = subst (λ (z : PreparedBranch). xid_eq z.xid p.xid ≡ true) e (xid_eq_itself p.xid) in rw here (ap Some (sym e))
member_found p (x ∷ ps) h (inr m) =
    let other : xid_eq x.xid p.xid ≡ false = apart_by (xid_eq x.xid p.xid) (member_all (λ z. named_apart x z ≡ true) p ps m h.0) in
    rw other (member_found p ps h.1 m)

-- What is left of the times is of branches in doubt, and what was made of them is theirs. Each of them is in one of both.
pub record Gathers (ps : List PreparedBranch) (rest : List (Triple × ℕ)) (made : List (ℕ × InDoubt)) : Type 0 where
  pub left : Each (λ e. option_map (λ p. p.timestamp) (doubted e.0 ps) ≡ Some e.1) rest
  pub theirs : Each (λ e. Member (as_prepared e) ps) made
  pub all_there : (p : PreparedBranch) → Member p ps → Member (p.xid, p.timestamp) rest ⊎ Member p (map as_prepared made)

-- before the first

abbrev time_at : Triple → List (Triple × ℕ) → Option ℕ
time_at q es = lookup (is_at (xid_cmp q)) es

found_behind : (e : Triple × ℕ) (rest es : List (Triple × ℕ)) → Each (λ k. xid_cmp e.0 k ≡ Less) (keys_of es) → Each (λ x. time_at x.0 rest ≡ Some x.1) es → Each (λ x. time_at x.0 (e ∷ rest) ≡ Some x.1) es
found_behind e rest [] less h = tt
found_behind e rest (x ∷ es) less h =
    let off : is_eq (xid_cmp x.0 e.0) ≡ false = cmp_flipped x.0 e.0 ∙ ap is_eq less.0 in
    (rw off h.0, found_behind e rest es less.1 h.1)

each_found : (es : List (Triple × ℕ)) → IsStrictlySortedBy xid_cmp (keys_of es) → Each (λ e. time_at e.0 es ≡ Some e.1) es
each_found [] s = tt
each_found (e ∷ es) s =
    let here : is_eq (xid_cmp e.0 e.0) ≡ true = cmp_is_eq e.0 e.0 ∙ xid_eq_itself e.0 in
    (rw here refl, found_behind e es es (sorted_head xid_cmp e.0 (keys_of es) s) (each_found es (sorted_tail xid_cmp e.0 (keys_of es) s)))

member_at_by : (q : Triple) (t : ℕ) (e : Triple × ℕ) (es : List (Triple × ℕ)) (c : Bool) → is_eq (xid_cmp q e.0) ≡ c → cond c (Some e.1) (time_at q es) ≡ Some t
    → (time_at q es ≡ Some t → Member (q, t) es) → ((q, t) ≡ e) ⊎ Member (q, t) es
member_at_by q t e es true is found rest =
    let name : q ≡ e.0 = xid_same q e.0 (sym (cmp_is_eq q e.0) ∙ is) in
    let time : e.1 ≡ t = cc found in
    inl (pair name (sym time))
  where
    pair : q ≡ e.0 → t ≡ e.1 → ◌≡◌ {A = Triple × ℕ} (q, t) e
    pair f g = ap (λ z. (z, t)) f ∙ ap (λ n. (e.0, n)) g
member_at_by q t e es false is found rest = inr (rest found)

member_at : (q : Triple) (t : ℕ) (es : List (Triple × ℕ)) → time_at q es ≡ Some t → Member (q, t) es
member_at q t [] found = absurd (cc found)
member_at q t (e ∷ es) found = member_at_by q t e es (is_eq (xid_cmp q e.0)) refl found (member_at q t es)

told_each : (ps : List PreparedBranch) (all es : List (Triple × ℕ)) → ((xid : Triple) → time_at xid all ≡ option_map (λ p. p.timestamp) (doubted xid ps)) → Each (λ e. time_at e.0 all ≡ Some e.1) es
    → Each (λ e. option_map (λ p. p.timestamp) (doubted e.0 ps) ≡ Some e.1) es
told_each ps all [] told h = tt
told_each ps all (e ∷ es) told h = (sym (told e.0) ∙ h.0, told_each ps all es told h.1)

pub gathers_none : (ps : List PreparedBranch) (times : BTreeMap Triple ℕ) → Pairwise named_apart ps → IsOrdered xid_cmp times → TimesOf ps times → Gathers ps times.entries []
gathers_none ps times apart ordered told = record {
  left = told_each ps times.entries times.entries told (each_found times.entries ordered);
  theirs = tt;
  all_there = λ p m. inl (member_at p.xid p.timestamp times.entries (told p.xid ∙ ap (option_map (λ q. q.timestamp)) (member_found p ps apart m)));
}

-- one more

record IsTimed (ps : List PreparedBranch) (e : Triple × ℕ) : Type 0 where
  branch : PreparedBranch
  found : doubted e.0 ps ≡ Some branch
  time : branch.timestamp ≡ e.1

timed_by : (ps : List PreparedBranch) (e : Triple × ℕ) (o : Option PreparedBranch) → doubted e.0 ps ≡ o → option_map (λ p. p.timestamp) o ≡ Some e.1 → IsTimed ps e
timed_by ps e None f told = absurd (cc told)
timed_by ps e (Some p) f told = record { branch = p; found = f; time = cc told }

three_parts : (xid name : Triple) (t u : ℕ) (ws vs : List Write) → xid ≡ name → t ≡ u → ws ≡ vs → ◌≡◌ {A = PreparedBranch} (record { xid = xid; timestamp = t; writes = ws }) (record { xid = name; timestamp = u; writes = vs })
three_parts xid name t u ws vs e f g = cc (e, f, g)

differs : (t u : ℕ) → (t == u) ≡ false → t ≡ u → ⊥
differs t u e same = absurd (grind (arith, nat_tests, e, same))

pub gathers_more : (ps : List PreparedBranch) (rest : List (Triple × ℕ)) (e : Triple × ℕ) (made : List (ℕ × InDoubt)) (v : InDoubt) → Pairwise prepares_before ps → v.xid ≡ e.0
    → ((p : PreparedBranch) → doubted e.0 ps ≡ Some p → e.1 ≡ p.timestamp → v.writes ≡ p.writes) → Gathers ps (e ∷ rest) made → Gathers ps rest (insert_entry nat_cmp made e.1 v)
gathers_more ps rest e made v order name told h =
    let x : IsTimed ps e = timed_by ps e (doubted e.0 ps) refl h.left.0 in
    let p = x.branch in
    let named : p.xid ≡ e.0 = xid_same p.xid e.0 (found_passes (λ q. xid_eq q.xid e.0) p ps x.found) in
    let here : as_prepared (e.1, v) ≡ p = three_parts v.xid p.xid e.1 p.timestamp v.writes p.writes (name ∙ sym named) (sym x.time) (told p x.found (sym x.time)) in
    let there : Member p ps = found_member e.0 p ps x.found in
    record {
      left = h.left.1;
      theirs = inserted_all (λ d. Member (as_prepared d) ps) e.1 v made (subst (λ (q : PreparedBranch). Member q ps) (sym here) there) h.theirs;
      all_there = λ q m. by p here there x.time q m (q.timestamp == e.1) refl (h.all_there q m);
    }
  where
    by : (p : PreparedBranch) → as_prepared (e.1, v) ≡ p → Member p ps → p.timestamp ≡ e.1 → (q : PreparedBranch) → Member q ps → (c : Bool) → (q.timestamp == e.1) ≡ c
        → Member (q.xid, q.timestamp) (e ∷ rest) ⊎ Member q (map as_prepared made) → Member (q.xid, q.timestamp) rest ⊎ Member q (map as_prepared (insert_entry nat_cmp made e.1 v))
    by p here there time q m true at o =
        let one : q.timestamp ≡ e.1 = grind (arith, nat_tests, at) in
        let low : nat_lt q.timestamp p.timestamp ≡ false = grind (arith, nat_tests, one, time) in
        let high : nat_lt p.timestamp q.timestamp ≡ false = grind (arith, nat_tests, one, time) in
        let same : q ≡ p = same_place_by prepares_before q p ps order low high m there in
        inr (subst (λ (z : PreparedBranch). Member z (map as_prepared (insert_entry nat_cmp made e.1 v))) (here ∙ sym same) (inserted_member as_prepared e.1 v made))
    by p here there time q m false at (inl (inl same)) = absurd (differs q.timestamp e.1 at (ap (λ (z : Triple × ℕ). z.1) same))
    by p here there time q m false at (inl (inr n)) = inl n
    by p here there time q m false at (inr n) = inr (others_stay as_prepared (λ z. z.timestamp) (λ d. refl) q e.1 v made (differs q.timestamp e.1 at) n)

-- with what the records list of it
pub gathers_next : (m : View) (xid : Triple) (t : ℕ) (writes listed : List Write) (before rest : List (Triple × ℕ)) (made after : List (ℕ × InDoubt)) → before ≡ (xid, t) ∷ rest
    → after ≡ insert_entry nat_cmp made t (record { xid = xid; writes = writes }) → writes ≡ listed → ((h : Accesses) → RecordsStandFor h m.records → IsUndecided t h.writes → IsWritesOf t h.writes listed)
    → ((s : State) → StandsFor m s → Gathers (durable s).prepared before made) → (s : State) → StandsFor m s → Gathers (durable s).prepared rest after
gathers_next m xid t writes listed before rest made after steps inserts copied told gathers s st =
    let ps = (durable s).prepared in
    subst (λ (es : List (ℕ × InDoubt)). Gathers ps rest es) (sym inserts)
    (gathers_more ps rest (xid, t) made (record { xid = xid; writes = writes }) (recoverable_durable s st.recoverable).prepared refl (λ p found time. copied ∙ told_held m s xid p t listed st found time told)
    (subst (λ (es : List (Triple × ℕ)). Gathers ps es made) steps (gathers s st)))

-- and after the last

prepares_strict : IsStrict prepares_before
prepares_strict = record { never = λ x. never x.timestamp }
  where
    never : (n : ℕ) → nat_lt n n ≡ false
    never n = grind (arith, nat_tests)

below_each : (t : ℕ) (es : List (ℕ × InDoubt)) → Each (λ k. nat_cmp t k ≡ Less) (keys_of es) → Each (λ p. nat_lt t p.timestamp ≡ true) (map as_prepared es)
below_each t [] h = tt
below_each t (e ∷ es) h = (lt_nat t e.0 ∙ ap is_lt h.0, below_each t es h.1)

in_order : (es : List (ℕ × InDoubt)) → IsStrictlySortedBy nat_cmp (keys_of es) → Pairwise prepares_before (map as_prepared es)
in_order [] s = tt
in_order (e ∷ es) s = (below_each e.0 es (sorted_head nat_cmp e.0 (keys_of es) s), in_order es (sorted_tail nat_cmp e.0 (keys_of es) s))

all_mapped : {A B : Type 0} (P : B → Type 0) (f : A → B) (xs : List A) → Each (λ x. P (f x)) xs → Each P (map f xs)
all_mapped P f [] h = tt
all_mapped P f (x ∷ xs) h = (h.0, all_mapped P f xs h.1)

pub gathers_all : (ps : List PreparedBranch) (rest : List (Triple × ℕ)) (made : List (ℕ × InDoubt)) → Pairwise prepares_before ps → IsStrictlySortedBy nat_cmp (keys_of made) → rest ≡ [] → Gathers ps rest made
    → map as_prepared made ≡ ps
gathers_all ps rest made order sorted none h =
    same_members prepares_before prepares_transitive prepares_strict (map as_prepared made) ps (in_order made sorted) order
    (λ z m. member_all (λ x. Member x ps) z (map as_prepared made) m (all_mapped (λ x. Member x ps) as_prepared made h.theirs))
    (λ z m. by z (h.all_there z m))
  where
    by : (z : PreparedBranch) → Member (z.xid, z.timestamp) rest ⊎ Member z (map as_prepared made) → Member z (map as_prepared made)
    by z (inl n) = absurd (subst (λ (es : List (Triple × ℕ)). Member (z.xid, z.timestamp) es) none n)
    by z (inr n) = n
