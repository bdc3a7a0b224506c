-- What branches, writes and XIDs of what lasted come to again, once a state is built of them.
use Rattle.std.proofs.Common.{◌≡◌, ℕ, ◌<◌, ◌==◌, Bool, true, false, List, [], ◌∷◌, ◌++◌, Some, refl, ap, ◌∙◌}
use Rattle.std.specs.Prelude.{map, bytes_eq}
use Rattle.std.specs.List.{AllByRecursion}
use Rattle.std.specs.Cmp.Lexicographic.{slice_cmp}
use Rattle.std.specs.Ordering.{nat_cmp, is_lt}
use Rattle.std.proofs.lemmas.Bool.{ltb-true}
use Rattle.xa_codes.specs.declared.write.Write.{Write}
use Rattle.xa_model.specs.State.{Branch, Decided}
use Rattle.xa_model.specs.Durable.{CommittedBranch, PreparedBranch, Pairwise, insert, commits_before, prepares_before, named_before, keys_before, by_name, put_write, writes_of}
use Rattle.xa_model.specs.Restarting.{wrote, committed_branch, prepared_branch, by_time}
use Rattle.xa_model.proofs.Inserts.{all_imply, IsTransitive}
use Rattle.xa_model.proofs.Members.{IsStrict, keys_strict, keys_transitive, names_strict, other_key}
use Rattle.xa_model.proofs.Tests.{names_transitive, less_apart}
use Rattle.xa_model.proofs.Splits.{parts, insert_front, all_append}
use Rattle.xa_model.proofs.Applied.{committed_of, prepared_of, committed_time, prepared_time}
use Rattle.xa_model.proofs.ByTime.{AreApart, AreWithin, IsTimed, add_least, add_none}

pub all_map : {A B : Type 0} (P : B → Type 0) (f : A → B) (xs : List A) → AllByRecursion (λ x. P (f x)) xs → AllByRecursion P (map f xs)
all_map P f [] h = tt
all_map P f (x ∷ xs) h = (h.0, all_map P f xs h.1)

-- of two in order the second isn't before the first
not_back_by : {A : Type 0} (before : A → A → Bool) (t : IsTransitive before) (s : IsStrict before) (x y : A) (c : Bool) → before y x ≡ c
    → before x y ≡ true → c ≡ false
not_back_by before t s x y false e h = refl
not_back_by before t s x y true e h = absurd (cc (t.trans x y x h e, s.never x))

not_back : {A : Type 0} (before : A → A → Bool) (t : IsTransitive before) (s : IsStrict before) (x y : A) → before x y ≡ true → before y x ≡ false
not_back before t s x y h = not_back_by before t s x y (before y x) refl h

-- XIDs

pub by_name_same : (ds : List Decided) → Pairwise named_before ds → by_name ds ≡ ds
by_name_same [] h = refl
by_name_same (d ∷ ds) h =
    ap (insert named_before d) (by_name_same ds h.1)
    ∙ insert_front named_before d ds
    (all_imply (λ e. named_before d e ≡ true) (λ e. named_before e d ≡ false)
    (λ e less. not_back named_before names_transitive names_strict d e less) ds h.0)

-- writes

put_first : (w : Write) (vs : List Write) → AllByRecursion (λ v. keys_before w v ≡ true) vs → put_write w vs ≡ w ∷ vs
put_first w [] h = refl
put_first w (v ∷ vs) h =
    let other : bytes_eq v.key w.key ≡ false = other_key w v h.0 in
    let behind : is_lt (slice_cmp nat_cmp v.key w.key) ≡ false = not_back keys_before keys_transitive keys_strict w v h.0 in
    rw (other, behind) refl

pub wrote_same : (ws : List Write) → Pairwise keys_before ws → writes_of (map wrote ws) ≡ ws
wrote_same [] h = refl
wrote_same (w ∷ ws) h = ap (put_write w) (wrote_same ws h.1) ∙ put_first w ws h.0

-- branches

committed_timed : IsTimed committed_of (λ (c : CommittedBranch). c.timestamp)
committed_timed = record { timed = λ b c e. committed_time b b.phase c e }

prepared_timed : IsTimed prepared_of (λ (p : PreparedBranch). p.timestamp)
prepared_timed = record { timed = λ b p e. prepared_time b b.phase p e }

abbrev pub AreByKey : List CommittedBranch → Type 0
AreByKey cs = AllByRecursion (λ c. Pairwise keys_before c.writes) cs

abbrev pub AreByKeyIn : List PreparedBranch → Type 0
AreByKeyIn ps = AllByRecursion (λ p. Pairwise keys_before p.writes) ps

remade : (c : CommittedBranch) → Pairwise keys_before c.writes → committed_of (committed_branch c) ≡ Some c
remade c h = ap (λ ws. Some (record { timestamp = c.timestamp; writes = ws })) (wrote_same c.writes h)

reprepared : (p : PreparedBranch) → Pairwise keys_before p.writes → prepared_of (prepared_branch p) ≡ Some p
reprepared p h = ap (λ ws. Some (record { xid = p.xid; timestamp = p.timestamp; writes = ws })) (wrote_same p.writes h)

pub committed_same : (limit : ℕ) (cs : List CommittedBranch) (qs : List Branch) → Pairwise commits_before cs → AreByKey cs
    → AreWithin limit (map committed_branch cs ++ qs) → AreApart (map committed_branch cs ++ qs)
    → parts committed_of (by_time qs) ≡ [] → parts committed_of (by_time (map committed_branch cs ++ qs)) ≡ cs
committed_same limit [] qs order keys within apart none = none
committed_same limit (c ∷ cs) qs order keys within apart none =
    add_least committed_of (λ (d : CommittedBranch). d.timestamp) committed_timed limit (committed_branch c)
    (map committed_branch cs ++ qs) c cs within.1 apart (remade c keys.0)
    (committed_same limit cs qs order.1 keys.1 within.1 apart.1 none)
    (all_imply (λ d. commits_before c d ≡ true) (λ d. c.timestamp < d.timestamp) (λ d less. ltb-true c.timestamp d.timestamp less) cs order.0)

pub none_committed : (limit : ℕ) (ps : List PreparedBranch) → AreWithin limit (map prepared_branch ps) → AreApart (map prepared_branch ps)
    → parts committed_of (by_time (map prepared_branch ps)) ≡ []
none_committed limit [] within apart = refl
none_committed limit (p ∷ ps) within apart =
    add_none committed_of limit (prepared_branch p) (map prepared_branch ps) within.1 apart refl ∙ none_committed limit ps within.1 apart.1

prepared_alone : (limit : ℕ) (ps : List PreparedBranch) → Pairwise prepares_before ps → AreByKeyIn ps → AreWithin limit (map prepared_branch ps)
    → AreApart (map prepared_branch ps)
    → parts prepared_of (by_time (map prepared_branch ps)) ≡ ps
prepared_alone limit [] order keys within apart = refl
prepared_alone limit (p ∷ ps) order keys within apart =
    add_least prepared_of (λ (q : PreparedBranch). q.timestamp) prepared_timed limit (prepared_branch p)
    (map prepared_branch ps) p ps within.1 apart (reprepared p keys.0)
    (prepared_alone limit ps order.1 keys.1 within.1 apart.1)
    (all_imply (λ q. prepares_before p q ≡ true) (λ q. p.timestamp < q.timestamp) (λ q less. ltb-true p.timestamp q.timestamp less) ps order.0)

pub prepared_same : (limit : ℕ) (cs : List CommittedBranch) (ps : List PreparedBranch) → Pairwise prepares_before ps → AreByKeyIn ps
    → AreWithin limit (map committed_branch cs ++ map prepared_branch ps) → AreApart (map committed_branch cs ++ map prepared_branch ps)
    → parts prepared_of (by_time (map committed_branch cs ++ map prepared_branch ps)) ≡ ps
prepared_same limit [] ps order keys within apart = prepared_alone limit ps order keys within apart
prepared_same limit (c ∷ cs) ps order keys within apart =
    add_none prepared_of limit (committed_branch c) (map committed_branch cs ++ map prepared_branch ps) within.1 apart refl
    ∙ prepared_same limit cs ps order keys within.1 apart.1

-- their timestamps are apart

apart_in : (ps : List PreparedBranch) → Pairwise prepares_before ps → AreApart (map prepared_branch ps)
apart_in [] h = tt
apart_in (p ∷ ps) h = (
  all_map (λ (b : Branch). (p.timestamp == b.timestamp) ≡ false) prepared_branch ps
      (all_imply (λ q. prepares_before p q ≡ true) (λ q. (p.timestamp == q.timestamp) ≡ false)
      (λ q less. (less_apart p.timestamp q.timestamp less).0) ps h.0),
  apart_in ps h.1,
)

pub are_apart : (cs : List CommittedBranch) (ps : List PreparedBranch) → Pairwise commits_before cs → Pairwise prepares_before ps
    → AllByRecursion (λ c. AllByRecursion (λ p. (c.timestamp == p.timestamp) ≡ false) ps) cs
    → AreApart (map committed_branch cs ++ map prepared_branch ps)
are_apart [] ps h k apart = apart_in ps k
are_apart (c ∷ cs) ps h k apart = (
  all_append (λ (b : Branch). (c.timestamp == b.timestamp) ≡ false) (map committed_branch cs) (map prepared_branch ps)
      (all_map (λ (b : Branch). (c.timestamp == b.timestamp) ≡ false) committed_branch cs
      (all_imply (λ d. commits_before c d ≡ true) (λ d. (c.timestamp == d.timestamp) ≡ false)
      (λ d less. (less_apart c.timestamp d.timestamp less).0) cs h.0))
      (all_map (λ (b : Branch). (c.timestamp == b.timestamp) ≡ false) prepared_branch ps apart.0),
  are_apart cs ps h.1 k apart.1,
)
