-- What a sound state would leave is in the one form.
use Rattle.std.proofs.Common.{◌≡◌, ℕ, ◌+◌, ◌<◌, ◌≤◌, ◌==◌, Bool, true, false, cond, List, [], ◌∷◌, Option, Some, subst, sym, ◌∙◌, arith}
use Rattle.std.specs.List.{AllByRecursion}
use Rattle.std.proofs.lemmas.Bool.{not_from_false}
use Rattle.std.proofs.lemmas.Bool.Decides.{nat_tests}
use Rattle.xa_codes.specs.declared.write.Write.{Write}
use Rattle.xa_xid.specs.Triple.{Triple, xid_eq}
use Rattle.xa_xid.proofs.Same.{xid_eq_itself}
use Rattle.xa_model.specs.State.{State, Branch, Phase, Working, Prepared, Committed, Decided, count, is_known_as}
use Rattle.xa_model.specs.Invariants.Sound.{IsSound, Descends}
use Rattle.xa_model.specs.Durable.{CommittedBranch, PreparedBranch, Pairwise, writes_of, committed_part, prepared_part, named_apart, is_prepared, is_past}
use Rattle.xa_model.specs.Laws.Durable.{LeavesDurable}
use Rattle.xa_model.proofs.Inserts.{all_imply, none_passes}
use Rattle.xa_model.proofs.LastWrites.{last_all, last_pairwise, last_are_last}
use Rattle.xa_model.proofs.Ascending.{parts, add, parts-cons, all_add, pairwise_add, parts_below, parts_pairwise, parts_none, one_by, fewer_by}
use Rattle.xa_model.proofs.AppliedDecisions.{all_by_name, names_ascend}
use Rattle.xa_model.proofs.Remains.{left, left_timed, held_of, held_timed, held_named, time, time_of, limit, distinct_names}

-- timestamps

less_apart : (t u n : ℕ) → t < n → u ≡ n → ((u == t) ≡ false) × ((t == u) ≡ false)
less_apart t u n less e = (grind (arith, nat_tests), grind (arith, nat_tests))

one_phase : (t : ℕ) (ws : List Write) (phase : Phase) (x : CommittedBranch) (y : PreparedBranch) → committed_part t ws phase ≡ Some x → prepared_part t ws phase ≡ Some y → ⊥
one_phase t ws (Working xid work) x y e f = absurd (cc e)
one_phase t ws (Prepared xid) x y e f = absurd (cc e)
one_phase t ws Committed x y e f = absurd (cc f)

abbrev AreApart : List CommittedBranch → List PreparedBranch → Type 0
AreApart cs ps = AllByRecursion (λ c. AllByRecursion (λ p. (c.timestamp == p.timestamp) ≡ false) ps) cs

apart_both : (b : Branch) (bs : List Branch) → Descends b.timestamp bs → AreApart (parts left bs) (parts held_of bs) → AreApart (add (left b) (parts left bs)) (add (held_of b) (parts held_of bs))
apart_both b bs d h =
    all_add (λ c. AllByRecursion (λ p. (c.timestamp == p.timestamp) ≡ false) (add (held_of b) (parts held_of bs))) (left b) (parts left bs)
    (λ x e.
    all_add (λ p. (x.timestamp == p.timestamp) ≡ false) (held_of b) (parts held_of bs) (λ y f. absurd (one_phase b.timestamp (writes_of b.operations) b.phase x y e f))
    (all_imply (λ p. time_of p < b.timestamp) (λ p. (x.timestamp == p.timestamp) ≡ false) (λ p less. (less_apart p.timestamp x.timestamp b.timestamp less (left_timed.timed b x e)).0) (parts held_of bs)
    (parts_below held_of time_of held_timed b.timestamp bs d)))
    (with_held (parts left bs) h (parts_below left time left_timed b.timestamp bs d))
  where
    with_held : (cs : List CommittedBranch) → AreApart cs (parts held_of bs) → AllByRecursion (λ c. time c < b.timestamp) cs → AreApart cs (add (held_of b) (parts held_of bs))
    with_held [] h k = tt
    with_held (c ∷ cs) h k =
        (all_add (λ p. (c.timestamp == p.timestamp) ≡ false) (held_of b) (parts held_of bs) (λ y f. (less_apart c.timestamp y.timestamp b.timestamp k.0 (held_timed.timed b y f)).1) h.0, with_held cs h.1 k.1)

apart : (n : ℕ) (bs : List Branch) → Descends n bs → AreApart (parts left bs) (parts held_of bs)
apart n [] d = tt
apart n (b ∷ bs) d =
    subst (λ (cs : List CommittedBranch). AreApart cs (parts held_of (b ∷ bs))) (sym (parts-cons left b bs))
    (subst (AreApart (add (left b) (parts left bs))) (sym (parts-cons held_of b bs)) (apart_both b bs d.2 (apart b.timestamp bs d.2)))

past : {A : Type 0} (P : ℕ → Type 0) (h : Branch → Option A) (at : A → ℕ) (timed : (b : Branch) (x : A) → h b ≡ Some x → at x ≡ b.timestamp) (bs : List Branch) → AllByRecursion (λ b. P b.timestamp) bs
    → AllByRecursion (λ x. P (at x)) (parts h bs)
past P h at timed [] k = tt
past P h at timed (b ∷ bs) k =
    subst (AllByRecursion (λ x. P (at x))) (sym (parts-cons h b bs)) (all_add (λ x. P (at x)) (h b) (parts h bs) (λ x e. subst P (sym (timed b x e)) k.0) (past P h at timed bs k.1))

-- XIDs

named_once : (bs : List Branch) → ((xid : Triple) → count (is_known_as xid) bs ≤ 1) → Pairwise named_apart (parts held_of bs)
named_once [] h = tt
named_once (b ∷ bs) h =
    subst (Pairwise named_apart) (sym (parts-cons held_of b bs))
    (pairwise_add named_apart (held_of b) (parts held_of bs) (named_once bs (λ xid. fewer_by (is_known_as xid) bs (is_known_as xid b) (h xid)))
    (λ x e.
    let known : is_known_as x.xid b ≡ true = sym ((held_named x.xid).named b x e) ∙ xid_eq_itself x.xid in
    all_imply (λ y. xid_eq y.xid x.xid ≡ false) (λ y. named_apart y x ≡ true) (λ y k. not_from_false (xid_eq y.xid x.xid) k) (parts held_of bs)
    (parts_none held_of (is_known_as x.xid) (λ p. xid_eq p.xid x.xid) (held_named x.xid) bs (one_by (is_known_as x.xid) bs (is_known_as x.xid b) (h x.xid) known))))

counted_by : (q : Decided → Bool) (d : Decided) (ds : List Decided) → 1 ≤ count q ds → 1 ≤ count q (d ∷ ds)
counted_by q d ds h = by_test (q d)
  where
    by_test : (c : Bool) → 1 ≤ cond c 1 0 + count q ds
    by_test true = omega arith
    by_test false = omega arith

here_counted : (q : Decided → Bool) (d : Decided) (ds : List Decided) → q d ≡ true → 1 ≤ count q (d ∷ ds)
here_counted q d ds e = rw e (omega arith)

each_counted : (ds : List Decided) → AllByRecursion (λ d. 1 ≤ count (λ e. xid_eq e.xid d.xid) ds) ds
each_counted [] = tt
each_counted (d ∷ ds) = (
  here_counted (λ e. xid_eq e.xid d.xid) d ds (xid_eq_itself d.xid),
  all_imply (λ f. 1 ≤ count (λ e. xid_eq e.xid f.xid) ds) (λ f. 1 ≤ count (λ e. xid_eq e.xid f.xid) (d ∷ ds)) (λ f k. counted_by (λ e. xid_eq e.xid f.xid) d ds k) ds (each_counted ds),
)

none_prepared : (s : State) (h : IsSound s) (xid : Triple) → 1 ≤ count (λ e. xid_eq e.xid xid) s.decided → is_prepared xid (parts held_of s.branches) ≡ false
none_prepared s h xid some =
    let none : count (is_known_as xid) s.branches ≡ 0 = omega (arith, h.distinct xid) in
    none_passes (λ p. xid_eq p.xid xid) (parts held_of s.branches) (parts_none held_of (is_known_as xid) (λ p. xid_eq p.xid xid) (held_named xid) s.branches none)

pub leaves_durable : LeavesDurable
leaves_durable s h k = record {
  committed = last_pairwise (parts left s.branches) (parts_pairwise left time left_timed (limit s) s.branches h.descends);
  prepared = parts_pairwise held_of time_of held_timed (limit s) s.branches h.descends;
  decided = names_ascend s.decided (distinct_names s h);
  apart = last_all (λ u. AllByRecursion (λ p. (u == p.timestamp) ≡ false) (parts held_of s.branches)) (parts left s.branches) (apart (limit s) s.branches h.descends);
  committed_past = last_all (λ u. is_past (s.logged_boot + 1) u ≡ true) (parts left s.branches) (past (λ u. is_past (s.logged_boot + 1) u ≡ true) left time left_timed.timed s.branches k);
  prepared_past = past (λ u. is_past (s.logged_boot + 1) u ≡ true) held_of time_of held_timed.timed s.branches k;
  last = last_are_last (parts left s.branches);
  distinct = named_once s.branches (λ xid. omega (arith, h.distinct xid));
  unknown = all_by_name (λ e. is_prepared e.xid (parts held_of s.branches) ≡ false) s.decided
      (all_imply (λ d. 1 ≤ count (λ e. xid_eq e.xid d.xid) s.decided) (λ e. is_prepared e.xid (parts held_of s.branches) ≡ false) (λ d some. none_prepared s h d.xid some) s.decided (each_counted s.decided));
}
