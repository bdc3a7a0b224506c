-- What a row's refusals leave, and what is known of an XID then.
use Rattle.std.proofs.Common.{◌≡◌, ℕ, ◌<◌, nat_lt, Bool, true, false, not, ◌||◌, cond, List, Option, Some, None, refl, arith}
use Rattle.std.specs.Prelude.{find, is_some, option_map}
use Rattle.std.proofs.lemmas.Bool.Decides.{nat_tests}
use Rattle.xa_codes.specs.declared.direction.Direction.{Direction}
use Rattle.xa_frame.specs.declared.reply.Reply.{Reply}
use Rattle.xa_xid.specs.Triple.{Triple, xid_eq}
use Rattle.xa_model.specs.State.{State, Branch, Phase, Working, Prepared, Committed, Decided, Association, count, is_known_as, known_of, decided_of, known_by, known_among, known_as, active_of, is_active, is_working, is_at_work}
use Rattle.xa_model.specs.Associations.{is_taken, is_unknown, is_lasting}
use Rattle.xa_model.specs.Invariants.Sound.{named}
use Rattle.xa_model.proofs.Counts.{count_none}
use Rattle.xa_model.proofs.Lists.{found_passes}

-- where nothing is refused, no check applies
pub passed : (c : Bool) (r : Reply) (others : Option Reply) → cond c (Some r) others ≡ None → (c ≡ false) × (others ≡ None)
passed true r others e = absurd (cc e)
passed false r others e = (refl, e)

pub below : (k limit : ℕ) → not (nat_lt k limit) ≡ false → k < limit
below k limit e = grind (arith, nat_tests)

pub neither : (a b : Bool) → (a || b) ≡ false → (a ≡ false) × (b ≡ false)
neither true b e = absurd (cc e)
neither false b e = (refl, e)

pub nothing : {A : Type 0} (o : Option A) → is_some o ≡ false → o ≡ None
nothing None e = refl
nothing (Some x) e = absurd (cc e)

mapped_nothing : {A B : Type 0} (f : A → B) (o : Option A) → option_map f o ≡ None → o ≡ None
mapped_nothing f None e = refl
mapped_nothing f (Some x) e = absurd (cc e)

-- a session that isn't at work has no active association
pub idle_count : (n : ℕ) (held : List Association) → is_some (active_of held n) ≡ false → count (λ a. is_active n a.holder) held ≡ 0
idle_count n held e =
    count_none (λ a. is_active n a.holder) held
    (mapped_nothing (λ a. a.xid) (find (λ a. is_active n a.holder) held) (nothing (active_of held n) e))

-- an XID of which nothing is known has no name among branches and completed ones

no_name : (xid : Triple) (b : Branch) (p : Phase) → b.phase ≡ p → is_known_as xid b ≡ true → is_taken (known_by p) ≡ false → ⊥
no_name xid b (Working x work) e is free = cc free
no_name xid b (Prepared x) e is free = cc free
no_name xid b Committed e is free = let no : false ≡ true = simp e at is in cc no

untaken : (xid : Triple) (bs : List Branch) (ds : List Decided) (o : Option Branch) (d : Option Direction) → known_of bs xid ≡ o → decided_of ds xid ≡ d → is_taken (known_among o d) ≡ false
    → (known_of bs xid ≡ None) × (decided_of ds xid ≡ None)
untaken xid bs ds (Some b) d e k free = absurd (no_name xid b b.phase refl (found_passes (is_known_as xid) b bs e) free)
untaken xid bs ds None (Some direction) e k free = absurd (cc free)
untaken xid bs ds None None e k free = (e, k)

pub new_named : (s : State) (xid : Triple) → is_taken (known_as s xid) ≡ false → named s xid ≡ 0
new_named s xid free =
    let none = untaken xid s.branches s.decided (known_of s.branches xid) (decided_of s.decided xid) refl refl free in
    let first_none : count (is_known_as xid) s.branches ≡ 0 = count_none (is_known_as xid) s.branches none.0 in
    let second_none : count (λ d. xid_eq d.xid xid) s.decided ≡ 0 = count_none (λ d. xid_eq d.xid xid) s.decided (mapped_nothing (λ d. d.direction) (find (λ d. xid_eq d.xid xid) s.decided) none.1) in
    omega arith

-- an XID that is known and not settled is of a branch at work

at_work_by : (o : Option Branch) (d : Option Direction) → is_unknown (known_among o d) ≡ false → is_lasting (known_among o d) ≡ false → is_at_work o ≡ true
at_work_by (Some b) d known unsettled = by_phase b.phase known unsettled
  where
    by_phase : (p : Phase) → is_unknown (known_by p) ≡ false → is_lasting (known_by p) ≡ false → is_working p ≡ true
    by_phase (Working x work) known unsettled = refl
    by_phase (Prepared x) known unsettled = absurd (cc unsettled)
    by_phase Committed known unsettled = absurd (cc known)
at_work_by None (Some direction) known unsettled = absurd (cc unsettled)
at_work_by None None known unsettled = absurd (cc known)

pub at_work : (s : State) (xid : Triple) → is_unknown (known_as s xid) ≡ false → is_lasting (known_as s xid) ≡ false → is_at_work (known_of s.branches xid) ≡ true
at_work s xid known unsettled = at_work_by (known_of s.branches xid) (decided_of s.decided xid) known unsettled
