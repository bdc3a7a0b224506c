-- The low water where branches change: where they keep their names and timestamps it stays, and else it rises. The floor of
-- work doesn't fall.
use Rattle.std.proofs.Common.{◌≡◌, ℕ, ℤ, ◌+◌, ◌≤◌, Bool, true, false, cond, List, [], ◌∷◌, Option, Some, None, map, is_some, unwrap_or, refl, sym, ◌∙◌, ap, arith}
use Rattle.xa_codes.specs.declared.direction.Direction.{Direction}
use Rattle.xa_codes.specs.declared.direction.Direction.TheVariants as direction
use Rattle.xa_xid.specs.Triple.{Triple}
use Rattle.xa_model.specs.State.{State, Branch, Operation, Association, name_of, is_known_as, is_with, known_of, timestamp_of, change, limit_of}
use Rattle.xa_model.specs.Associations.{begun, with_mark, left_behind}
use Rattle.xa_model.specs.Phases.{rolled_back, committed, as_prepared, decided_by}
use Rattle.xa_model.specs.TimeLimits.{timed_out}
use Rattle.xa_model.specs.Data.{having_done}
use Rattle.xa_model.specs.Invariants.Sound.{IsSound}
use Rattle.xa_model.specs.Invariants.LowWater.{is_known, least_known, low_water, work_floor}
use Rattle.xa_model.proofs.Doubts.{prepared_name}
use Rattle.xa_model.proofs.Lists.{found_all, found_passes}
use Rattle.xa_model.proofs.LowWaters.{below_known, below_next, rises}
use Rattle.xa_model.proofs.Marks.{mark_keeps, left_keeps, timed_keeps}
use Rattle.xa_model.proofs.Moves.{begins}
use Rattle.xa_model.proofs.MovingRows.{gone, commits, prepared_idle}
use Rattle.xa_model.proofs.Parts.{KeepsName}
use Rattle.xa_model.proofs.WorkFloors.{KeepsWork, lifts, changed_floor, mapped_floor}

-- a known branch isn't below it, nor is the next

named_known : (xid : Triple) (o : Option Triple) → is_with xid o ≡ true → is_some o ≡ true
named_known xid None e = absurd (cc e)
named_known xid (Some x) e = refl

pub water_known : (s : State) (xid : Triple) (b : Branch) → known_of s.branches xid ≡ Some b → low_water s ≤ b.timestamp
water_known s xid b found =
    found_all (λ (c : Branch). is_known c ≡ true → low_water s ≤ c.timestamp) (is_known_as xid) b s.branches (below_known s) found
    (named_known xid (name_of b.phase) (found_passes (is_known_as xid) b s.branches found))

pub water_next : (s : State) → IsSound s → low_water s ≤ timestamp_of s.boot (s.given + 1)
water_next s h = omega (arith, below_next s (s.given + 1) h (omega arith))

-- a branch begins, or is completed

pub begun_water : (s : State) (n : ℕ) (xid : Triple) → IsSound s → low_water s ≤ low_water (begun s n xid).after
begun_water s n xid h = rises s (begun s n xid).after h (begins xid s.moment (limit_of s n))

pub committed_water : (s : State) (xid : Triple) → IsSound s → low_water s ≤ low_water (committed s xid)
committed_water s xid h = rises s (committed s xid) h (commits s xid)

pub rolled_back_water : (s : State) (xid : Triple) → IsSound s → low_water s ≤ low_water (rolled_back s xid)
rolled_back_water s xid h = rises s (rolled_back s xid) h (gone s xid)

pub decided_water : (s : State) (way : Direction) (xid : Triple) → IsSound s → low_water s ≤ low_water (decided_by s way xid)
decided_water s direction.Commit xid h = committed_water s xid h
decided_water s direction.Rollback xid h = rolled_back_water s xid h

-- Branches that keep their names and their timestamps

abbrev KeepsNames : (Branch → Branch) → Type 0
KeepsNames f = ((b : Branch) → name_of (f b).phase ≡ name_of b.phase) × ((b : Branch) → (f b).timestamp ≡ b.timestamp)

least_by : (f : Branch → Branch) → KeepsNames f → (b : Branch) (bs ys : List Branch) (c : Bool) → least_known ys ≡ least_known bs
    → least_known (cond c (f b ∷ bs) (b ∷ ys)) ≡ least_known (b ∷ bs)
least_by f k b bs ys true rest = rw (k.0 b, k.1 b) refl
least_by f k b bs ys false rest = rw rest refl

pub least_change : (p : Branch → Bool) (f : Branch → Branch) → KeepsNames f → (bs : List Branch) → least_known (change p f bs) ≡ least_known bs
least_change p f k [] = refl
least_change p f k (b ∷ bs) = least_by f k b bs (change p f bs) (p b) (least_change p f k bs)

pub least_map : (f : Branch → Branch) → KeepsNames f → (bs : List Branch) → least_known (map f bs) ≡ least_known bs
least_map f k [] = refl
least_map f k (b ∷ bs) = rw (k.0 b, k.1 b, least_map f k bs) refl

-- of a state with these branches
abbrev water_of : State → Option ℕ → ℕ
water_of s o = unwrap_or o (timestamp_of s.boot s.given)

pub marked_water : (s : State) (code : ℤ) (xid : Triple) → low_water (record s { branches = change (is_known_as xid) (with_mark code) s.branches }) ≡ low_water s
marked_water s code xid = ap (water_of s) (least_change (is_known_as xid) (with_mark code) ((mark_keeps code).name, (λ b. refl)) s.branches)

pub left_water : (s : State) (held : List Association) (n : ℕ) → low_water (record s { branches = map (left_behind held n) s.branches }) ≡ low_water s
left_water s held n = ap (water_of s) (least_map (left_behind held n) ((left_keeps held n).name, (left_keeps held n).time.same) s.branches)

pub timed_water : (s : State) (moment : ℕ) → low_water (record s { branches = map (timed_out moment) s.branches }) ≡ low_water s
timed_water s moment = ap (water_of s) (least_map (timed_out moment) ((timed_keeps moment).name, (timed_keeps moment).time.same) s.branches)

pub prepared_water : (s : State) (xid : Triple) → low_water (record s { branches = change (is_known_as xid) as_prepared s.branches }) ≡ low_water s
prepared_water s xid = ap (water_of s) (least_change (is_known_as xid) as_prepared ((λ b. prepared_name b.phase), (λ b. refl)) s.branches)

pub done_water : (s : State) (xid : Triple) (op : Operation) → low_water (record s { branches = change (is_known_as xid) (having_done op) s.branches }) ≡ low_water s
done_water s xid op = ap (water_of s) (least_change (is_known_as xid) (having_done op) ((λ b. refl), (λ b. refl)) s.branches)

-- The floor of work

pub begun_floor : (s : State) (n : ℕ) (xid : Triple) → work_floor s ≤ work_floor (begun s n xid).after
begun_floor s n xid = lifts s (begun s n xid).after (begins xid s.moment (limit_of s n))

pub committed_floor : (s : State) (xid : Triple) → work_floor s ≤ work_floor (committed s xid)
committed_floor s xid = lifts s (committed s xid) (commits s xid)

pub rolled_back_floor : (s : State) (xid : Triple) → work_floor s ≤ work_floor (rolled_back s xid)
rolled_back_floor s xid = lifts s (rolled_back s xid) (gone s xid)

-- who keeps its name keeps its work
named_work : (f : Branch → Branch) → KeepsName f → KeepsWork f
named_work f k = record { time = k.time.same; works = λ b e. sym (k.working b) ∙ e }

pub marked_floor : (s : State) (code : ℤ) (xid : Triple) → work_floor s ≤ work_floor (record s { branches = change (is_known_as xid) (with_mark code) s.branches })
marked_floor s code xid = changed_floor s (is_known_as xid) (with_mark code) (named_work (with_mark code) (mark_keeps code))

pub left_floor : (s : State) (held : List Association) (n : ℕ) → work_floor s ≤ work_floor (record s { branches = map (left_behind held n) s.branches })
left_floor s held n = mapped_floor s (left_behind held n) (named_work (left_behind held n) (left_keeps held n))

pub timed_floor : (s : State) (moment : ℕ) → work_floor s ≤ work_floor (record s { branches = map (timed_out moment) s.branches })
timed_floor s moment = mapped_floor s (timed_out moment) (named_work (timed_out moment) (timed_keeps moment))

pub prepared_floor : (s : State) (xid : Triple) → work_floor s ≤ work_floor (record s { branches = change (is_known_as xid) as_prepared s.branches })
prepared_floor s xid = changed_floor s (is_known_as xid) as_prepared (record { time = λ b. refl; works = λ b e. absurd (prepared_idle b.phase e) })

pub done_floor : (s : State) (xid : Triple) (op : Operation) → work_floor s ≤ work_floor (record s { branches = change (is_known_as xid) (having_done op) s.branches })
done_floor s xid op = changed_floor s (is_known_as xid) (having_done op) (record { time = λ b. refl; works = λ b e. e })
