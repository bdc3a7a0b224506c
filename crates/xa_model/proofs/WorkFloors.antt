-- The floor of work: no branch works below it, and it never falls.
use Rattle.std.proofs.Common.{◌≡◌, ℕ, ◌+◌, ◌≤◌, Bool, true, false, cond, List, [], ◌∷◌, Some, map, refl, sym, subst, arith}
use Rattle.std.specs.List.{AllByRecursion}
use Rattle.xa_xid.specs.Triple.{Triple}
use Rattle.xa_model.specs.State.{State, Branch, Operation, is_known_as, is_working, timestamp_of, change, new_work, new_branch}
use Rattle.xa_model.specs.Data.{having_done, did}
use Rattle.xa_model.specs.Step.{turn}
use Rattle.xa_model.specs.Invariants.LowWater.{lesser, least_working, work_floor}
use Rattle.xa_model.specs.Laws.LowWater.{WorksAbove, BeginsAbove, FloorNeverFalls}
use Rattle.xa_model.proofs.Inserts.{all_imply}
use Rattle.xa_model.proofs.Lists.{change_all}
use Rattle.xa_model.proofs.LowWaters.{lesser_first}
use Rattle.xa_model.proofs.Moves.{Core, core, Remain, Moves, remains, restarts, trims, begins, gets, walks, puts}
use Rattle.xa_model.proofs.MovingRows.{Moved}
use Rattle.xa_model.proofs.MovingTurns.{turn_moved}
use Rattle.xa_model.proofs.Pins.{remain_all}
use Rattle.xa_model.proofs.Rebuilt.{all_map}
use Rattle.xa_model.proofs.Replies.{taken_all}

-- what is at most the timestamp of each branch at work
abbrev pub WorkFrom : ℕ → List Branch → Type 0
WorkFrom m bs = AllByRecursion (λ b. is_working b.phase ≡ true → m ≤ b.timestamp) bs

-- the least is, whatever is taken with it
from_least_by : (m t : ℕ) (b : Branch) (bs : List Branch) (c : Bool) → is_working b.phase ≡ c
    → m ≤ lesser t (cond c (Some (lesser b.timestamp (least_working bs))) (least_working bs))
    → ((u : ℕ) → m ≤ lesser u (least_working bs) → WorkFrom m bs) → WorkFrom m (b ∷ bs)
from_least_by m t b bs true e less rest =
    let least : m ≤ lesser b.timestamp (least_working bs) = omega (arith, less) in
    ((λ works. omega (arith, least, lesser_first b.timestamp (least_working bs))), rest b.timestamp least)
from_least_by m t b bs false e less rest = ((λ works. absurd (cc (e, works))), rest t less)

pub from_least : (m t : ℕ) (bs : List Branch) → m ≤ lesser t (least_working bs) → WorkFrom m bs
from_least m t [] less = tt
from_least m t (b ∷ bs) less = from_least_by m t b bs (is_working b.phase) refl less (λ u k. from_least m u bs k)

-- and what is so is at most the least
to_least_by : (m t : ℕ) (b : Branch) (bs : List Branch) (c : Bool) → is_working b.phase ≡ c → m ≤ t → (is_working b.phase ≡ true → m ≤ b.timestamp)
    → ((u : ℕ) → m ≤ u → m ≤ lesser u (least_working bs))
    → m ≤ lesser t (cond c (Some (lesser b.timestamp (least_working bs))) (least_working bs))
to_least_by m t b bs true e less h rest = omega (arith, less, rest b.timestamp (h e))
to_least_by m t b bs false e less h rest = rest t less

pub to_least : (m t : ℕ) (bs : List Branch) → m ≤ t → WorkFrom m bs → m ≤ lesser t (least_working bs)
to_least m t [] less h = less
to_least m t (b ∷ bs) less h = to_least_by m t b bs (is_working b.phase) refl less h.0 (λ u k. to_least m u bs k h.1)

-- of a state, and of what moves of timestamps leave of it

abbrev pub floor : Core → ℕ
floor c = lesser (timestamp_of c.boot 0) (least_working c.branches)

floor_works : (c : Core) → WorkFrom (floor c) c.branches
floor_works c = from_least (floor c) (timestamp_of c.boot 0) c.branches (omega arith)

floor_boot : (c : Core) → floor c ≤ timestamp_of c.boot 0
floor_boot c = lesser_first (timestamp_of c.boot 0) (least_working c.branches)

pub works_above : WorksAbove
works_above s = floor_works (core s)

pub begins_above : BeginsAbove
begins_above s n more = omega (arith, floor_boot (core s), more)

-- where no branch works that didn't, it doesn't fall
pub floor_stays : (c d : Core) → c.boot ≤ d.boot → (WorkFrom (floor c) c.branches → WorkFrom (floor c) d.branches) → floor c ≤ floor d
floor_stays c d boots keeps =
    to_least (floor c) (timestamp_of d.boot 0) d.branches (omega (arith, floor_boot c, boots)) (keeps (floor_works c))

remain_from : (m : ℕ) {bs cs : List Branch} → Remain bs cs → WorkFrom m bs → WorkFrom m cs
remain_from m r h =
    remain_all (λ (b : Branch). is_working b.phase ≡ true → m ≤ b.timestamp) (λ (b : Branch). is_working b.phase ≡ true → m ≤ b.timestamp)
    (λ b c g from works. subst (λ (t : ℕ). m ≤ t) (sym g.timestamp) (from (g.works works))) r h

idle_from : (m : ℕ) (bs : List Branch) → AllByRecursion (λ (b : Branch). is_working b.phase ≡ false) bs → WorkFrom m bs
idle_from m bs h =
    all_imply (λ (b : Branch). is_working b.phase ≡ false) (λ (b : Branch). is_working b.phase ≡ true → m ≤ b.timestamp)
    (λ b still works. absurd (cc (still, works))) bs h

done_lifts : (c : Core) (xid : Triple) (op : Operation) → floor c ≤ lesser (timestamp_of c.boot 0) (least_working (did xid op c.branches))
done_lifts c xid op =
    floor_stays c (record c { branches = did xid op c.branches }) (omega arith)
    (change_all (λ (b : Branch). is_working b.phase ≡ true → floor c ≤ b.timestamp) (is_known_as xid) (having_done op) (λ x k. k) c.branches)

-- at the boot's 0th, where no branch works
pub idle_floor : (s : State) → AllByRecursion (λ (b : Branch). is_working b.phase ≡ false) s.branches → timestamp_of s.boot 0 ≤ work_floor s
idle_floor s h = to_least (timestamp_of s.boot 0) (timestamp_of s.boot 0) s.branches (omega arith) (idle_from (timestamp_of s.boot 0) s.branches h)

pub moves_lift : {c d : Core} → Moves c d → floor c ≤ floor d
moves_lift {c} (remains bs r) = floor_stays c (record c { branches = bs }) (omega arith) (remain_from (floor c) r)
moves_lift {c} (restarts boot bs less r idle) =
    floor_stays c (record { boot = boot; given = 0; branches = bs; reads = [] }) (omega (arith, less)) (λ h. idle_from (floor c) bs idle)
moves_lift {c} (trims boot less) = floor_stays c (record c { boot = boot; given = 0 }) (omega (arith, less)) (λ h. h)
moves_lift {c} (begins xid start limit) =
    let new = new_branch (timestamp_of c.boot (c.given + 1)) xid (new_work start limit) in
    floor_stays c (record c { given = c.given + 1; branches = new ∷ c.branches }) (omega arith) (λ h. ((λ works. omega (arith, floor_boot c)), h))
moves_lift {c} (gets key xid b found free) = done_lifts c xid _
moves_lift {c} (walks range records stamps xid b found sees) = done_lifts c xid _
moves_lift {c} (puts key value xid b found works on_time) = done_lifts c xid _

pub lifts : (s t : State) → Moves (core s) (core t) → work_floor s ≤ work_floor t
lifts s t m = moves_lift m

pub floor_never_falls : FloorNeverFalls
floor_never_falls s happening outcome a h e =
    let moves : Moved s a = taken_all (Moved s) (turn s happening) outcome a (turn_moved s happening h) e in lifts s a.after moves

-- branches that keep their timestamps, and don't come back to work

pub record KeepsWork (f : Branch → Branch) : Type 0 where
  pub time : (b : Branch) → (f b).timestamp ≡ b.timestamp
  pub works : (b : Branch) → is_working (f b).phase ≡ true → is_working b.phase ≡ true

keeps_from : (m : ℕ) (f : Branch → Branch) → KeepsWork f → (b : Branch) → (is_working b.phase ≡ true → m ≤ b.timestamp)
    → is_working (f b).phase ≡ true → m ≤ (f b).timestamp
keeps_from m f k b from works = subst (λ (t : ℕ). m ≤ t) (sym (k.time b)) (from (k.works b works))

pub changed_floor : (s : State) (p : Branch → Bool) (f : Branch → Branch) → KeepsWork f → work_floor s ≤ work_floor (record s { branches = change p f s.branches })
changed_floor s p f k =
    floor_stays (core s) (core (record s { branches = change p f s.branches })) (omega arith)
    (change_all (λ (b : Branch). is_working b.phase ≡ true → work_floor s ≤ b.timestamp) p f (keeps_from (work_floor s) f k) s.branches)

pub mapped_floor : (s : State) (f : Branch → Branch) → KeepsWork f → work_floor s ≤ work_floor (record s { branches = map f s.branches })
mapped_floor s f k = floor_stays (core s) (core (record s { branches = map f s.branches })) (omega arith)
    (λ h. all_map (λ (b : Branch). is_working b.phase ≡ true → work_floor s ≤ b.timestamp) f s.branches
    (all_imply (λ (b : Branch). is_working b.phase ≡ true → work_floor s ≤ b.timestamp)
    (λ (b : Branch). is_working (f b).phase ≡ true → work_floor s ≤ (f b).timestamp) (keeps_from (work_floor s) f k) s.branches h))
