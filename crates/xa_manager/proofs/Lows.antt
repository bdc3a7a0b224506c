-- From where on a state's history counts: at most the timestamp of a branch at work, and no lower where the floor of work and
-- the low water are no lower.
use Rattle.std.proofs.Common.{◌≡◌, ◌≤◌, Some, true, arith}
use Rattle.xa_xid.specs.Triple.{Triple}
use Rattle.mv_rules.specs.Ties.{low_of}
use Rattle.xa_model.specs.State.{State, Branch, is_known_as, is_working, known_of}
use Rattle.xa_model.specs.Invariants.LowWater.{low_water, work_floor}
use Rattle.xa_model.proofs.ChangedWaters.{water_known}
use Rattle.xa_model.proofs.Lists.{found_all}
use Rattle.xa_model.proofs.WorkFloors.{works_above}

pub low_under : (s : State) (xid : Triple) (b : Branch) → known_of s.branches xid ≡ Some b → is_working b.phase ≡ true → low_of s ≤ b.timestamp
low_under s xid b found works =
    let floor : work_floor s ≤ b.timestamp
    = found_all (λ (c : Branch). is_working c.phase ≡ true → work_floor s ≤ c.timestamp) (is_known_as xid) b s.branches (works_above s) found works in
    omega (arith, floor, water_known s xid b found)

pub rises_with : (s t : State) → work_floor s ≤ work_floor t → low_water s ≤ low_water t → low_of s ≤ low_of t
rises_with s t floor water = omega (arith, floor, water)

pub stays_with : (s t : State) → work_floor s ≤ work_floor t → low_water t ≡ low_water s → low_of s ≤ low_of t
stays_with s t floor same = rises_with s t floor (omega (arith, same))
