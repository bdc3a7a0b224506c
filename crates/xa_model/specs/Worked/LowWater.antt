-- Worked rows of the low water, computed on the definitions alone.
use Rattle.std.specs.Prelude.{◌≡◌, []}
use Rattle.xa_codes.specs.declared.direction.Direction.TheVariants as direction
use Rattle.xa_xid.specs.Triple.{Triple}
use Rattle.xa_model.specs.State.{State}
use Rattle.xa_model.specs.Associations.{begun, ended}
use Rattle.xa_model.specs.Phases.{rolled_back, committed, prepared, decided_by}
use Rattle.xa_model.specs.History.{fresh}
use Rattle.xa_model.specs.Invariants.LowWater.{low_water}
use Rattle.xa_model.specs.Worked.{xarm, xid}

abbrev a : Triple
a = xid 0xaa []

abbrev b : Triple
b = xid 0xbb []

-- a new manager, whose first boot gives 4294967297 to a branch, and then 4294967298 to another
abbrev first : State
first = fresh xarm 1073741824

abbrev two : State
two = ended (begun (ended (begun first 1 a).after 1 a) 1 b).after 1 b

-- it stays at the first branch until that is completed, also while it is prepared
pub record WaterRises : Type 0 where
  pub when_new : low_water first ≡ 4294967296
  pub when_begun : low_water (begun first 1 a).after ≡ 4294967297
  pub when_two : low_water two ≡ 4294967297
  pub when_later_ends : low_water (committed two b) ≡ 4294967297
  pub when_prepared : low_water (committed (prepared two a) b) ≡ 4294967297
  pub when_first_ends : low_water (committed two a) ≡ 4294967298
  pub when_decided : low_water (decided_by (prepared two a) direction.Commit a) ≡ 4294967298
  pub when_all_end : low_water (rolled_back (committed two a) b) ≡ 4294967298
  -- a branch that ends while none is known leaves it at the last timestamp that was given
  pub when_later_and_first_end : low_water (rolled_back (committed two b) a) ≡ 4294967298
