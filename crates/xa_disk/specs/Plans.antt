-- Which device calls are planned to fail.
use Rattle.std.specs.Prelude.{ℕ, ◌-◌, ◌==◌, nat_le, if◌then◌else◌, Bool, false, List, [], ◌∷◌, Option, Some, None}
use Rattle.xa_disk.specs.declared.faults.Faults.{Faults}
use Rattle.xa_disk.specs.declared.plan.Effect.{Effect}
use Rattle.xa_disk.specs.declared.plan.Effect.TheVariants.{Lost}
use Rattle.xa_disk.specs.declared.plan.Plan.{Plan}

abbrev pub later : Option Effect → Option Effect → Option Effect
later None earlier = earlier
later (Some effect) earlier = Some effect

-- the plan for the k-th device call from now: of two the later one
abbrev pub due : List Plan → ℕ → Option Effect
due [] k = None
due (plan ∷ plans) k = later (due plans k) (if plan.left == k then Some plan.effect else None)

-- a plan once one more call is made
abbrev pub counted : Plan → Plan
counted plan = record plan { left = plan.left - 1 }

-- a stop, if there is one, covers the k-th device call from now
abbrev pub stops_at : Option ℕ → ℕ → Bool
stops_at None k = false
stops_at (Some first) k = nat_le first k

abbrev pub stops_in : Faults → ℕ → Bool
stops_in faults k = stops_at faults.stopped k

-- what the k-th device call from now will do, if it is planned to fail: a stop overrides a plan
abbrev pub planned_in : Faults → ℕ → Option Effect
planned_in faults k = if stops_in faults k then Some Lost else due faults.plans.items k
