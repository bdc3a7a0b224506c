-- That nothing waits to be given back.
use Rattle.mv_rules.specs.declared.records.Records.{Records}
use Rattle.mv_rules.specs.Tidy.{IsDrained}
use Rattle.xa_branch.specs.Branches.{BranchesStandFor}
use Rattle.xa_branch.specs.declared.branches.Branches.{Branches}
use Rattle.xa_model.specs.Invariants.LowWater.{low_water}
use Rattle.xa_model.specs.Invariants.Sound.{IsSound}
use Rattle.xa_model.specs.State.{State}
use Rattle.xa_manager.specs.declared.manager.Manager.{Manager}
use Rattle.xa_manager.specs.Believed.Parts.{branches_of, records_of}

-- whatever state the branches stand for, nothing that is noted in the records is due at its low water
abbrev pub GivesBack : Branches → Records → Type 0
GivesBack branches records = (s : State) → IsSound s → BranchesStandFor branches s → IsDrained (low_water s) records

-- the same of a manager's: what the low water frees has been given back
abbrev pub HasGivenBack : {D : Type 0} → Manager D → Type 0
HasGivenBack m = GivesBack (branches_of m) (records_of m)
