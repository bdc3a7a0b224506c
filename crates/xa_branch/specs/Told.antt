-- What is told of a known branch, of what is kept of it; and which of two comes first.
use Rattle.std.specs.Prelude.{ℕ, min, Bool, Option, Some, None, if◌then◌else◌}
use Rattle.std.specs.Ordering.{is_lt}
use Rattle.xa_codes.specs.declared.codes.TheConstants.{XA_OK}
use Rattle.xa_codes.specs.declared.direction.Direction.TheVariants as direction
use Rattle.xa_frame.specs.declared.known_branch.BranchState.{BranchState}
use Rattle.xa_frame.specs.declared.known_branch.BranchState.TheVariants as state
use Rattle.xa_frame.specs.declared.known_branch.KnownBranch.{KnownBranch}
use Rattle.xa_xid.specs.Triple.{Triple, xid_cmp}
use Rattle.xa_model.specs.KnownBranches.{mark_or_ok}
use Rattle.xa_branch.specs.declared.lasting.Lasting.{Lasting}
use Rattle.xa_branch.specs.declared.lasting.Lasting.TheVariants.{Prepared, Completed}
use Rattle.xa_branch.specs.declared.working.Working.{Working as Kept}

-- a count in 16 bits
abbrev pub short : ℕ → ℕ
short n = min n 65535

abbrev pub told_working : Triple × Kept → KnownBranch
told_working e = record {
  xid = e.0;
  state = state.Working;
  mark = mark_or_ok e.1.mark;
  timestamp = e.1.timestamp;
  associations = record { active = short e.1.active; suspended = short e.1.suspended; loose = short e.1.loose };
}

abbrev pub state_by : Lasting → BranchState
state_by (Prepared timestamp) = state.Prepared
state_by (Completed direction.Commit) = state.Committed
state_by (Completed direction.Rollback) = state.RolledBack

abbrev pub timestamp_by : Lasting → ℕ
timestamp_by (Prepared timestamp) = timestamp
timestamp_by (Completed direction) = 0

abbrev pub told_lasting : Triple × Lasting → KnownBranch
told_lasting e = record {
  xid = e.0;
  state = state_by e.1;
  mark = XA_OK;
  timestamp = timestamp_by e.1;
  associations = record { active = 0; suspended = 0; loose = 0 };
}

abbrev pub comes_first : KnownBranch → KnownBranch → Bool
comes_first x y = is_lt (xid_cmp x.xid y.xid)

-- the first of two that may be there, and what stays of each
abbrev pub first_of_two : Option KnownBranch → Option KnownBranch → Option KnownBranch × (Option KnownBranch × Option KnownBranch)
first_of_two None other = (other, (None, None))
first_of_two (Some x) None = (Some x, (None, None))
first_of_two (Some x) (Some y) =
    if comes_first x y then (Some x, (None, Some y)) else (Some y, (Some x, None))
