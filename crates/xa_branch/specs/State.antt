-- The state of a known branch, which follows from what is known of it and from its associations.
use Rattle.std.specs.Prelude.{Bool, ◌||◌, Option, Some, None, nat_lt, if◌then◌else◌}
use Rattle.xa_codes.specs.declared.direction.Direction.TheVariants as direction
use Rattle.xa_xid.specs.Triple.{Triple}
use Rattle.xa_model.specs.State.{State as ModelState, Known as Fact, Unknown, AtWork, InDoubt, Completed, known_as}
use Rattle.xa_branch.specs.declared.kind.Kind.TheVariants as kind
use Rattle.xa_branch.specs.declared.state.State.{State}
use Rattle.xa_branch.specs.declared.state.State.TheVariants.{RollbackOnly, Active, Suspended, Idle, Prepared, HeurCommitted, HeurRolledBack}
use Rattle.xa_branch.specs.Kinds.{held_as}

-- of a branch at work that isn't marked: some session is at work for it, or some association rests, or there is none
abbrev pub unmarked_state : Bool → Bool → State
unmarked_state is_active rests = if is_active then Active else if rests then Suspended else Idle

abbrev pub state_by : Fact → Bool → Bool → Option State
state_by Unknown is_active rests = None
state_by (AtWork (Some code)) is_active rests = Some (RollbackOnly code)
state_by (AtWork None) is_active rests = Some (unmarked_state is_active rests)
state_by InDoubt is_active rests = Some Prepared
state_by (Completed direction.Commit) is_active rests = Some HeurCommitted
state_by (Completed direction.Rollback) is_active rests = Some HeurRolledBack

abbrev pub state_of : ModelState → Triple → Option State
state_of s xid =
    state_by (known_as s xid) (nat_lt 0 (held_as kind.Active s.associations xid))
    (nat_lt 0 (held_as kind.Suspended s.associations xid) || nat_lt 0 (held_as kind.Loose s.associations xid))
