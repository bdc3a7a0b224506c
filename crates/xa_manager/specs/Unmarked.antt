-- Whether a session is at work for a branch that may still commit.
use Rattle.std.specs.Prelude.{ℕ, Bool, ◌&&◌, if◌then◌else◌, is_none}
use Rattle.std.specs.List.{list_any}
use Rattle.xa_model.specs.Associations.{is_of_session, mark_in}
use Rattle.xa_model.specs.State.{Association, State, known_as}
use Rattle.xa_model.specs.Step.{is_up}
use Rattle.xa_xid.specs.Triple.{Triple}

-- no mark says that it can only be rolled back
abbrev pub is_unmarked : State → Triple → Bool
is_unmarked s xid = is_none (mark_in (known_as s xid))

-- an association of the session's own, with a branch that isn't marked
abbrev pub is_of_unmarked : ℕ → State → Association → Bool
is_of_unmarked n s a = is_of_session n a && is_unmarked s a.xid

-- the session has such an association, or, while the manager is down, any of its own
abbrev pub has_unmarked : ℕ → State → Bool
has_unmarked n s =
    if is_up s.standing
    then list_any (is_of_unmarked n s) s.associations
    else list_any (is_of_session n) s.associations
