-- A session hangs up, whether it is connected or not.
use Rattle.std.proofs.Common.{◌≡◌, ℕ, Bool, true, false, ◌&&◌, [], Option, None, pos, refl, ap, sym, ◌∙◌}
use Rattle.std.specs.Prelude.{option_and_then}
use Rattle.std.specs.BTreeSet.{BTreeSet}
use Rattle.xa_xid.specs.Triple.{Triple}
use Rattle.xa_model.specs.State.{State}
use Rattle.xa_model.specs.Answer.{plain}
use Rattle.xa_model.specs.Associations.{hang_up_by}
use Rattle.xa_assoc.specs.declared.seat.Seat.{Seat}
use Rattle.xa_assoc.specs.declared.sessions.Sessions.{Sessions}
use Rattle.xa_assoc.specs.Seats.{seat_at, holds}
use Rattle.xa_assoc.specs.Sessions.{Follows as SessionsFollow}
use Rattle.xa_branch.specs.declared.branches.Branches.{Branches}
use Rattle.xa_branch.specs.Branches.{BranchesStandFor, moment_of}
use Rattle.xa_branch.specs.Due.{due_among}
use Rattle.xa_branch.proofs.HangingUp.{hung_up_stands}
use Rattle.xa_manager.specs.View.{View}
use Rattle.xa_manager.specs.Stands.{StandsFor, Follows, FollowsDown}
use Rattle.xa_manager.proofs.Histories.{left_records}

and_true : (b : Bool) → b ≡ (b && true)
and_true true = refl
and_true false = refl

-- no branch was that of one that isn't connected
abbrev none_own : BTreeSet Triple
none_own = record { keys = [] }

pub nobody_stands : (m : View) (s : State) (n : ℕ) → StandsFor m s → seat_at m.sessions n ≡ None → BranchesStandFor m.branches (hang_up_by s n).after
nobody_stands m s n st none =
    hung_up_stands m.branches m.branches.working m.branches.due s n none_own None st.recoverable.sound (λ q. ap (holds q) (sym none) ∙ st.sessions.own n q)
    (ap (λ (o : Option Seat). option_and_then (λ x. x.active) o) (sym none) ∙ st.sessions.active n) st.branches (record { at = λ q. refl; number = refl }) (λ t q. and_true (due_among m.branches.due t q))

-- the tables of the sessions and the branches have let a session go, and the records are as they were
module _ (m : View) (sessions : Sessions) (branches : Branches) (n : ℕ) (after : SessionsFollow m.sessions (λ (s : State). (hang_up_by s n).after) sessions) where
  pub hangs_up : ((s : State) → StandsFor m s → BranchesStandFor branches (hang_up_by s n).after)
      → Follows m (λ (s : State). hang_up_by s n) (plain (pos 0)) (record m { sessions = sessions; branches = branches })
  hangs_up leaves = record {
    answers = λ s st. refl;
    stands = λ s st recoverable. record {
      name = st.name;
      log_bytes = st.log_bytes;
      up = st.up;
      sessions = after s st.recoverable.sound st.sessions;
      branches = leaves s st;
      records = left_records n s m.records st.records;
      recoverable = recoverable;
    };
    served = refl;
  }

  pub hangs_up_down : moment_of branches ≡ moment_of m.branches → FollowsDown m (λ (s : State). hang_up_by s n) (plain (pos 0)) (record m { sessions = sessions; branches = branches })
  hangs_up_down moment = record {
    answers = λ s st. refl;
    stands = λ s st recoverable. record {
      name = st.name;
      log_bytes = st.log_bytes;
      down = st.down;
      sessions = after s st.recoverable.sound st.sessions;
      moment = moment ∙ st.moment;
      recoverable = recoverable;
    };
    served = refl;
  }
