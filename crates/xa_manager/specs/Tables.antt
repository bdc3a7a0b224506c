-- What is said of the tables as they are, and as they were before a call.
use Rattle.xa_frame.specs.declared.reply.Reply.{Reply}
use Rattle.xa_model.specs.State.{State}
use Rattle.xa_model.specs.Answer.{Answer}
use Rattle.xa_model.specs.Invariants.Loggable.{IsRecoverable}
use Rattle.xa_manager.specs.declared.tables.Tables.{Tables}
use Rattle.xa_manager.specs.View.{view_of}
use Rattle.xa_manager.specs.Stands.{StandsFor, Follows, FollowsDown, Becomes, Stays, StaysDown}

-- this holds of whichever state the tables stand for
abbrev pub TablesSay : Tables → (State → Type 0) → Type 0
TablesSay t P = (s : State) → StandsFor (view_of t) s → P s

-- they answer as this step of the state does, and stand for the step's state
abbrev pub TablesFollow : Tables → (State → Answer) → Reply → Tables → Type 0
TablesFollow t act reply t' = Follows (view_of t) act reply (view_of t')

abbrev pub TablesFollowDown : Tables → (State → Answer) → Reply → Tables → Type 0
TablesFollowDown t act reply t' = FollowsDown (view_of t) act reply (view_of t')

-- they stand for what becomes of the state
abbrev pub TablesMove : Tables → (State → State) → Tables → Type 0
TablesMove t act t' = (s : State) → StandsFor (view_of t) s → IsRecoverable (act s) → StandsFor (view_of t') (act s)

-- they stand for what becomes of a state of which this holds
abbrev pub TablesBecome : Tables → (State → Type 0) → (State → State) → Tables → Type 0
TablesBecome t P act t' = Becomes (view_of t) P act (view_of t')

-- they stand for whichever state they stood for
abbrev pub TablesStay : Tables → Tables → Type 0
TablesStay t t' = Stays (view_of t) (view_of t')

abbrev pub TablesStayDown : Tables → Tables → Type 0
TablesStayDown t t' = StaysDown (view_of t) (view_of t')
