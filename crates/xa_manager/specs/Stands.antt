-- What states of the sequential resource manager a manager's tables stand for.
use Rattle.std.specs.Prelude.{ℕ, ◌≡◌, Bool, true, false, List, [], ◌∷◌}
use Rattle.xa_frame.specs.declared.reply.Reply.{Reply}
use Rattle.xa_model.specs.State.{State, Up, Down}
use Rattle.xa_model.specs.Answer.{Answer}
use Rattle.xa_model.specs.Invariants.Loggable.{IsRecoverable}
use Rattle.mv_rules.specs.Records.{StandsFor as RecordsStandFor}
use Rattle.mv_rules.specs.Ties.{history_of}
use Rattle.xa_assoc.specs.Refusals.{is_memory}
use Rattle.xa_assoc.specs.Sessions.{SessionsStandFor}
use Rattle.xa_branch.specs.Branches.{BranchesStandFor, moment_of}
use Rattle.xa_branch.specs.Room.{HaveRooms}
use Rattle.xa_xid.specs.Triple.{Triple}
use Rattle.xa_manager.specs.View.{View}

-- Each table stands for its part of the state of a manager that is up. The manager keeps neither the operations of a
-- branch nor the reads of the state, but records that stand for the history of those writes and reads, from this boot's
-- first timestamp on: for every key they give the source and its value, and what is late.
pub record StandsFor (m : View) (s : State) : Type 0 where
  pub name : m.name ≡ s.name
  pub log_bytes : m.log_bytes ≡ s.log_bytes
  pub up : s.standing ≡ Up
  pub sessions : SessionsStandFor m.sessions s
  pub branches : BranchesStandFor m.branches s
  pub records : RecordsStandFor (history_of s) m.records
  pub recoverable : IsRecoverable s

-- The same, except that what will be kept of the branches with these XIDs once they are prepared has its room.
pub record StandsWithRooms (xids : List Triple) (m : View) (s : State) : Type 0 where
  pub name : m.name ≡ s.name
  pub log_bytes : m.log_bytes ≡ s.log_bytes
  pub up : s.standing ≡ Up
  pub sessions : SessionsStandFor m.sessions s
  pub branches : HaveRooms xids m.branches s
  pub records : RecordsStandFor (history_of s) m.records
  pub recoverable : IsRecoverable s

abbrev pub StandsWithRoom : Triple → View → State → Type 0
StandsWithRoom xid m s = StandsWithRooms (xid ∷ []) m s

-- Of a manager that is down only the sessions and the moment count: nothing is answered of branches and records, and the
-- next restart rebuilds them from the log.
pub record StandsDown (m : View) (s : State) : Type 0 where
  pub name : m.name ≡ s.name
  pub log_bytes : m.log_bytes ≡ s.log_bytes
  pub down : s.standing ≡ Down
  pub sessions : SessionsStandFor m.sessions s
  pub moment : moment_of m.branches ≡ s.moment
  pub recoverable : IsRecoverable s

abbrev pub TablesStandFor : Bool → View → State → Type 0
TablesStandFor true m s = StandsFor m s
TablesStandFor false m s = StandsDown m s

-- whichever state the tables stood for, they answer as this step does, and stand for the step's state, which a restart
-- may begin with, as every step's
pub record Follows (m : View) (act : State → Answer) (reply : Reply) (m' : View) : Type 0 where
  pub answers : (s : State) → StandsFor m s → (act s).reply ≡ reply
  pub stands : (s : State) → StandsFor m s → IsRecoverable (act s).after → StandsFor m' (act s).after
  pub served : is_memory reply.detail ≡ false

-- the same of calls that a manager answers also while it is down
pub record FollowsDown (m : View) (act : State → Answer) (reply : Reply) (m' : View) : Type 0 where
  pub answers : (s : State) → StandsDown m s → (act s).reply ≡ reply
  pub stands : (s : State) → StandsDown m s → IsRecoverable (act s).after → StandsDown m' (act s).after
  pub served : is_memory reply.detail ≡ false

-- whichever state they stood for of which this holds, they stand for what becomes of it
abbrev pub Becomes : View → (State → Type 0) → (State → State) → View → Type 0
Becomes m P act m' = (s : State) → StandsFor m s → P s → IsRecoverable (act s) → StandsFor m' (act s)

-- the same, wherever the log ends then
abbrev pub ending : State → ℕ → State
ending s end = record s { end = end }

abbrev pub BecomesAt : View → (State → Type 0) → (State → State) → View → Type 0
BecomesAt m P act m' =
    (s : State) (end : ℕ) → StandsFor m s → P s → IsRecoverable (ending (act s) end) → StandsFor m' (ending (act s) end)

-- they stand for whichever state they stood for
abbrev pub Stays : View → View → Type 0
Stays m m' = (s : State) → StandsFor m s → StandsFor m' s

abbrev pub StaysDown : View → View → Type 0
StaysDown m m' = (s : State) → StandsDown m s → StandsDown m' s
