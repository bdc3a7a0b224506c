-- What was answered so far is a history of the sequential resource manager; and what holds of each.
use Rattle.std.specs.Prelude.{◌≡◌, List, [], ◌∷◌, ◌++◌}
use Rattle.std.specs.List.{AllByRecursion}
use Rattle.xa_xid.specs.Triple.{Triple}
use Rattle.xa_model.specs.State.{State}
use Rattle.xa_model.specs.Invariants.Loggable.{IsRecoverable}
use Rattle.xa_model.specs.Events.{HaveHappened}
use Rattle.xa_model.specs.History.{Entry, Leads}
use Rattle.xa_model.specs.OneCopy.{HasNoGet, HasOneCopy}
use Rattle.xa_model.specs.ListedLaw.{HaveRealMarks, AsksCompletion, HasPrepared, IsListed}

-- a history, and the state that it led to
pub record Run : Type 0 where
  pub first : State
  pub entries : List Entry
  pub now : State

-- it began with a state that a restart may begin with, and each entry is a step
pub record IsRun (run : Run) : Type 0 where
  pub recoverable : IsRecoverable run.first
  pub happened : HaveHappened run.entries
  pub leads : Leads run.first run.entries run.now

-- nothing happened yet
abbrev pub at_start : State → Run
at_start s = record { first = s; entries = []; now = s }

-- one entry more
abbrev pub behind : Run → Entry → State → Run
behind run entry after = record { first = run.first; entries = run.entries ++ entry ∷ []; now = after }

-- no read is recorded in the state
abbrev pub HasNoGets : State → Type 0
HasNoGets s = AllByRecursion (λ b. HasNoGet b.operations) s.branches

-- an entry is a prepare of the XID that was answered XA_OK, and after it nobody asked for its completion
pub record Prepares (xid : Triple) (entries : List Entry) : Type 0 where
  pub before : List Entry
  pub prepare : Entry
  pub later : List Entry
  pub parts : entries ≡ before ++ prepare ∷ later
  pub prepared : HasPrepared xid prepare
  pub unasked : AllByRecursion (λ e. AsksCompletion xid e → ⊥) later

-- One copy: the committed branches read what they read if they are executed one at a time, in the order of their
-- timestamps. A vote to commit is kept: what was prepared is listed until somebody asks for its completion. Both hold
-- of every run that begins with a new manager, and of each other one that begins without reads, and without branches
-- that are marked with success.
pub record IsLawful (run : Run) : Type 0 where
  pub legal : IsRun run
  pub recoverable : IsRecoverable run.now
  pub one_copy : HasNoGets run.first → HasOneCopy run.now
  pub listed : HaveRealMarks run.first → (xid : Triple) → Prepares xid run.entries → IsListed xid run.now

-- so it is of every run
abbrev pub RunsAreLawful : Type 0
RunsAreLawful = (run : Run) → IsRun run → IsLawful run
