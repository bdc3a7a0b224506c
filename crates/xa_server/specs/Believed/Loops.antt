-- What the loops of a server tell, and what holds of the history that they tell of.
use Rattle.std.specs.Prelude.{ℕ, ◌≡◌, Bool, false, List, [], ◌∷◌, ◌++◌, length, map, Option, Result}
use Rattle.std.specs.List.{AllByRecursion}
use Rattle.xa_assoc.specs.declared.fault.ConnectFault.{ConnectFault}
use Rattle.xa_disk.specs.declared.disk.Disk as disk
use Rattle.xa_frame.specs.Made.{doing}
use Rattle.xa_frame.specs.declared.question.Question.{Question}
use Rattle.xa_frame.specs.declared.question.Question.TheVariants as question
use Rattle.xa_frame.specs.declared.reply.Reply.{Reply}
use Rattle.xa_frame.specs.declared.status.Status.{Status}
use Rattle.xa_frame.specs.declared.request.Request.{Request}
use Rattle.xa_handles.specs.Believed.Accounts.{Posts}
use Rattle.xa_handles.specs.Believed.Shared.{CalledBy, ConnectedBy, IsTold, LeftBy}
use Rattle.xa_handles.specs.Believed.Standing.{shown}
use Rattle.xa_manager.specs.declared.manager.Manager.{Manager}
use Rattle.xa_manager.specs.Believed.Opening.{HasBegun}
use Rattle.xa_model.specs.State.{State}
use Rattle.xa_model.specs.declared.event.Event.TheVariants.{Call}
use Rattle.xa_reactor.specs.Believed.Tending.{HasTended}
use Rattle.xa_history.specs.Believed.Book.{receipt_of}
use Rattle.xa_history.specs.declared.entry.Entry.{Entry}
use Rattle.xa_history.specs.Believed.Manages.{Behaviour}
use Rattle.xa_history.specs.Believed.Upholds.{IsLegal, IsCounted}
use Rattle.xa_history.specs.Believed.Promises.{Promises}
use Rattle.xa_sequencer.specs.Believed.GroupManager.{GroupManager, alone, manages_of}
use Rattle.xa_server.specs.declared.engine.Looped.{Looped}
use Rattle.xa_server.specs.Believed.Serves.{KeepsServed}
use Rattle.xa_server.specs.Believed.Watching.{is_down_after}
use Rattle.xa_tokens.specs.Believed.Account.{Account, Owes}
use Rattle.xa_tokens.specs.Believed.Receipts.{AreSame}
use Rattle.xa_tokens.specs.declared.receipt.Receipt.{Receipt}
use Rattle.xa_users.specs.declared.users.Users.{Users}

-- What an event of the sequencer that the loops share does to the account of the loop that asked.
abbrev pub Connected : {M : Type 0} → Behaviour M → (State → Type 0) → ℕ × ℕ → Account → Result ℕ ConnectFault → Account → Type 0
Connected m start base old result new = ConnectedBy m start base old result new

-- Of how the manager is doing, which is no event, the loop is told nothing; the reply has some seconds of the clock.
abbrev pub Called : {M : Type 0} → Behaviour M → (State → Type 0) → ℕ × ℕ → ℕ → Account → Question → Reply → Account → Type 0
Called m start base session old (question.Call request) reply new = CalledBy m start base session old request reply new
Called m start base session old question.Status reply new =
    (new ≡ old) × (status : Status) × (seconds : ℕ) × (reply ≡ doing (record status { seconds = seconds }))
    × IsTold m start base status

abbrev pub Left : {M : Type 0} → Behaviour M → (State → Type 0) → ℕ × ℕ → ℕ → Account → Account → Type 0
Left m start base session old new = (was : Bool) × LeftBy m start base session old was new

-- a call of a session was posted: it is asked for, and nothing is told of it yet
abbrev pub Posted : ℕ → Request → Account → Account → Type 0
Posted session request old new = Posts old (Call session request) new

-- A loop by its account: each session that it connected it hung up, once, and answered only in between, each call by one
-- entry that it was told, or none if memory was wanted; it was told of nothing else. In the end it owes nothing. If there are
-- users, a session is answered only what the role may ask that its connection has shown by logging in as one of them.
abbrev pub HasLooped : {M : Type 0} → Behaviour M → (State → Type 0) → ℕ × ℕ → Option Users → Account → Account → Type 0
HasLooped m start base users old new =
    HasTended {D = Account} Posted users (Connected m start base) (Called m start base) (Left m start base) (λ a. Owes a 0) old new

-- each of them, one by one
abbrev pub AllLoop : {M : Type 0} → Behaviour M → (State → Type 0) → ℕ × ℕ → Option Users → List Account → List Account → Type 0
AllLoop m start base users [] [] = Unit {0}
AllLoop m start base users [] (b ∷ ended) = ⊥
AllLoop m start base users (a ∷ rest) [] = ⊥
AllLoop m start base users (a ∷ rest) (b ∷ ended) = HasLooped m start base users a b × AllLoop m start base users rest ended

-- what all of them were told
abbrev pub told_by : List Account → List Receipt
told_by [] = []
told_by (a ∷ rest) = a.told ++ told_by rest

-- nothing was asked by it, and it was told nothing
abbrev pub IsFresh : Account → Type 0
IsFresh a = (a.asked ≡ []) × (a.told ≡ []) × (a.given_up ≡ [])

-- this many loops, which had asked nothing when they began
pub record RunsLoops {M : Type 0} (m : Behaviour M) (start : State → Type 0) (base : ℕ × ℕ) (users : Option Users) (loops : ℕ)
    (ended : List Account) : Type 0 where
  pub begun : List Account
  pub count : length begun ≡ loops
  pub fresh : AllByRecursion IsFresh begun
  pub loop : AllLoop m start base users begun ended

-- From each starting state the history is a legal one, with what that promises, and tells of no more failures than were
-- counted. Its entries are what the loops were told, each entry by one of them, once, and no other. Whether the manager is
-- down in the end is what their replies say.
pub record ServesByLoops {M : Type 0} (m : Behaviour M) (start : State → Type 0) (base : ℕ × ℕ) (users : Option Users) (loops : ℕ)
    (told : Looped) : Type 0 where
  pub now : M
  pub entries : List Entry
  pub ended : List Account
  pub runs : RunsLoops m start base users loops ended
  pub receipts : List Receipt
  pub are : map receipt_of entries ≡ map shown receipts
  pub once : AreSame receipts (told_by ended)
  pub legal : IsLegal m start now entries
  pub promises : Promises m start now entries
  pub counted : IsCounted m start base now entries
  pub calls_are : told.calls ≡ length entries
  pub down_is : told.is_down ≡ is_down_after false (map receipt_of entries)

-- the same, and this is the manager in the end
abbrev pub ServesTo : {M : Type 0} → Behaviour (GroupManager M) → (State → Type 0) → ℕ × ℕ → Option Users → ℕ → Looped → M → Type 0
ServesTo m start base users loops told manager =
    (serves : ServesByLoops m start base users loops told) × (serves.now.manager ≡ manager)

-- ---- law

-- what loops served of a manager that was opened keeps the same as what workers do
abbrev pub LoopedPromises : {D : Type 0} → disk.Ghosts D → Type 0
LoopedPromises {D} disks =
    (manager : Manager D) (bodies : List (List ℕ)) (name : List ℕ) (log_bytes : ℕ)
    → HasBegun disks bodies name log_bytes manager
    → (base : ℕ × ℕ) (users : Option Users) (loops : ℕ) (told : Looped)
    → ServesByLoops (manages_of disks) ((manages_of disks).stands (alone manager)) base users loops told
    → KeepsServed (manages_of disks) (alone manager) told.calls
