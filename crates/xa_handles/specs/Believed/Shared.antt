-- What a call says of a sequencer that many threads share.
use Rattle.std.specs.Prelude.{ℕ, ◌≡◌, ◌⊎◌, ◌+◌, Bool, not, List, map, Result, Some, pos, slice_get}
use Rattle.xa_assoc.specs.Refusals.{is_memory}
use Rattle.xa_assoc.specs.declared.fault.ConnectFault.{ConnectFault}
use Rattle.xa_frame.specs.Made.{doing}
use Rattle.xa_frame.specs.declared.question.Question.{Question}
use Rattle.xa_frame.specs.declared.question.Question.TheVariants as question
use Rattle.xa_frame.specs.declared.reply.Reply.{Reply}
use Rattle.xa_frame.specs.declared.request.Request.{Request}
use Rattle.xa_frame.specs.declared.status.Status.{Status}
use Rattle.xa_handles.specs.Believed.Accounts.{AsksAtOnce, Ends, HasAsked}
use Rattle.xa_handles.specs.Believed.Standing.{HasBook, shown}
use Rattle.xa_manager.specs.Believed.Answered.{connect_reply}
use Rattle.xa_manager.specs.Believed.Together.{asked_at}
use Rattle.xa_manager.specs.declared.together.Asked.{Asked}
use Rattle.xa_model.specs.Answer.{plain}
use Rattle.xa_model.specs.State.{State}
use Rattle.xa_model.specs.declared.event.Event.TheVariants.{Connect, Hangup, Call}
use Rattle.xa_history.specs.Believed.Book as entry
use Rattle.xa_history.specs.Believed.Book.{placed}
use Rattle.xa_history.specs.Believed.Promises.{Promises}
use Rattle.xa_history.specs.Status.{Tells}
use Rattle.xa_history.specs.declared.entry.Entry.{Entry}
use Rattle.xa_history.specs.Believed.Manages.{Behaviour}
use Rattle.xa_sequencer.specs.Believed.Numbers.{Called, Connected, Left}
use Rattle.xa_sequencer.specs.Believed.Stands.{HasHistory, Numbered, Stands}
use Rattle.xa_sequencer.specs.Believed.Together.{CalledTogether}
use Rattle.xa_tokens.specs.Believed.Account.{Account, HasHistory as IsWholeOf, IsWithin}
use Rattle.xa_tokens.specs.declared.ask.Ask.{Ask}
use Rattle.xa_tokens.specs.declared.receipt.Receipt.{Receipt}

-- There is a sequencer that stood for a history, and that did so next. Which one it was is not said: a proof over any
-- manager can take none but the one that was asked. Which entry it became is said by the place of its reply.
pub record Did {M : Type 0} (m : Behaviour M) (start : State → Type 0) (base : ℕ × ℕ)
    (event : Numbered M → Numbered M → Type 0) : Type 0 where
  pub old : Numbered M
  pub new : Numbered M
  pub history : HasHistory m start base old
  pub did : event old new

-- There is a sequencer that stood for a history, and that next answered calls together, of which this one had this
-- reply.
pub record DidAmong {M : Type 0} (m : Behaviour M) (start : State → Type 0) (base : ℕ × ℕ) (session : ℕ)
    (request : Request) (reply : Reply) : Type 0 where
  pub old : Numbered M
  pub new : Numbered M
  pub history : HasHistory m start base old
  pub calls : List Asked
  pub replies : List (ℕ × Reply)
  pub did : CalledTogether m start base old calls replies new
  pub at : ℕ
  pub call : ℕ
  pub told : slice_get replies at ≡ Some (call, reply)
  pub asked : asked_at calls call ≡ record { session = session; request = request }

-- A connect, by a share: what the share is told has the next number.
pub record ConnectedBy {M : Type 0} (m : Behaviour M) (start : State → Type 0) (base : ℕ × ℕ) (old : Account)
    (result : Result ℕ ConnectFault) (new : Account) : Type 0 where
  pub reply : Reply
  pub did : Did m start base
      (λ a b. Connected m start base a result b × (reply ≡ placed (a.count + 1) (connect_reply result)))
  pub told : AsksAtOnce (is_memory (connect_reply result).detail) old Connect reply new

-- a call of a session was carried out alone, or was one of a group
abbrev pub DidCallOf : {M : Type 0} → Behaviour M → (State → Type 0) → ℕ × ℕ → ℕ → Request → Reply → Type 0
DidCallOf m start base session request reply =
    Did m start base (λ a b. Called m start base session a request reply b) ⊎ DidAmong m start base session request reply

-- so was that of an ask
abbrev pub DidCall : {M : Type 0} → Behaviour M → (State → Type 0) → ℕ × ℕ → Ask → Reply → Type 0
DidCall m start base ask reply =
    (session : ℕ) × (request : Request) × (ask.event ≡ Call session request) × DidCallOf m start base session request reply

-- A call, by a share, which asks for it now, or has posted it.
pub record CalledBy {M : Type 0} (m : Behaviour M) (start : State → Type 0) (base : ℕ × ℕ) (session : ℕ) (old : Account)
    (request : Request) (reply : Reply) (new : Account) : Type 0 where
  pub ask : Ask
  pub event : ask.event ≡ Call session request
  pub before : Account
  pub asked : HasAsked old ask before
  pub did : DidCallOf m start base session request reply
  pub ends : Ends (is_memory reply.detail) before ask reply new

-- There is a sequencer that stood for a history, and the status tells of its manager and its count.
pub record IsTold {M : Type 0} (m : Behaviour M) (start : State → Type 0) (base : ℕ × ℕ) (status : Status) : Type 0 where
  pub asked : Numbered M
  pub history : HasHistory m start base asked
  pub tells : Tells m asked.now asked.count status

-- a question, by a share: of how the manager is doing it is told nothing
abbrev pub AskedBy : {M : Type 0} → Behaviour M → (State → Type 0) → ℕ × ℕ → ℕ → Account → Question → Reply → Account
    → Type 0
AskedBy m start base session old (question.Call request) reply new = CalledBy m start base session old request reply new
AskedBy m start base session old question.Status reply new =
    (new ≡ old) × (status : Status) × (reply ≡ doing status) × IsTold m start base status

-- a hang-up, by a share, and whether the session was connected
pub record LeftBy {M : Type 0} (m : Behaviour M) (start : State → Type 0) (base : ℕ × ℕ) (session : ℕ) (old : Account)
    (was : Bool) (new : Account) : Type 0 where
  pub reply : Reply
  pub did : Did m start base (λ a b. (was ≡ m.has_session a.now session) × Left m start base session a b
      × (reply ≡ placed (a.count + 1) (plain (pos 0))))
  pub told : AsksAtOnce (not was) old (Hangup session) reply new

-- The sequencer stands for a history, and the entries that a share was told are that history, each once.
pub record IsWhole {M : Type 0} (m : Behaviour M) (start : State → Type 0) (base : ℕ × ℕ) (c : Numbered M) (all : Account)
    : Type 0 where
  pub receipts : List Receipt
  pub book : HasBook m start base c receipts
  pub whole : IsWholeOf receipts all

-- At a moment when no thread has the lock: the sequencer stands for a history, with what that promises, and the entries that
-- a share was told are in it. The same holds of each share, whatever others ask at that time.
pub record HoldsAt {M : Type 0} (m : Behaviour M) (start : State → Type 0) (base : ℕ × ℕ) (c : Numbered M) (a : Account)
    : Type 0 where
  pub entries : List Entry
  pub receipts : List Receipt
  pub stands : Stands m start base c entries
  pub promises : Promises m start c.now entries
  pub are : map entry.receipt_of entries ≡ map shown receipts
  pub within : IsWithin receipts a
