-- What an event does to a sequencer.
use Rattle.std.specs.Prelude.{ℕ, ◌≡◌, ◌⊎◌, ◌+◌, ◌<◌, true, [], ◌∷◌, MatchBool, Result, pos}
use Rattle.xa_assoc.specs.Refusals.{is_memory}
use Rattle.xa_assoc.specs.declared.fault.ConnectFault.{ConnectFault}
use Rattle.xa_frame.specs.Made.{doing}
use Rattle.xa_frame.specs.declared.question.Question.{Question}
use Rattle.xa_frame.specs.declared.question.Question.TheVariants as question
use Rattle.xa_frame.specs.declared.reply.Reply.{Reply}
use Rattle.xa_frame.specs.declared.request.Request.{Request}
use Rattle.xa_frame.specs.declared.status.Status.{Status}
use Rattle.xa_manager.specs.Believed.Answered.{connect_reply, may_want_memory, wanted_memory}
use Rattle.xa_model.specs.Answer.{plain}
use Rattle.xa_model.specs.State.{State}
use Rattle.xa_model.specs.declared.event.Event.{Event}
use Rattle.xa_model.specs.declared.event.Event.TheVariants.{Connect, Hangup, Call}
use Rattle.xa_history.specs.Believed.Book.{entry_of, placed, unplaced}
use Rattle.xa_history.specs.Believed.Manages.{Behaviour, Stays, StepsTo, Calls, Counts}
use Rattle.xa_history.specs.Status.{Tells}
use Rattle.xa_sequencer.specs.Believed.Stands.{GoesOn, Numbered, most_numbers}

-- The event is one more entry, with its outcome as the manager tells it, and with the reply, which has the next number.
pub record Adds {M : Type 0} (m : Behaviour M) (start : State → Type 0) (base : ℕ × ℕ) (old : Numbered M) (event : Event)
    (reply : Reply) (new : Numbered M) : Type 0 where
  pub place : reply.place ≡ old.count + 1
  pub count : new.count ≡ old.count + 1
  pub goes_on : GoesOn m start base old (entry_of reply.place event (m.told new.now) reply ∷ []) new
  pub steps : StepsTo m.stands m.trusts old.now event (m.told new.now) (unplaced reply) new.now
  pub called : Calls m.stands m.trusts m.has_called old.now event (m.told new.now) new.now
  pub crash : m.crashes event (m.told new.now) old.now new.now
  pub counted : Counts m.stands m.trusts m.failures old.now event (m.told new.now) new.now

-- fewer numbers than these are left besides those for the hang-ups
abbrev pub IsFull : {M : Type 0} → Behaviour M → Numbered M → ℕ → Type 0
IsFull m c more = most_numbers < c.count + m.sessions c.now + more

-- There was no memory, as the reply says, or there is no number left; and there is no entry. What backs the
-- manager stays.
pub record Leaves {M : Type 0} (m : Behaviour M) (start : State → Type 0) (base : ℕ × ℕ) (old : Numbered M)
    (event : Event) (reply : Reply) (new : Numbered M) : Type 0 where
  pub reply_is : reply ≡ wanted_memory event
  pub wanted : (may_want_memory event ≡ true) ⊎ IsFull m old 1
  pub count : new.count ≡ old.count
  pub goes_on : GoesOn m start base old [] new
  pub stays : Stays m.stands old.now new.now

-- a connect, with a reply that stands for its result
abbrev pub Connected : {M : Type 0} → Behaviour M → (State → Type 0) → ℕ × ℕ → Numbered M → Result ℕ ConnectFault
    → Numbered M → Type 0
Connected m start base old result new =
    MatchBool (is_memory (connect_reply result).detail)
    (Leaves m start base old Connect (connect_reply result) new)
    (Adds m start base old Connect (placed (old.count + 1) (connect_reply result)) new)

-- a call of a session, with its reply
abbrev pub Called : {M : Type 0} → Behaviour M → (State → Type 0) → ℕ × ℕ → ℕ → Numbered M → Request → Reply → Numbered M
    → Type 0
Called m start base session old request reply new =
    MatchBool (is_memory reply.detail)
    (Leaves m start base old (Call session request) reply new)
    (Adds m start base old (Call session request) reply new)

-- a question of a session: a call; or how the manager is doing was told, and nothing changed
abbrev pub Asked : {M : Type 0} → Behaviour M → (State → Type 0) → ℕ × ℕ → ℕ → Numbered M → Question → Reply → Numbered M
    → Type 0
Asked m start base session old (question.Call request) reply new = Called m start base session old request reply new
Asked m start base session old question.Status reply new =
    (new ≡ old) × (status : Status) × (reply ≡ doing status) × Tells m old.now old.count status

-- a hang-up of a session; for one that isn't connected nothing changes
abbrev pub Left : {M : Type 0} → Behaviour M → (State → Type 0) → ℕ × ℕ → ℕ → Numbered M → Numbered M → Type 0
Left m start base session old new =
    MatchBool (m.has_session old.now session)
    (Adds m start base old (Hangup session) (placed (old.count + 1) (plain (pos 0))) new)
    (new ≡ old)
