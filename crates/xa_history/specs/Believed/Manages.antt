-- What a manager does whose history is kept.
use Rattle.std.specs.Prelude.{ℕ, ◌≡◌, ◌⊎◌, Bool, false, IsSomeAnd, List, MatchBool}
use Rattle.xa_frame.specs.declared.reply.Reply.{Reply}
use Rattle.xa_assoc.specs.Refusals.{is_memory}
use Rattle.xa_model.specs.declared.event.Event.{Event}
use Rattle.xa_model.specs.declared.outcome.Outcome.{Outcome}
use Rattle.xa_model.specs.State.{State}
use Rattle.xa_model.specs.Turn.{Asked}
use Rattle.xa_model.specs.Step.{step}
use Rattle.xa_model.specs.Events.{is_restart}
use Rattle.xa_model.specs.History.{joins}
use Rattle.xa_manager.specs.Believed.Answered.{IsPinned}
use Rattle.xa_manager.specs.Believed.Counted.{RiseBy, failures_in}

-- What a manager is to those who speak of its history.
pub record Behaviour (M : Type 0) : Type 1 where
  -- the states that it stands for
  pub stands : M → State → Type 0
  -- the premises on its devices, which only restarts speak of
  pub trusts : Type 0
  -- what the device did in the last event that found its memory
  pub told : M → Outcome
  -- what the device did in an event, by its outcome, between one and the other
  pub has_called : Event → Outcome → M → M → Type 0
  -- what a crash at any moment of an event leaves, by its outcome, between one and the other
  pub crashes : Event → Outcome → M → M → Type 0
  -- what one leaves at any moment of calls that are asked together
  pub crashes_together : List Event → M → M → Type 0
  -- how many calls of each of its two devices have failed; a count stops at 2^64 - 1
  pub failures : M → ℕ × ℕ
  -- whether a session is connected, and how many are
  pub has_session : M → ℕ → Bool
  pub sessions : M → ℕ
  -- how many versions of all keys are kept
  pub versions : M → ℕ

-- it stands for whichever state it stood for
abbrev pub Stays : {M : Type 0} → (M → State → Type 0) → M → M → Type 0
Stays stands old new = (s : State) → stands old s → stands new s

-- Whichever state it stood for: with this outcome the step answers like this, and it stands for the step's new state. What a
-- restart finds is said under the premises on devices.
abbrev pub StepsTo : {M : Type 0} → (M → State → Type 0) → Type 0 → M → Event → Outcome → Reply → M → Type 0
StepsTo stands trusts old event outcome reply new =
    (s : State) → stands old s → trusts ⊎ (is_restart event ≡ false)
    → IsSomeAnd (step s (Asked event) outcome) (λ a. (a.reply ≡ reply) × stands new a.after)

-- An event that found its memory reports no more failures than were counted. Its record joins no other's, whose entry
-- would tell of its failure.
abbrev pub Counts : {M : Type 0} → (M → State → Type 0) → Type 0 → (M → ℕ × ℕ) → M → Event → Outcome → M → Type 0
Counts stands trusts failures old event outcome new =
    (s : State) → stands old s → trusts ⊎ (is_restart event ≡ false)
    → (joins outcome ≡ false) × RiseBy (failures_in outcome) (failures old) (failures new)

-- what the device did of the outcome, said of events that found their memory under the same premises
abbrev pub Calls : {M : Type 0} → (M → State → Type 0) → Type 0 → (Event → Outcome → M → M → Type 0) → M → Event → Outcome → M
    → Type 0
Calls stands trusts has_called old event outcome new =
    (s : State) → stands old s → trusts ⊎ (is_restart event ≡ false) → has_called event outcome old new

-- what an event does
pub record Acts {M : Type 0} (m : Behaviour M) (old : M) (event : Event) (reply : Reply) (new : M) : Type 0 where
  pub answered : MatchBool (is_memory reply.detail)
      (Stays m.stands old new) (StepsTo m.stands m.trusts old event (m.told new) reply new)
  -- if memory ran out, the reply says that and nothing else
  pub pinned : IsPinned event reply
  pub called : is_memory reply.detail ≡ false → Calls m.stands m.trusts m.has_called old event (m.told new) new
  -- what a crash at any moment of it leaves
  pub crash : is_memory reply.detail ≡ false → m.crashes event (m.told new) old new
  pub counted : MatchBool (is_memory reply.detail)
      ((s : State) → m.stands old s → RiseBy 0 (m.failures old) (m.failures new))
      (Counts m.stands m.trusts m.failures old event (m.told new) new)
