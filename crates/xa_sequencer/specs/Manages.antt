-- What a sequencer asks of a manager.
use Rattle.std.specs.Prelude.{ℕ, ◌≡◌, ◌+◌, ◌≤◌, ◌==◌, false, List, length, Option, None, Some}
use Rattle.std.specs.List.{AllByRecursion}
use Rattle.xa_manager.specs.declared.together.Asked.{Asked}
use Rattle.xa_model.specs.Events.{IsAsked}
use Rattle.xa_history.specs.Believed.Manages.{Behaviour}
use Rattle.xa_sequencer.specs.Believed.Stands.{most_numbers}

-- a session asks for one of the calls that are pending
abbrev pub AsksOne : ℕ → Option (List Asked) → Type 0
AsksOne n None = ⊥
AsksOne n (Some calls) = AllByRecursion (λ c. (c.session == n) ≡ false) calls → ⊥

-- how many calls are pending
abbrev pub pending_count : Option (List Asked) → ℕ
pending_count None = 0
pending_count (Some calls) = length calls

abbrev pub ArePending : Option (List Asked) → Type 0
ArePending None = Unit {0}
ArePending (Some calls) = AllByRecursion (λ c. IsAsked c.request) calls

-- It has what it needs to finish the pending group: each of its calls may happen, and there are numbers left for all of
-- them, besides those for the hang-ups.
pub record KeepsPending {M : Type 0} (m : Behaviour M) (has_its_group : M → Type 0) (pending : Option (List Asked))
    (now : M) (count : ℕ) : Type 0 where
  pub group : has_its_group now
  pub asked : ArePending pending
  pub reserved : count + m.sessions now + pending_count pending ≤ most_numbers
