-- Histories of the sequential resource manager.
use Rattle.std.specs.Prelude.{ℕ, ◌≡◌, Bool, true, false, Option, Some, None, List, [], ◌∷◌, option_and_then, option_map}
use Rattle.xa_frame.specs.declared.reply.Reply.{Reply}
use Rattle.xa_model.specs.declared.outcome.Appending.{Appending}
use Rattle.xa_model.specs.declared.outcome.Outcome.{Outcome}
use Rattle.xa_model.specs.declared.outcome.Outcome.TheVariants.{Appended, Joined}
use Rattle.xa_model.specs.State.{State}
use Rattle.xa_model.specs.Turn.{Happening}
use Rattle.xa_model.specs.Fold.{nothing}
use Rattle.xa_model.specs.Restarting.{opening}
use Rattle.xa_model.specs.Step.{step}

-- what happened, what the device did, and what was replied
pub record Entry : Type 0 where
  pub happening : Happening
  pub outcome : Outcome
  pub reply : Reply

-- the state of a manager that was opened on an empty log, and asked nothing
abbrev pub fresh : List ℕ → ℕ → State
fresh name log_bytes = opening nothing name log_bytes 1

-- one entry leads from a state to the next
abbrev pub Steps : State → Entry → State → Type 0
Steps before entry after =
    step before entry.happening entry.outcome ≡ Some (record { reply = entry.reply; after = after })

-- the entries lead from the first state to the last
abbrev pub Leads : State → List Entry → State → Type 0
Leads first [] last = last ≡ first
Leads first (entry ∷ entries) last = (mid : State) × Steps first entry mid × Leads mid entries last

-- the replies to a list of happenings with their outcomes; None if an outcome doesn't fit
abbrev pub replay : State → List (Happening × Outcome) → Option (List Reply)
replay s [] = Some []
replay s (x ∷ xs) =
    option_and_then (λ a. option_map (λ replies. a.reply ∷ replies) (replay a.after xs)) (step s x.0 x.1)

-- Groups

-- whether the record joined the one before it
abbrev pub joins : Outcome → Bool
joins (Joined appending) = true
joins _ = false

-- what became of the record that an entry appends, alone or with others
abbrev pub append_in : Outcome → Option Appending
append_in (Appended appending) = Some appending
append_in (Joined appending) = Some appending
append_in _ = None

-- An entry whose record joined stands right after one whose record became the same: one device call appended both, and
-- was answered once.
abbrev pub JoinAfter : Option Appending → List Entry → Type 0
JoinAfter before [] = Unit {0}
JoinAfter before (entry ∷ entries) =
    (joins entry.outcome ≡ true → append_in entry.outcome ≡ before) × JoinAfter (append_in entry.outcome) entries

abbrev pub HasGroups : List Entry → Type 0
HasGroups entries = JoinAfter None entries
