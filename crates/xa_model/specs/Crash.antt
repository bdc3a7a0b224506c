-- What a crash may leave at any moment: while something happens, and through a history.
use Rattle.std.specs.Prelude.{◌≡◌, ◌⊎◌, Bool, true, false, Some, List, [], ◌∷◌, Contains, IsSomeAnd}
use Rattle.xa_model.specs.declared.outcome.Outcome.{Outcome}
use Rattle.xa_model.specs.declared.outcome.Outcome.TheVariants.{Appended, Joined, Reread}
use Rattle.xa_model.specs.declared.outcome.Appending.{Appending}
use Rattle.xa_model.specs.declared.outcome.Appending.TheVariants.{Lost}
use Rattle.xa_model.specs.State.{State}
use Rattle.xa_model.specs.Durable.{Durable}
use Rattle.xa_model.specs.Turn.{Happening}
use Rattle.xa_model.specs.Step.{step}
use Rattle.xa_model.specs.History.{Entry, Steps, joins}
use Rattle.xa_model.specs.Restarting.{fates}

-- the same, with this answer to its append
abbrev pub with_append : Appending → Outcome → Outcome
with_append appending (Appended other) = Appended appending
with_append appending (Joined other) = Joined appending
with_append appending (Reread survived (Some other)) = Reread survived (Some appending)
with_append appending outcome = outcome

-- whether it has one
abbrev pub appends : Outcome → Bool
appends (Appended appending) = true
appends (Joined appending) = true
appends (Reread survived (Some appending)) = true
appends _ = false

-- the same with its append lost
abbrev pub lost_of : Outcome → Outcome
lost_of outcome = with_append Lost outcome

-- a crash now may leave this of the state
abbrev pub IsFate : State → Durable → Type 0
IsFate s d = Contains (fates s) d

-- and this of the state that comes of this outcome
abbrev pub IsFateBehind : State → Happening → Outcome → Durable → Type 0
IsFateBehind s happening outcome d = IsSomeAnd (step s happening outcome) (λ a. IsFate a.after d)

-- At any moment while this happens, with this outcome, a crash may leave what it may leave before and after it, and
-- what it may if the append is lost: a record that is finally kept, or refused, stands there before that is settled.
abbrev pub MayBeLeft : State → Happening → Outcome → Durable → Type 0
MayBeLeft s happening outcome d =
    IsFate s d ⊎ IsFateBehind s happening outcome d ⊎ IsFateBehind s happening (lost_of outcome) d

-- Groups

-- A crash may leave this if the append of a group was lost, and with it those of these entries that joined it.
abbrev pub MayBeLostWith : State → List Entry → Durable → Type 0
MayBeLostWith s [] d = IsFate s d
MayBeLostWith s (entry ∷ entries) d =
    IsFate s d
    ⊎ ((joins entry.outcome ≡ true)
    × IsSomeAnd (step s entry.happening (Joined Lost)) (λ a. MayBeLostWith a.after entries d))

-- At any moment while this entry happens, and with it those of the later ones that join it, a crash may leave this: the
-- records of a group are on their way together from its first entry on, whatever their device call finally returns.
abbrev pub MayBeLeftWith : State → Entry → List Entry → Durable → Type 0
MayBeLeftWith s entry later d =
    MayBeLeft s entry.happening entry.outcome d
    ⊎ IsSomeAnd (step s entry.happening (lost_of entry.outcome)) (λ a. MayBeLostWith a.after later d)

-- at any moment of a history
abbrev pub MayBeLeftIn : State → List Entry → Durable → Type 0
MayBeLeftIn s [] d = IsFate s d
MayBeLeftIn s (entry ∷ entries) d =
    MayBeLeftWith s entry entries d ⊎ ((mid : State) × Steps s entry mid × MayBeLeftIn mid entries d)
