-- Which outcomes fit a turn, and that each of these has an answer.
use Rattle.std.specs.Prelude.{◌≡◌, List, ℕ, Bool, true, false, ◌||◌, Option, Some, None, is_some, length, nat_le}
use Rattle.xa_model.specs.declared.outcome.Outcome.{Outcome}
use Rattle.xa_model.specs.declared.outcome.Outcome.TheVariants.{Quiet, Appended, Joined, Failed, Reread}
use Rattle.xa_model.specs.declared.outcome.Appending.{Appending}
use Rattle.xa_model.specs.declared.outcome.Appending.TheVariants.{Kept, Refused, Lost}
use Rattle.xa_model.specs.State.{State, Standing, Ended}
use Rattle.xa_model.specs.Turn.{Happening, Asked, Turn, Now, Appends, Checkpoints, Rereads, Joins, Rereading}
use Rattle.xa_model.specs.Turn.{Stops, Opens}
use Rattle.xa_model.specs.Step.{turn, step}
use Rattle.xa_model.specs.Restarting.{restart_turn, reopen_turn}

-- after a look at the log a record is appended exactly if the rereading appends one
abbrev pub fits_rereading : Option Rereading → Option Appending → Bool
fits_rereading (Some (Stops answer)) None = true
fits_rereading (Some (Opens appended after)) (Some appending) = true
fits_rereading _ _ = false

-- no device call, one append (of a new file's snapshot too, or of one more record of a group), or a look at the log
-- that fails or comes to an end
abbrev pub fits : Turn → Outcome → Bool
fits (Now answer) Quiet = true
fits (Appends appended after) (Appended appending) = true
fits (Appends appended after) (Joined Kept) = true
fits (Appends appended after) (Joined Refused) = true
fits (Checkpoints appended after) (Appended appending) = true
fits (Rereads failed found) Failed = true
fits (Rereads failed found) (Reread survived appending) = fits_rereading (found survived) appending
fits (Joins refused appended lost) Quiet = true
fits (Joins refused appended lost) (Joined Lost) = true
fits _ _ = false

-- each happening is answered with each outcome that fits its turn, and with no other
abbrev pub StepIsTotal : Type 0
StepIsTotal = (s : State) (h : Happening) (outcome : Outcome) → is_some (step s h outcome) ≡ fits (turn s h) outcome

-- an event is asked of a manager whose process ended
abbrev pub is_over : Standing → Happening → Bool
is_over Ended (Asked event) = true
is_over _ _ = false

-- for that nothing fits; otherwise something does
abbrev pub NothingIsStuck : Type 0
NothingIsStuck =
    (s : State) (h : Happening) → is_over s.standing h ≡ false
    → (outcome : Outcome) × (fits (turn s h) outcome ≡ true)

abbrev pub NobodyAnswers : Type 0
NobodyAnswers = (s : State) (h : Happening) (outcome : Outcome) → is_over s.standing h ≡ true → step s h outcome ≡ None

-- a look that found the first k of the records whose fates were unknown fits
-- with this answer to the next append, or with none
abbrev pub fits_look : Turn → ℕ → Appending → Bool
fits_look t survived appending = fits t (Reread survived None) || fits t (Reread survived (Some appending))

-- a restart and an opening may find none of those records, or as many as there are, and any number between
abbrev pub Looks : State → Turn → Type 0
Looks s t =
    (survived : ℕ) (appending : Appending)
    → fits_look t survived appending ≡ nat_le survived (length s.open_records)

abbrev pub RestartsLook : Type 0
RestartsLook = (s : State) → Looks s (restart_turn s)

abbrev pub OpeningsLook : Type 0
OpeningsLook = (s : State) (name : List ℕ) (log_bytes : ℕ) → Looks s (reopen_turn s name log_bytes)
