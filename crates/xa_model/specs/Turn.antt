-- What is asked of the device in one turn, and what each of its answers leads to.
use Rattle.std.specs.Prelude.{ℕ, ℤ, Option, Some, None, List, option_and_then}
use Rattle.xa_frame.specs.declared.reply.Reply.{Reply}
use Rattle.xa_record.specs.declared.record.Record.{Record}
use Rattle.xa_model.specs.declared.event.Event.{Event}
use Rattle.xa_model.specs.declared.outcome.Outcome.{Outcome}
use Rattle.xa_model.specs.declared.outcome.Outcome.TheVariants.{Quiet, Appended, Joined, Failed, Reread}
use Rattle.xa_model.specs.declared.outcome.Appending.{Appending}
use Rattle.xa_model.specs.declared.outcome.Appending.TheVariants.{Kept, Refused, Lost}
use Rattle.xa_model.specs.State.{State}
use Rattle.xa_model.specs.Answer.{Answer, plain, answer}

-- what happens to a manager: an event is asked of it, or its process ended and it was opened again with these settings
pub data Happening : Type 0 where
  Asked : (event : Event) → Happening
  Reopened : (name : List ℕ) (log_bytes : ℕ) → Happening

-- What a rereading goes on with, once the log was read: with nothing, or
-- with a record of the new boot that is appended.
pub data Rereading : Type 0 where
  Stops : (answer : Answer) → Rereading
  Opens : (appended : Record) (after : Appending → Answer) → Rereading

-- A turn: what is asked of the device, and what each of its answers leads to. Nobody answers,
-- no device call is made, one record is appended, a record of a new boot is appended as the first
-- of a new file, before the snapshot of what lasts, or the log is read again: that fails, or the first
-- k of the records whose fates were unknown are there, if there are that many. Or the append of a group was lost,
-- and the call is refused, or was asked with the group, and its record is lost with it.
pub data Turn : Type 0 where
  Nobody : Turn
  Now : (answer : Answer) → Turn
  Appends : (appended : Record) (after : Appending → Answer) → Turn
  Checkpoints : (appended : Record) (after : Appending → Answer) → Turn
  Rereads : (failed : Answer) (found : ℕ → Option Rereading) → Turn
  Joins : (refused : Answer) (appended : Record) (lost : Answer) → Turn

-- if the outcome doesn't fit, there is no answer
abbrev pub going_on : Option Appending → Rereading → Option Answer
going_on None (Stops answer) = Some answer
going_on (Some appending) (Stops answer) = None
going_on None (Opens appended after) = None
going_on (Some appending) (Opens appended after) = Some (after appending)

abbrev pub taken_now : Answer → Outcome → Option Answer
taken_now answer Quiet = Some answer
taken_now answer _ = None

-- After the first record of a group that isn't lost, each further one is kept or refused like a single one. If the
-- first was lost, the manager is down by then.
abbrev pub taken_appending : (Appending → Answer) → Outcome → Option Answer
taken_appending after (Appended appending) = Some (after appending)
taken_appending after (Joined Kept) = Some (after Kept)
taken_appending after (Joined Refused) = Some (after Refused)
taken_appending after _ = None

abbrev pub taken_checkpoint : (Appending → Answer) → Outcome → Option Answer
taken_checkpoint after (Appended appending) = Some (after appending)
taken_checkpoint after _ = None

abbrev pub taken_rereading : Answer → (ℕ → Option Rereading) → Outcome → Option Answer
taken_rereading failed found Failed = Some failed
taken_rereading failed found (Reread survived appended) = option_and_then (going_on appended) (found survived)
taken_rereading failed found _ = None

abbrev pub taken_joining : Answer → Answer → Outcome → Option Answer
taken_joining refused lost Quiet = Some refused
taken_joining refused lost (Joined Lost) = Some lost
taken_joining refused lost _ = None

abbrev pub taken : Turn → Outcome → Option Answer
taken Nobody outcome = None
taken (Now answer) outcome = taken_now answer outcome
taken (Appends appended after) outcome = taken_appending after outcome
taken (Checkpoints appended after) outcome = taken_checkpoint after outcome
taken (Rereads failed found) outcome = taken_rereading failed found outcome
taken (Joins refused appended lost) outcome = taken_joining refused lost outcome

-- What is answered at once

abbrev pub unless_now : Option Reply → State → Turn → Turn
unless_now (Some reply) s go_on = Now (answer reply s)
unless_now None s go_on = go_on

abbrev pub marked_now : Option ℤ → State → Turn → Turn
marked_now (Some code) s go_on = Now (answer (plain code) s)
marked_now None s go_on = go_on
