-- Worked rows: what a manager answers, computed on the definitions alone.
use Rattle.std.specs.Prelude.{ℕ, pos, List, [], ◌∷◌}
use Rattle.xa_xid.specs.Triple.{Triple}
use Rattle.xa_frame.specs.declared.body.Body.TheVariants as body
use Rattle.xa_frame.specs.declared.reply.Reply.{Reply}
use Rattle.xa_frame.specs.declared.request.Request.{Request}
use Rattle.xa_model.specs.declared.event.Event.TheVariants.{Connect, Call}
use Rattle.xa_model.specs.declared.outcome.Outcome.{Outcome}
use Rattle.xa_model.specs.declared.outcome.Outcome.TheVariants.{Quiet, Appended}
use Rattle.xa_model.specs.declared.outcome.Appending.TheVariants.{Kept}
use Rattle.xa_model.specs.Answer.{plain, carrying}
use Rattle.xa_model.specs.Turn.{Happening, Asked}
pub mod Scripts
pub mod Calls
pub mod Versions
pub mod Refusals
pub mod Early
pub mod Branches
pub mod Limits
pub mod TimeLimits
pub mod KnownBranches
pub mod Log
pub mod Turns
pub mod Trims
pub mod Device
pub mod Groups
pub mod Recovery
pub mod Lasting
pub mod OneCopy
pub mod Walks
pub mod LowWater

-- the name xarm, and what a script writes as hexadecimal
abbrev pub xarm : List ℕ
xarm = 0x78 ∷ 0x61 ∷ 0x72 ∷ 0x6d ∷ []

abbrev pub byte : ℕ → List ℕ
byte b = b ∷ []

-- format number 1, a global part of one byte, and a branch part
abbrev pub xid : ℕ → List ℕ → Triple
xid gtrid bqual = record { format = pos 1; gtrid = byte gtrid; bqual = bqual }

abbrev pub connects : Happening × Outcome
connects = (Asked Connect, Quiet)

-- session 1 asks
abbrev pub asks : Request → Happening × Outcome
asks request = (Asked (Call 1 request), Quiet)

-- it asks, and the record that is appended is kept
abbrev pub logs : Request → Happening × Outcome
logs request = (Asked (Call 1 request), Appended Kept)

abbrev pub done : Reply
done = plain (pos 0)

abbrev pub number : ℕ → Reply
number n = carrying (body.Number n)
