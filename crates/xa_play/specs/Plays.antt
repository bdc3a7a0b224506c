-- What a script prints: each line that asks something shows the reply of one step of the sequential resource manager.
use Rattle.std.specs.Prelude.{ℕ, ◌≡◌, ◌<◌, ◌≤◌, ◌⊎◌, ⊤, Bool, true, pos, MatchBool, is_some, if◌then◌else◌}
use Rattle.std.specs.Prelude.{List, [], ◌∷◌, ◌++◌, length, map, Option, Some, IfSome, Result, Ok, Err}
use Rattle.std.specs.Io.KnownBytes.{Appends}
use Rattle.xa_disk.specs.declared.memory.MemDisk.{MemDisk}
use Rattle.xa_codes.specs.declared.codes.TheConstants.{XAER_PROTO}
use Rattle.xa_frame.specs.Made.{bad_frame, doing}
use Rattle.xa_frame.specs.declared.reply.Reply.{Reply}
use Rattle.xa_model.specs.declared.event.Event.{Event}
use Rattle.xa_model.specs.declared.event.Event.TheVariants as event
use Rattle.xa_model.specs.declared.outcome.Outcome.{Outcome}
use Rattle.xa_model.specs.declared.outcome.Outcome.TheVariants.{Reread}
use Rattle.xa_model.specs.declared.outcome.Appending.TheVariants.{Kept}
use Rattle.xa_model.specs.State.{State}
use Rattle.xa_model.specs.Answer.{plain}
use Rattle.xa_model.specs.Turn.{Happening, Asked, Reopened}
use Rattle.xa_model.specs.Step.{opened_of, step}
use Rattle.xa_model.specs.History.{fresh}
use Rattle.xa_assoc.specs.Refusals.{is_memory}
use Rattle.xa_manager.specs.Believed.Answered.{may_want_memory, wanted_memory}
use Rattle.xa_manager.specs.Believed.Files.{FilesStandFor}
use Rattle.xa_manager.specs.Status.{status_behind}
use Rattle.xa_xid.specs.Triple.{Triple}
use Rattle.xa_output.specs.Output.{IsPart}
use Rattle.xa_script.specs.declared.line.Line.{Line}
use Rattle.xa_script.specs.declared.line.Line.TheVariants.{Silent, Unknown, Connect, Hangup, Call, Status, Control, Fail, Stop, Reopen, Crash}
use Rattle.xa_script.specs.Lines as lines
use Rattle.xa_script.specs.Parts.{parts}
use Rattle.xa_script.specs.Replies as replies
use Rattle.xa_script.specs.Requests.{ReadsTexts}
use Rattle.xa_play.specs.Disks.{CrashLeaves, seen}
use Rattle.xa_play.specs.Runs.{Run, IsRun, at_start, behind}
use Rattle.xa_play.specs.declared.fault.PlayFault.{PlayFault}
use Rattle.xa_play.specs.declared.fault.PlayFault.TheVariants.{Memory, Write, Manager}
use Rattle.xa_play.specs.declared.script.TheConstants.{MOST_SCRIPT}

-- a happening is one step, with some outcome of the device's, and of the run with it this holds
abbrev pub Steps : Run → Happening → Outcome → Reply → (Run → Type 0) → Type 0
Steps run happening outcome reply Then =
    (after : State) × (step run.now happening outcome ≡ Some (record { reply = reply; after = after }))
    × Then (behind run (record { happening = happening; outcome = outcome; reply = reply }) after)

-- An event is answered, and its reply shown: it is a step, or memory was wanted, if it may be, and then it is no
-- entry.
abbrev pub Shows : Run → Event → List ℕ → (Run → Type 0) → Type 0
Shows run asked text Then =
    (reply : Reply) × (text ≡ replies.line_of reply)
    × MatchBool (is_memory reply.detail) ((may_want_memory asked ≡ true) × (reply ≡ wanted_memory asked) × Then run)
    ((outcome : Outcome) × Steps run (Asked asked) outcome reply Then)

-- how the manager is doing, with this many versions and events so far, as it is told to a session that is connected
abbrev pub told_status : State → ℕ → ℕ → ℕ → Reply
told_status s n versions calls =
    if is_some (opened_of s n) then doing (status_behind s versions calls) else plain XAER_PROTO

-- what asks a server to end is answered to a session that is connected, and ends nothing
abbrev pub told_end : State → ℕ → Reply
told_end s n = if is_some (opened_of s n) then plain (pos 0) else plain XAER_PROTO

-- the line of an opening
abbrev pub opened_line : List ℕ
opened_line = replies.line_of (plain (pos 0))

-- lines that open the manager again
abbrev pub IsOpening : Line → Type 0
IsOpening Reopen = ⊤
IsOpening (Crash file keeps) = ⊤
IsOpening _ = ⊥

-- over the settings
module _ (name : List ℕ) (log_bytes : ℕ) where
  -- The state is opened again: the first n of the records whose fates were unknown are found there, and a new
  -- boot is logged.
  abbrev pub Reopens : Run → (Run → Type 0) → Type 0
  Reopens run Then =
      (survived : ℕ) × Steps run (Reopened name log_bytes) (Reread survived (Some Kept)) (plain (pos 0)) Then

  -- What a line prints, and that this holds of the run with it. Of a crash that is said of every run to whose state the
  -- two files come that it left: it goes on with that run, opened again. Where they come to the state before the crash,
  -- as they do if nothing is left to chance, that is the run so far.
  abbrev pub PlaysLine : Run → Line → List ℕ → (Run → Type 0) → Type 0
  PlaysLine run Silent text Then = (text ≡ []) × Then run
  PlaysLine run Unknown text Then = (text ≡ replies.line_of bad_frame) × Then run
  PlaysLine run Connect text Then = Shows run event.Connect text Then
  PlaysLine run (Hangup n) text Then = Shows run (event.Hangup n) text Then
  PlaysLine run (Call n request) text Then = Shows run (event.Call n request) text Then
  PlaysLine run (Status n) text Then =
      (versions : ℕ) × (calls : ℕ) × (text ≡ replies.line_of (told_status run.now n versions calls)) × Then run
  PlaysLine run (Control n control) text Then = (text ≡ replies.line_of (told_end run.now n)) × Then run
  PlaysLine run (Fail file call effect) text Then = (text ≡ []) × Then run
  PlaysLine run (Stop file call) text Then = (text ≡ []) × Then run
  PlaysLine run Reopen text Then = (text ≡ opened_line) × Reopens run Then
  PlaysLine run (Crash file keeps) text Then =
      (text ≡ opened_line) × (disks : MemDisk × MemDisk) × CrashLeaves run.now file keeps disks
      × ((left : Run) → IsRun left → FilesStandFor log_bytes (seen disks.0) (seen disks.1) left.now
      → Reopens left Then)

  -- Some first lines are played, one after another, and of the run after each of them the first holds. Of the run
  -- after them all, of the lines that are left and of the text after theirs the second holds.
  abbrev pub PlaysTo : (Run → Type 0) → (Run → List Line → List ℕ → Type 0) → Run → List Line → List ℕ → Type 0
  PlaysTo Holds Ends run [] text = Ends run [] text
  PlaysTo Holds Ends run (line ∷ lines) text =
      Ends run (line ∷ lines) text
      ⊎ ((first : List ℕ) × (others : List ℕ) × (text ≡ first ++ others)
      × PlaysLine run line first (λ after. Holds after × PlaysTo Holds Ends after lines others))

  -- no line is left
  abbrev pub Done : Run → List Line → List ℕ → Type 0
  Done run [] text = text ≡ []
  Done run (line ∷ lines) text = ⊥

  -- nothing is printed of the next line
  abbrev pub Stops : Run → List Line → List ℕ → Type 0
  Stops run [] text = ⊥
  Stops run (line ∷ lines) text = text ≡ []

  -- a part is printed of what the next line prints
  abbrev pub CutsLine : Run → Line → List ℕ → Type 0
  CutsLine run line part = (text : List ℕ) × PlaysLine run line text (λ after. ⊤) × IsPart part text

  abbrev pub Cuts : Run → List Line → List ℕ → Type 0
  Cuts run [] text = ⊥
  Cuts run (line ∷ lines) text = CutsLine run line text

  -- the next line opens the manager again, and nothing is printed of it
  abbrev pub Refuses : Run → List Line → List ℕ → Type 0
  Refuses run [] text = ⊥
  Refuses run (line ∷ lines) text = IsOpening line × (text ≡ [])

  -- By the end of a play, what was printed. No memory: all that some first lines print. A write or the flush failed:
  -- what the lines up to one of them print, but for a last part of it, or what all lines print. The manager couldn't be
  -- opened: nothing at the start, or all that the lines before an opening print. Before that nothing was printed.
  abbrev pub Prints : {X : Type 0} → (Run → Type 0) → Result X PlayFault → Run → List Line → List ℕ → Type 0
  Prints Holds (Ok x) run lines text = PlaysTo Holds Done run lines text
  Prints Holds (Err Memory) run lines text = PlaysTo Holds Stops run lines text
  Prints Holds (Err Write) run lines text = PlaysTo Holds Cuts run lines text ⊎ PlaysTo Holds Done run lines text
  Prints Holds (Err (Manager fault)) run lines text = (text ≡ []) ⊎ PlaysTo Holds Refuses run lines text
  Prints Holds (Err _) run lines text = text ≡ []

-- the lines of a script
abbrev pub lines_of : (List ℕ → Option Triple) → List ℕ → List Line
lines_of xid_of script = map (lines.line_of xid_of) (parts 10 script)

-- the ends that come only once a whole script was read
abbrev pub WasRead : {X : Type 0} → Result X PlayFault → Type 0
WasRead (Ok x) = Unit {0}
WasRead (Err Write) = Unit {0}
WasRead (Err _) = ⊥

-- more bytes than a script has
abbrev pub IsTooLong : List ℕ → Type 0
IsTooLong bytes = MOST_SCRIPT < length bytes

-- A play, on a manager that was opened on two empty disks: its script, which is what the reader had if that is
-- known, and the text that was written, which is what the end says. Of the run after each line this holds.
pub record Plays {X : Type 0} (Holds : Run → Type 0) (name : List ℕ) (log_bytes : ℕ) (end : Result X PlayFault)
    (input output output' : Option (List ℕ)) : Type 0 where
  pub script : List ℕ
  pub text : List ℕ
  pub given : IfSome input (λ bytes. script ≡ bytes)
  pub short : WasRead end → length script ≤ MOST_SCRIPT
  pub written : Appends output output' text
  pub printed : (xid_of : List ℕ → Option Triple) → ReadsTexts xid_of
      → Prints name log_bytes Holds end (at_start (fresh name log_bytes)) (lines_of xid_of script) text
