-- What one line is answered by a manager in memory, and what lines print from whichever state it stands for.
use Rattle.std.specs.Prelude.{ℕ, ◌≡◌, ◌⊎◌, List, [], pos, Option, Some, None, Result, Ok, Err, IsSomeAnd}
use Rattle.xa_disk.specs.declared.memory.MemDisk.{MemDisk}
use Rattle.xa_frame.specs.Made.{bad_frame}
use Rattle.xa_frame.specs.declared.reply.Reply.{Reply}
use Rattle.xa_model.specs.declared.event.Event.TheVariants as event
use Rattle.xa_model.specs.Events.{IsAsked}
use Rattle.xa_model.specs.Answer.{plain}
use Rattle.xa_model.specs.State.{State}
use Rattle.xa_manager.specs.declared.fault.ManagerFault.{ManagerFault}
use Rattle.xa_manager.specs.declared.manager.Manager.{Manager}
use Rattle.xa_manager.specs.Believed.Parts.{log_of}
use Rattle.xa_xid.specs.Triple.{Triple}
use Rattle.xa_script.specs.declared.line.Line.{Line}
use Rattle.xa_script.specs.declared.line.Line.TheVariants.{Silent, Unknown, Connect, Hangup, Call, Status, Control, Fail, Stop, Reopen, Crash}
use Rattle.xa_script.specs.declared.log_file.LogFile.{LogFile}
use Rattle.xa_output.specs.Output.{IsPart}
use Rattle.xa_script.specs.Lines as lines
use Rattle.xa_script.specs.Replies as replies
use Rattle.xa_script.specs.Requests.{ReadsTexts}
use Rattle.xa_play.specs.Runs.{Run, IsRun, IsLawful}
use Rattle.xa_play.specs.Disks.{StandsFor, Answered, Planned, Stopped, CrashesTo, OpenedOn, first_seen, second_seen, seen}
use Rattle.xa_play.specs.Plays.{PlaysLine, CutsLine, IsOpening, Prints, lines_of, told_end, told_status}
use Rattle.xa_play.specs.declared.fault.PlayFault.{PlayFault}
use Rattle.xa_play.specs.declared.fault.PlayFault.TheVariants as faults

-- an opening was refused
abbrev pub IsRefusal : PlayFault → Type 0
IsRefusal fault = (refused : ManagerFault) × (fault ≡ faults.Manager refused)

-- an opening found no memory, or it was refused
abbrev pub IsOpeningFault : PlayFault → Type 0
IsOpeningFault fault = (fault ≡ faults.Memory) ⊎ IsRefusal fault

-- the faults that end a play in its lines
abbrev pub IsLinesFault : PlayFault → Type 0
IsLinesFault fault = (fault ≡ faults.Write) ⊎ IsOpeningFault fault

-- a line found no memory, or it opens the manager again, and that was refused
abbrev pub AnswerFails : Line → PlayFault → Type 0
AnswerFails said fault = (fault ≡ faults.Memory) ⊎ (IsOpening said × IsRefusal fault)

-- what an answer prints
abbrev pub printed : Option Reply → List ℕ
printed None = []
printed (Some reply) = replies.line_of reply

-- By its end, what was printed of an answer: no memory is found before anything of it is written.
abbrev pub ReplyEnds : Result (Unit {0}) PlayFault → Option Reply → List ℕ → Type 0
ReplyEnds (Ok x) answer text = text ≡ printed answer
ReplyEnds (Err faults.Memory) answer text = text ≡ []
ReplyEnds (Err faults.Write) answer text = IsPart text (printed answer)
ReplyEnds (Err _) answer text = ⊥

-- how the manager is doing was told, by whichever state it stands for
abbrev pub Tells : Manager MemDisk → ℕ → ℕ → ℕ → Reply → Type 0
Tells m n versions calls reply = (s : State) → StandsFor m s → reply ≡ told_status s n versions calls

-- the same of what asks a server to end
abbrev pub TellsEnd : Manager MemDisk → ℕ → Reply → Type 0
TellsEnd m n reply = (s : State) → StandsFor m s → reply ≡ told_end s n

-- over the settings
module _ (name : List ℕ) (log_bytes : ℕ) where
  -- the manager was opened on what a crash left of its disks
  abbrev pub Crashed : LogFile → ℕ → Manager MemDisk → Manager MemDisk → Type 0
  Crashed file keeps m m' =
      (disks : MemDisk × MemDisk) × CrashesTo file keeps (log_of m) disks
      × OpenedOn name log_bytes (seen disks.0) (seen disks.1) m'

  -- What one line is answered by a manager, and leaves of it.
  abbrev pub LineAnswered : Manager MemDisk → Line → Option Reply → Manager MemDisk → Type 0
  LineAnswered m Silent answer m' = (answer ≡ None) × (m' ≡ m)
  LineAnswered m Unknown answer m' = (answer ≡ Some bad_frame) × (m' ≡ m)
  LineAnswered m Connect answer m' = IsSomeAnd answer (λ reply. Answered m event.Connect reply m')
  LineAnswered m (Hangup n) answer m' = IsSomeAnd answer (λ reply. Answered m (event.Hangup n) reply m')
  LineAnswered m (Call n request) answer m' =
      IsAsked request × IsSomeAnd answer (λ reply. Answered m (event.Call n request) reply m')
  LineAnswered m (Status n) answer m' =
      (versions : ℕ) × (calls : ℕ) × IsSomeAnd answer (λ reply. Tells m n versions calls reply) × (m' ≡ m)
  LineAnswered m (Control n control) answer m' = IsSomeAnd answer (λ reply. TellsEnd m n reply) × (m' ≡ m)
  LineAnswered m (Fail file call effect) answer m' = (answer ≡ None) × Planned (Ok tt) file call effect m m'
  LineAnswered m (Stop file call) answer m' = (answer ≡ None) × Stopped file call m m'
  LineAnswered m Reopen answer m' =
      (answer ≡ Some (plain (pos 0))) × OpenedOn name log_bytes (first_seen m) (second_seen m) m'
  LineAnswered m (Crash file keeps) answer m' = (answer ≡ Some (plain (pos 0))) × Crashed file keeps m m'

  -- the manager stands for the state that a run led to, which has the size of log that was set
  abbrev pub StandsAs : Manager MemDisk → Run → Type 0
  StandsAs m run = StandsFor m run.now × (run.now.log_bytes ≡ log_bytes) × IsRun run

  -- from whichever state the manager stood for, the line prints this
  abbrev pub LinePlayed : Manager MemDisk → List ℕ → List ℕ → Manager MemDisk → Type 0
  LinePlayed m line text m' = (xid_of : List ℕ → Option Triple) → ReadsTexts xid_of → (run : Run) → StandsAs m run
      → PlaysLine name log_bytes run (lines.line_of xid_of line) text (StandsAs m')

  -- the same of a part of what it prints
  abbrev pub LineCut : Manager MemDisk → List ℕ → List ℕ → Type 0
  LineCut m line part = (xid_of : List ℕ → Option Triple) → ReadsTexts xid_of → (run : Run) → StandsAs m run
      → CutsLine name log_bytes run (lines.line_of xid_of line) part

  -- what the line says is answered by the manager, and leaves this of it
  abbrev pub LineIsAnswered : Manager MemDisk → List ℕ → Manager MemDisk → Type 0
  LineIsAnswered m line m' =
      (said : Line) × (answer : Option Reply)
      × ((xid_of : List ℕ → Option Triple) → ReadsTexts xid_of → said ≡ lines.line_of xid_of line)
      × LineAnswered m said answer m'

  -- By its end, what a line printed: no memory is found before anything of it is written, and so is a refused opening.
  abbrev pub LineEnds : Result (Manager MemDisk) PlayFault → Manager MemDisk → List ℕ → List ℕ → Type 0
  LineEnds (Ok m') m line text = LinePlayed m line text m' × LineIsAnswered m line m'
  LineEnds (Err faults.Memory) m line text = text ≡ []
  LineEnds (Err faults.Write) m line text = LineCut m line text
  LineEnds (Err (faults.Manager fault)) m line text =
      (text ≡ []) × ((xid_of : List ℕ → Option Triple) → ReadsTexts xid_of → IsOpening (lines.line_of xid_of line))
  LineEnds (Err _) m line text = ⊥

  -- by its end, what a script printed, from whichever state the manager stood for
  abbrev pub ScriptEnds : {X : Type 0} → Result X PlayFault → Manager MemDisk → List ℕ → List ℕ → Type 0
  ScriptEnds end m script text = (xid_of : List ℕ → Option Triple) → ReadsTexts xid_of → (run : Run) → StandsAs m run
      → Prints name log_bytes IsLawful end run (lines_of xid_of script) text
