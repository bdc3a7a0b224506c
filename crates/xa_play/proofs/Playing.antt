-- Lines are played one after another.
use Rattle.std.proofs.Common.{◌≡◌, ◌∙◌, ℕ, Err, Ok, inl, inr, Bool, true, false, List, [], ◌∷◌, ◌++◌, Option, Some, None, MatchBool, IsSomeAnd, Result, refl, sym, ap, subst, append_assoc, append-nil, map}
use Rattle.xa_disk.specs.declared.memory.MemDisk.{MemDisk}
use Rattle.xa_frame.specs.declared.reply.Reply.{Reply}
use Rattle.xa_model.specs.declared.event.Event.{Event}
use Rattle.xa_model.specs.declared.event.Event.TheVariants as event
use Rattle.xa_model.specs.State.{State}
use Rattle.xa_model.specs.Answer.{Answer, plain}
use Rattle.xa_model.specs.Turn.{Asked, Reopened}
use Rattle.xa_model.specs.Events.{IsEvent}
use Rattle.xa_model.specs.History.{Entry}
use Rattle.xa_model.specs.declared.outcome.Outcome.TheVariants.{Reread}
use Rattle.xa_model.specs.declared.outcome.Appending.TheVariants.{Kept}
use Rattle.xa_model.specs.Step.{step}
use Rattle.xa_assoc.specs.Refusals.{is_memory}
use Rattle.xa_manager.specs.Believed.Answered.{may_want_memory, wanted_memory}
use Rattle.xa_manager.specs.declared.manager.Manager.{Manager}
use Rattle.xa_xid.specs.Triple.{Triple}
use Rattle.xa_script.specs.declared.line.Line.{Line}
use Rattle.xa_script.specs.declared.line.Line.TheVariants.{Silent, Unknown, Connect, Hangup, Call, Status, Control, Fail, Stop, Reopen, Crash}
use Rattle.xa_script.specs.declared.call_effect.CallEffect.{CallEffect}
use Rattle.xa_script.specs.declared.log_file.LogFile.{LogFile}
use Rattle.xa_script.specs.declared.log_file.LogFile.TheVariants.{Current, Other}
use Rattle.xa_output.specs.Output.{IsPart}
use Rattle.xa_script.specs.Lines as lines
use Rattle.xa_script.specs.Parts.{parts, parts_behind}
use Rattle.xa_script.specs.Replies as replies
use Rattle.xa_script.specs.Requests.{ReadsTexts}
use Rattle.xa_play.specs.Disks.{StandsFor, Answered, Stays, Planned, Stopped, FilesStand, MemoryIsTrusted, first_seen, second_seen}
use Rattle.xa_manager.specs.Believed.Files.{FilesStandFor}
use Rattle.xa_manager.specs.Believed.Answered.{StepsAs}
use Rattle.xa_manager.specs.Believed.Parts.{log_of, outcome_of}
use Rattle.xa_disk.specs.contracts.memory.MemDiskDisk.TheImpl.{ghosts as mem_disks}
use Rattle.std.specs.Prelude.{⊤, pos}
use Rattle.std.specs.declared.alloc.AllocError.{AllocError}
use Rattle.xa_model.specs.declared.outcome.Outcome.{Outcome}
use Rattle.xa_play.specs.Runs.{Run, IsRun, IsLawful, RunsAreLawful}
use Rattle.xa_play.specs.Plays.{Steps, Shows, Reopens, IsOpening, PlaysLine, PlaysTo, Done, Stops, Cuts, Refuses, lines_of, told_end, told_status}
use Rattle.xa_play.specs.Played.{IsLinesFault, AnswerFails, LineAnswered, StandsAs, LinePlayed, LineCut, LineEnds, ReplyEnds, ScriptEnds, Tells, TellsEnd, printed}
use Rattle.xa_play.specs.declared.fault.PlayFault.{PlayFault}
use Rattle.xa_play.specs.declared.fault.PlayFault.TheVariants as faults
use Rattle.xa_play.proofs.Lawful.{run_more}
use Rattle.xa_play.proofs.Settings.{asked_keeps, reopened_as}

-- what an answer says, by whether memory was wanted
abbrev Said : Run → Event → Reply → Bool → (Run → Type 0) → Type 0
Said run asked reply b Then =
    MatchBool b ((may_want_memory asked ≡ true) × (reply ≡ wanted_memory asked) × Then run)
    ((outcome : Outcome) × Steps run (Asked asked) outcome reply Then)

said_then : (P Q : Run → Type 0) (run : Run) (asked : Event) (reply : Reply) (b : Bool) → ((after : Run) → P after → Q after) → Said run asked reply b P
    → Said run asked reply b Q
said_then P Q run asked reply true f h = (h.0, h.1, f run h.2)
said_then P Q run asked reply false f h = (h.0, (h.1.0, h.1.1, f _ h.1.2))

-- what holds of the run with a line is weakened
pub plays_then : (name : List ℕ) (log_bytes : ℕ) (P Q : Run → Type 0) (run : Run) (said : Line) (text : List ℕ) → ((after : Run) → P after → Q after)
    → PlaysLine name log_bytes run said text P → PlaysLine name log_bytes run said text Q
plays_then name log_bytes P Q run Silent text f h = (h.0, f run h.1)
plays_then name log_bytes P Q run Unknown text f h = (h.0, f run h.1)
plays_then name log_bytes P Q run Connect text f h = (h.0, h.1, said_then P Q run event.Connect h.0 (is_memory h.0.detail) f h.2)
plays_then name log_bytes P Q run (Hangup n) text f h = (h.0, h.1, said_then P Q run (event.Hangup n) h.0 (is_memory h.0.detail) f h.2)
plays_then name log_bytes P Q run (Call n request) text f h = (h.0, h.1, said_then P Q run (event.Call n request) h.0 (is_memory h.0.detail) f h.2)
plays_then name log_bytes P Q run (Status n) text f h = (h.0, h.1, h.2, f run h.3)
plays_then name log_bytes P Q run (Control n control) text f h = (h.0, f run h.1)
plays_then name log_bytes P Q run (Fail file call effect) text f h = (h.0, f run h.1)
plays_then name log_bytes P Q run (Stop file call) text f h = (h.0, f run h.1)
plays_then name log_bytes P Q run Reopen text f h = (h.0, (h.1.0, (h.1.1.0, h.1.1.1, f _ h.1.1.2)))
plays_then name log_bytes P Q run (Crash file keeps) text f h =
    (h.0, h.1, h.2, λ left is stand. let a = h.3 left is stand in (a.0, (a.1.0, a.1.1, f _ a.1.2)))

follows : (m' : Manager MemDisk) (reply : Reply) (o : Option Answer) → IsSomeAnd o (λ a. (a.reply ≡ reply) × StandsFor m' a.after) →
    (after : State) × (o ≡ Some (record { reply = reply; after = after })) × StandsFor m' after
follows m' reply None h = absurd h
follows m' reply (Some a) h = (a.after, ap (λ (r : Reply). Some (record { reply = r; after = a.after })) h.0, h.1)

answers_by : (trusted : MemoryIsTrusted) (n : ℕ) (m m' : Manager MemDisk) (asked : Event) (reply : Reply) (run : Run) (b : Bool) →
    MatchBool b (Stays m m' × (outcome_of m' ≡ outcome_of m)) (StepsAs mem_disks m asked reply m') →
    (b ≡ true → (may_want_memory asked ≡ true) × (reply ≡ wanted_memory asked)) → IsEvent asked → StandsAs [] n m run →
    Said run asked reply b (StandsAs [] n m')
answers_by trusted n m m' asked reply run true h wanted event stands =
    let w = wanted refl in (w.0, w.1, (h.0 run.now stands.0, stands.1, stands.2))
answers_by trusted n m m' asked reply run false h wanted event stands =
    let a = follows m' reply (step run.now (Asked asked) (outcome_of m')) (h run.now stands.0 (inl trusted)) in
    let entry : Entry = record { happening = Asked asked; outcome = outcome_of m'; reply = reply } in
    let same = asked_keeps run.now asked (outcome_of m') (record { reply = reply; after = a.0 }) a.1 in
    (outcome_of m', (a.0, a.1, (a.2, same ∙ stands.1, run_more run entry a.0 stands.2 event a.1)))

shows : (trusted : MemoryIsTrusted) (n : ℕ) (m m' : Manager MemDisk) (asked : Event) (answer : Option Reply) (run : Run) →
    IsSomeAnd answer (λ reply. Answered m asked reply m') → IsEvent asked → StandsAs [] n m run → Shows run asked (printed answer) (StandsAs [] n m')
shows trusted n m m' asked None run h event stands = absurd h
shows trusted n m m' asked (Some reply) run h event stands =
    (reply, refl, answers_by trusted n m m' asked reply run (is_memory reply.detail) h.answered h.pinned event stands)

planned_stays : (result : Result (Unit {0}) AllocError) (file : LogFile) (call : ℕ) (effect : CallEffect) (m m' : Manager MemDisk) →
    Planned result file call effect m m' → Stays m m'
planned_stays result Current call effect m m' h = h.2.0
planned_stays result Other call effect m m' h = h.2.0

stopped_stays : (file : LogFile) (call : ℕ) (m m' : Manager MemDisk) → Stopped file call m m' → Stays m m'
stopped_stays Current call m m' h = h.2.0
stopped_stays Other call m m' h = h.2.0

-- the manager was opened again, on files to which the state of a run comes
reopens : (name : List ℕ) (n : ℕ) (m' : Manager MemDisk) (run : Run) → IsRun run
    → (survived : ℕ) × IsSomeAnd (step run.now (Reopened name n) (Reread survived (Some Kept))) (λ a. StandsFor m' a.after)
    → Reopens name n run (StandsAs name n m')
reopens name n m' run is o =
    let a = reopened_as run.now name n o.0 (StandsFor m') o.1 in
    let entry : Entry = record { happening = Reopened name n; outcome = Reread o.0 (Some Kept); reply = plain (pos 0) } in
    (o.0, (a.0, a.1, (a.2, a.3, run_more run entry a.0 is tt a.1)))

tells : (m : Manager MemDisk) (n versions calls : ℕ) (answer : Option Reply) (s : State) → StandsFor m s
    → IsSomeAnd answer (λ reply. Tells m n versions calls reply) → printed answer ≡ replies.line_of (told_status s n versions calls)
tells m n versions calls None s stands h = absurd h
tells m n versions calls (Some reply) s stands h = ap replies.line_of (h s stands)

tells_end : (m : Manager MemDisk) (n : ℕ) (answer : Option Reply) (s : State) → StandsFor m s
    → IsSomeAnd answer (λ reply. TellsEnd m n reply) → printed answer ≡ replies.line_of (told_end s n)
tells_end m n None s stands h = absurd h
tells_end m n (Some reply) s stands h = ap replies.line_of (h s stands)

-- an answer of a manager is a line of the model, from whichever state the manager stood for
pub line_plays : (trusted : MemoryIsTrusted) (files : FilesStand) (laws : RunsAreLawful) (name : List ℕ) (n : ℕ) (m m' : Manager MemDisk) (said : Line) (answer : Option Reply) (run : Run) →
    LineAnswered name n m said answer m' → StandsAs name n m run → PlaysLine name n run said (printed answer) (StandsAs name n m')
line_plays trusted files laws name n m m' Silent answer run h stands = (ap printed h.0, subst (λ (k : Manager MemDisk). StandsAs name n k run) (sym h.1) stands)
line_plays trusted files laws name n m m' Unknown answer run h stands = (ap printed h.0, subst (λ (k : Manager MemDisk). StandsAs name n k run) (sym h.1) stands)
line_plays trusted files laws name n m m' Connect answer run h stands = shows trusted n m m' event.Connect answer run h tt stands
line_plays trusted files laws name n m m' (Hangup k) answer run h stands = shows trusted n m m' (event.Hangup k) answer run h tt stands
line_plays trusted files laws name n m m' (Call k request) answer run h stands = shows trusted n m m' (event.Call k request) answer run h.1 h.0 stands
line_plays trusted files laws name n m m' (Status k) answer run h stands =
    (h.0, h.1, tells m k h.0 h.1 answer run.now stands.0 h.2, subst (λ (o : Manager MemDisk). StandsAs name n o run) (sym h.3) stands)
line_plays trusted files laws name n m m' (Control k control) answer run h stands =
    (tells_end m k answer run.now stands.0 h.0, subst (λ (o : Manager MemDisk). StandsAs name n o run) (sym h.1) stands)
line_plays trusted files laws name n m m' (Fail file call effect) answer run h stands =
    (ap printed h.0, (planned_stays (Ok tt) file call effect m m' h.1 run.now stands.0, stands.1, stands.2))
line_plays trusted files laws name n m m' (Stop file call) answer run h stands =
    (ap printed h.0, (stopped_stays file call m m' h.1 run.now stands.0, stands.1, stands.2))
line_plays trusted files laws name n m m' Reopen answer run h stands =
    let f = files m run.now stands.0 in
    (ap printed h.0, reopens name n m' run stands.2 (h.1 run.now f.1 (subst (λ (b : ℕ). FilesStandFor b (first_seen m) (second_seen m) run.now) stands.1 f.0)))
line_plays trusted files laws name n m m' (Crash file keeps) answer run h stands = (
  ap printed h.0,
  h.1.0,
  record { log = log_of m; stands = stands.0.log trusted; left = h.1.1 },
  λ left is stand. reopens name n m' left is (h.1.2 left.now (laws left is).recoverable stand),
)

-- the line is read so, answered so, and its answer printed so
pub line_played : (trusted : MemoryIsTrusted) (files : FilesStand) (laws : RunsAreLawful) (name : List ℕ) (n : ℕ) (m m' : Manager MemDisk) (line : List ℕ) (said : Line) (answer : Option Reply) (text : List ℕ) →
    ((xid_of : List ℕ → Option Triple) → ReadsTexts xid_of → said ≡ lines.line_of xid_of line) →
    LineAnswered name n m said answer m' → text ≡ printed answer → LinePlayed name n m line text m'
line_played trusted files laws name n m m' line said answer text read answered shown = λ xid_of reads run stands.
    subst (λ (l : Line). PlaysLine name n run l text (StandsAs name n m')) (read xid_of reads)
    (subst (λ (t : List ℕ). PlaysLine name n run said t (StandsAs name n m')) (sym shown)
    (line_plays trusted files laws name n m m' said answer run answered stands))

-- a part of what the line prints is written
pub line_cut : (name : List ℕ) (n : ℕ) (m m' : Manager MemDisk) (line text part : List ℕ) → LinePlayed name n m line text m' → IsPart part text → LineCut name n m line part
line_cut name n m m' line text part played cut = λ xid_of reads run stands.
    (text, plays_then name n (StandsAs name n m') (λ after. ⊤) run (lines.line_of xid_of line) text (λ after stood. tt) (played xid_of reads run stands), cut)

-- how lines may end
pub data End : Type 0 where
  AllDone : End
  IsStopped : End
  IsCut : End
  IsRefused : End

abbrev pub Ends : List ℕ → ℕ → End → Run → List Line → List ℕ → Type 0
Ends name n AllDone = Done name n
Ends name n IsStopped = Stops name n
Ends name n IsCut = Cuts name n
Ends name n IsRefused = Refuses name n

-- so far this was printed, and what the rest prints stands after it
abbrev pub PlayedSoFar : List ℕ → ℕ → Manager MemDisk → List ℕ → List ℕ → Manager MemDisk → Option (List ℕ) → Type 0
PlayedSoFar name n m script text m' rest = (xid_of : List ℕ → Option Triple) → ReadsTexts xid_of → (end : End) (more : List ℕ)
    → ((after : Run) → StandsAs name n m' after → PlaysTo name n IsLawful (Ends name n end) after (map (lines.line_of xid_of) (parts_behind 10 rest)) more)
    → (run : Run) → StandsAs name n m run → PlaysTo name n IsLawful (Ends name n end) run (lines_of xid_of script) (text ++ more)

pub nothing_played : (name : List ℕ) (n : ℕ) (m : Manager MemDisk) (script : List ℕ) → PlayedSoFar name n m script [] m (Some script)
nothing_played name n m script = λ xid_of reads end more next run stands. next run stands

pub line_more : (laws : RunsAreLawful) (name : List ℕ) (n : ℕ) (m m' m'' : Manager MemDisk) (script text line left first : List ℕ) (behind : Option (List ℕ)) →
    parts 10 left ≡ line ∷ parts_behind 10 behind →
    PlayedSoFar name n m script text m' (Some left) → LinePlayed name n m' line first m'' → PlayedSoFar name n m script (text ++ first) m'' behind
line_more laws name n m m' m'' script text line left first behind cut before now = λ xid_of reads end more next run stands.
    let rest = map (lines.line_of xid_of) (parts_behind 10 behind) in
    rw append_assoc (before xid_of reads end (first ++ more)
    (λ after stood. rw cut (inr (
      first,
      more,
      refl,
      plays_then name n (StandsAs name n m'') (λ then. IsLawful then × PlaysTo name n IsLawful (Ends name n end) then rest more) after (lines.line_of xid_of line) first
          (λ then stood. (laws then stood.2, next then stood)) (now xid_of reads after stood),
    )))
    run stands)

pub all_played : (name : List ℕ) (n : ℕ) (m m' : Manager MemDisk) (script text : List ℕ) → PlayedSoFar name n m script text m' None →
    (xid_of : List ℕ → Option Triple) → ReadsTexts xid_of → (run : Run) → StandsAs name n m run → PlaysTo name n IsLawful (Done name n) run (lines_of xid_of script) text
all_played name n m m' script text before xid_of reads run stands =
    subst (λ (t : List ℕ). PlaysTo name n IsLawful (Done name n) run (lines_of xid_of script) t) (append-nil text) (before xid_of reads AllDone [] (λ after stood. refl) run stands)

-- the next line finds no memory or no manager, or a part of what it prints is written
pub line_failed : (X : Type 0) (fault : PlayFault) (name : List ℕ) (n : ℕ) (m m' : Manager MemDisk) (script text line left part : List ℕ) (behind : Option (List ℕ)) →
    parts 10 left ≡ line ∷ parts_behind 10 behind →
    PlayedSoFar name n m script text m' (Some left) → LineEnds name n (Err fault) m' line part → ScriptEnds name n {X = X} (Err fault) m script (text ++ part)
line_failed X faults.Memory name n m m' script text line left part behind cut before h = λ xid_of reads run stands.
    rw h (before xid_of reads IsStopped [] (λ after stood. rw cut (inl refl)) run stands)
line_failed X faults.Write name n m m' script text line left part behind cut before h = λ xid_of reads run stands.
    inl (before xid_of reads IsCut part (λ after stood. rw cut (inl (h xid_of reads after stood))) run stands)
line_failed X (faults.Manager fault) name n m m' script text line left part behind cut before h = λ xid_of reads run stands.
    rw h.0 (inr (before xid_of reads IsRefused [] (λ after stood. rw cut (inl (h.1 xid_of reads, refl))) run stands))
line_failed X faults.Setting name n m m' script text line left part behind cut before h = absurd h
line_failed X faults.TooLong name n m m' script text line left part behind cut before h = absurd h
line_failed X faults.Read name n m m' script text line left part behind cut before h = absurd h

pub line_faults : (fault : PlayFault) (name : List ℕ) (n : ℕ) (m : Manager MemDisk) (line part : List ℕ) → LineEnds name n (Err fault) m line part → IsLinesFault fault
line_faults faults.Memory name n m line part h = inr (inl refl)
line_faults faults.Write name n m line part h = inl refl
line_faults (faults.Manager fault) name n m line part h = inr (inr (fault, refl))
line_faults faults.Setting name n m line part h = absurd h
line_faults faults.TooLong name n m line part h = absurd h
line_faults faults.Read name n m line part h = absurd h

-- a line that wasn't answered
pub line_unanswered : (fault : PlayFault) (name : List ℕ) (n : ℕ) (m : Manager MemDisk) (line : List ℕ) (said : Line) →
    ((xid_of : List ℕ → Option Triple) → ReadsTexts xid_of → said ≡ lines.line_of xid_of line) → AnswerFails said fault → LineEnds name n (Err fault) m line []
line_unanswered fault name n m line said read (inl memory) = rw memory refl
line_unanswered fault name n m line said read (inr (opening, (refused, is))) =
    rw is (refl, λ xid_of reads. subst IsOpening (read xid_of reads) opening)

-- a line that was answered, and whose reply wasn't written whole
pub line_unwritten : (fault : PlayFault) (name : List ℕ) (n : ℕ) (m m' : Manager MemDisk) (line text : List ℕ) (answer : Option Reply) → LinePlayed name n m line (printed answer) m'
    → ReplyEnds (Err fault) answer text → LineEnds name n (Err fault) m line text
line_unwritten faults.Memory name n m m' line text answer played h = h
line_unwritten faults.Write name n m m' line text answer played h = line_cut name n m m' line (printed answer) text played h
line_unwritten (faults.Manager fault) name n m m' line text answer played h = absurd h
line_unwritten faults.Setting name n m m' line text answer played h = absurd h
line_unwritten faults.TooLong name n m m' line text answer played h = absurd h
line_unwritten faults.Read name n m m' line text answer played h = absurd h
