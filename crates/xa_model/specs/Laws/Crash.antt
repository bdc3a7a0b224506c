-- Laws on what a crash may leave at any moment.
use Rattle.std.specs.Prelude.{ℕ, ◌≡◌, ◌⊎◌, Bool, true, false, Some, List, [], ◌∷◌, ◌++◌, is_some}
use Rattle.std.specs.List.{AllByRecursion}
use Rattle.xa_frame.specs.declared.request.Request.{Request}
use Rattle.xa_xid.specs.Triple.{Triple}
use Rattle.xa_model.specs.declared.outcome.Outcome.{Outcome}
use Rattle.xa_model.specs.declared.outcome.Outcome.TheVariants.{Joined}
use Rattle.xa_model.specs.declared.outcome.Appending.TheVariants.{Kept, Refused, Lost}
use Rattle.xa_model.specs.State.{State}
use Rattle.xa_model.specs.Answer.{Answer}
use Rattle.xa_model.specs.Durable.{Durable, durable}
use Rattle.xa_model.specs.Turn.{Happening}
use Rattle.xa_model.specs.Step.{step}
use Rattle.xa_model.specs.Events.{IsHappening, HaveHappened}
use Rattle.xa_model.specs.History.{Entry, Leads, joins}
use Rattle.xa_model.specs.Invariants.Loggable.{IsRecoverable}
use Rattle.xa_model.specs.Invariants.Restored.{IsRestored}
use Rattle.xa_model.specs.Restarting.{fates, survived}
use Rattle.xa_model.specs.Logging.{supposed}
use Rattle.xa_model.specs.ListedLaw.{lists, HaveRealMarks, HasPrepared, HasCompleted, AsksCompletion, CallsPrepare}
use Rattle.xa_model.specs.ListedLaw.{is_prepare, is_completion, is_request}
use Rattle.xa_model.specs.Crash.{with_append, appends, lost_of, IsFate, MayBeLeft, MayBeLostWith}
use Rattle.xa_model.specs.Crash.{MayBeLeftWith, MayBeLeftIn}

-- If an outcome fits, it fits with its append lost, except for that of a record that joined: a group is lost from its
-- first record on.
abbrev pub LostFits : Type 0
LostFits =
    (s : State) (happening : Happening) (outcome : Outcome) (a : Answer) → joins outcome ≡ false
    → step s happening outcome ≡ Some a
    → is_some (step s happening (lost_of outcome)) ≡ true

-- if an append was lost, a crash leaves what lasts if it was refused, or what lasts if it was kept
abbrev pub LostFates : Type 0
LostFates =
    (s : State) (happening : Happening) (outcome : Outcome) (kept refused lost : Answer) → IsHappening happening
    → IsRecoverable s → appends outcome ≡ true
    → step s happening (with_append Kept outcome) ≡ Some kept
    → step s happening (with_append Refused outcome) ≡ Some refused
    → step s happening (with_append Lost outcome) ≡ Some lost
    → fates lost.after ≡ durable refused.after ∷ durable kept.after ∷ []

-- While it happens a crash may leave what it may leave before it, what it may after it,
abbrev pub LeavesBefore : Type 0
LeavesBefore =
    (s : State) (happening : Happening) (outcome : Outcome) (d : Durable) → IsFate s d
    → MayBeLeft s happening outcome d

abbrev pub LeavesBehind : Type 0
LeavesBehind =
    (s : State) (happening : Happening) (outcome : Outcome) (a : Answer) (d : Durable)
    → step s happening outcome ≡ Some a → IsFate a.after d → MayBeLeft s happening outcome d

-- and what lasts with the record that is appended, and without it, whatever the device answered;
abbrev pub LeavesAppended : Type 0
LeavesAppended =
    (s : State) (happening : Happening) (outcome : Outcome) (kept refused : Answer) → IsHappening happening
    → IsRecoverable s → appends outcome ≡ true → joins outcome ≡ false
    → step s happening (with_append Kept outcome) ≡ Some kept
    → step s happening (with_append Refused outcome) ≡ Some refused
    → MayBeLeft s happening outcome (durable kept.after) × MayBeLeft s happening outcome (durable refused.after)

-- but if nothing is appended, nothing other than before.
abbrev pub LeavesNoMore : Type 0
LeavesNoMore =
    (s : State) (happening : Happening) (outcome : Outcome) (d : Durable) → IsHappening happening → IsRecoverable s
    → appends outcome ≡ false
    → MayBeLeft s happening outcome d → IsFate s d

-- Once no record's fate is unknown, it leaves exactly what lasts.
abbrev pub LeavesExactly : Type 0
LeavesExactly = (s : State) (d : Durable) → s.open_records ≡ [] → IsFate s d → d ≡ durable s

-- A crash leaves what a look at the log may find: what lasts of the state with the first of the open records, however
-- many.
abbrev pub LeavesFound : Type 0
LeavesFound = (s : State) (k : ℕ) (t : State) → survived s k ≡ Some t → IsFate s (durable t)

abbrev pub FindsLeft : Type 0
FindsLeft = (s : State) (d : Durable) → IsFate s d → (k : ℕ) × (t : State) × (survived s k ≡ Some t) × (durable t ≡ d)

-- While the first entry of a group happens, with those that join it, it leaves what it may of the group once that is
-- lost: none of it, its first record, and so on to all.
abbrev pub LeavesGroup : Type 0
LeavesGroup =
    (s : State) (entry : Entry) (later : List Entry) (lost : Answer) (d : Durable)
    → step s entry.happening (lost_of entry.outcome) ≡ Some lost → MayBeLostWith lost.after later d
    → MayBeLeftIn s (entry ∷ later) d

-- One more record of a lost group is one more that it may leave, after all before it.
abbrev pub LeavesOneMore : Type 0
LeavesOneMore =
    (s : State) (happening : Happening) (a : Answer) → IsHappening happening → IsRecoverable s
    → step s happening (Joined Lost) ≡ Some a
    → fates a.after ≡ fates s ++ durable (supposed a.after) ∷ []

-- Histories

-- a crash may leave what it may leave of the first state, and of the last
abbrev pub FirstLeft : Type 0
FirstLeft = (s : State) (entries : List Entry) (d : Durable) → IsFate s d → MayBeLeftIn s entries d

abbrev pub LastLeft : Type 0
LastLeft =
    (s last : State) (entries : List Entry) (d : Durable) → Leads s entries last → IsFate last d
    → MayBeLeftIn s entries d

-- and in one part of a history or in the other
abbrev pub EarlierLeft : Type 0
EarlierLeft =
    (s : State) (before later : List Entry) (d : Durable) → MayBeLeftIn s before d → MayBeLeftIn s (before ++ later) d

abbrev pub LaterLeft : Type 0
LaterLeft =
    (s mid : State) (before later : List Entry) (d : Durable) → Leads s before mid → MayBeLeftIn mid later d
    → MayBeLeftIn s (before ++ later) d

-- one entry of a history, with what led to it
pub record IsAmid (s : State) (entries : List Entry) (mid : State) (entry : Entry) : Type 0 where
  pub before : List Entry
  pub later : List Entry
  pub whole : entries ≡ before ++ entry ∷ later
  pub leads : Leads s before mid

-- what it leaves is left while one of the entries happens, or of the first state
abbrev pub LeftAmid : Type 0
LeftAmid =
    (s : State) (entries : List Entry) (d : Durable) → MayBeLeftIn s entries d
    → IsFate s d
    ⊎ ((mid : State) × (entry : Entry) × (amid : IsAmid s entries mid entry)
    × MayBeLeftWith mid entry amid.later d)

-- The promises, in a history from this state that goes on with a run, at any moment of which a crash breaks it off

-- no such request is among what happens
abbrev pub NoneAsks : (Request → Bool) → List Entry → Type 0
NoneAsks test run = AllByRecursion (λ e. is_request test e.happening ≡ false) run

-- from what is left recovery lists what was prepared, while its completion wasn't asked for: neither before the run,
-- nor in it, where the crash may break off what would have been refused
abbrev pub CrashLists : State → Type 0
CrashLists first =
    (mid : State) (before later run : List Entry) (prepare : Entry) (xid : Triple) (d : Durable)
    → HaveHappened (before ++ prepare ∷ later) → Leads first (before ++ prepare ∷ later) mid
    → HasPrepared xid prepare → AllByRecursion (λ e. AsksCompletion xid e → ⊥) later
    → HaveHappened run → NoneAsks (is_completion xid) run
    → MayBeLeftIn mid run d → lists xid d ≡ true

-- and nothing that was completed, while no prepare of it was called again
abbrev pub CrashUnlists : State → Type 0
CrashUnlists first =
    (mid : State) (before later run : List Entry) (completion : Entry) (xid : Triple) (d : Durable)
    → HaveHappened (before ++ completion ∷ later) → Leads first (before ++ completion ∷ later) mid
    → HasCompleted xid completion → AllByRecursion (λ e. CallsPrepare xid e → ⊥) later
    → HaveHappened run → NoneAsks (is_prepare xid) run
    → MayBeLeftIn mid run d → lists xid d ≡ false

abbrev pub CrashKeepsPrepared : Type 0
CrashKeepsPrepared = (first : State) → IsRecoverable first → HaveRealMarks first → CrashLists first

abbrev pub CrashKeepsCompleted : Type 0
CrashKeepsCompleted = (first : State) → IsRecoverable first → CrashUnlists first

-- both from each restart and each opening on
abbrev pub CrashKeepsSinceBoot : Type 0
CrashKeepsSinceBoot =
    (d : Durable) (next : ℕ) (first : State) → IsRestored d next first → CrashLists first × CrashUnlists first

-- and a manager that is opened on what is left lists what is listed of it
abbrev pub BootLists : Type 0
BootLists =
    (d : Durable) (next : ℕ) (first : State) (xid : Triple) → IsRestored d next first
    → lists xid (durable first) ≡ lists xid d
