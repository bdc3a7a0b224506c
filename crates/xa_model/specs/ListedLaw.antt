-- What recovery lists stays listed until its completion is asked for.
use Rattle.std.specs.Prelude.{ℕ, ◌≡◌, ◌⊎◌, ◌+◌, ◌<◌, ◌≤◌, Bool, true, false, Ok, Some, List, ◌∷◌, ◌++◌, length}
use Rattle.std.specs.List.{list_any, AllByRecursion}
use Rattle.xa_codes.specs.declared.codes.TheConstants.{XA_OK, XAER_RMFAIL}
use Rattle.xa_codes.specs.declared.detail.Detail.TheVariants as detail
use Rattle.xa_frame.specs.declared.reply.Reply.{Reply}
use Rattle.xa_frame.specs.declared.request.Request.{Request}
use Rattle.xa_frame.specs.declared.request.Request.TheVariants.{Prepare, Commit, Rollback, Forget}
use Rattle.xa_limits.specs.declared.TheConstants.{MOST_BOOTS}
use Rattle.xa_record.specs.Limits.{IsRecord}
use Rattle.xa_record.specs.declared.record.Record.{Record}
use Rattle.xa_xid.specs.Triple.{Triple, xid_eq}
use Rattle.xa_model.specs.declared.event.Event.TheVariants.{Call}
use Rattle.xa_model.specs.declared.outcome.Outcome.{Outcome}
use Rattle.xa_model.specs.State.{State, Up, mark_of}
use Rattle.xa_model.specs.Invariants.Sound.{most_known}
use Rattle.xa_model.specs.Answer.{Answer}
use Rattle.xa_model.specs.Durable.{Durable, durable}
use Rattle.xa_model.specs.Listed.{listed}
use Rattle.xa_model.specs.Fold.{fold}
use Rattle.xa_model.specs.Turn.{Happening, Asked, Reopened}
use Rattle.xa_model.specs.Restarting.{opening}
use Rattle.xa_model.specs.Step.{step}
use Rattle.xa_model.specs.Events.{HaveHappened}
use Rattle.xa_model.specs.History.{Entry, Leads, fresh}
use Rattle.xa_model.specs.Invariants.Loggable.{IsRecoverable}
use Rattle.xa_model.specs.Invariants.Restored.{IsRestored}

-- whether recovery lists the XID from what lasts
abbrev pub lists : Triple → Durable → Bool
lists xid d = list_any (λ x. xid_eq x xid) (listed d)

abbrev pub IsListed : Triple → State → Type 0
IsListed xid s = lists xid (durable s) ≡ true

-- a prepare of the XID
abbrev pub is_prepare : Triple → Request → Bool
is_prepare xid (Prepare flags x) = xid_eq x xid
is_prepare xid _ = false

-- a call that ends what is known of the XID
abbrev pub is_completion : Triple → Request → Bool
is_completion xid (Commit flags x) = xid_eq x xid
is_completion xid (Rollback flags x) = xid_eq x xid
is_completion xid (Forget flags x) = xid_eq x xid
is_completion xid _ = false

abbrev pub is_request : (Request → Bool) → Happening → Bool
is_request test (Asked (Call n request)) = test request
is_request test _ = false

-- it was done
abbrev pub IsDone : Reply → Type 0
IsDone reply = reply.code ≡ XA_OK

-- its append was lost, so that it may be done
abbrev pub MayBeDone : Reply → Type 0
MayBeDone reply = (reply.code ≡ XAER_RMFAIL) × (reply.detail ≡ detail.Device)

abbrev pub AsksCompletion : Triple → Entry → Type 0
AsksCompletion xid e = (is_request (is_completion xid) e.happening ≡ true) × (IsDone e.reply ⊎ MayBeDone e.reply)

abbrev pub HasCompleted : Triple → Entry → Type 0
HasCompleted xid e = (is_request (is_completion xid) e.happening ≡ true) × IsDone e.reply

abbrev pub HasPrepared : Triple → Entry → Type 0
HasPrepared xid e = (is_request (is_prepare xid) e.happening ≡ true) × IsDone e.reply

-- a prepare of the XID is called, whatever is answered
abbrev pub CallsPrepare : Triple → Entry → Type 0
CallsPrepare xid e = is_request (is_prepare xid) e.happening ≡ true

-- no mark is the code of success
abbrev pub HaveRealMarks : State → Type 0
HaveRealMarks s = AllByRecursion (λ b. mark_of b.phase ≡ Some XA_OK → ⊥) s.branches

-- in a history from this state: after a prepare that was answered XA_OK, recovery lists the XID as long as nobody asks
-- for its completion, whatever else is asked, decided, restarted and opened again
abbrev pub ListsUntilAsked : State → Type 0
ListsUntilAsked first =
    (last : State) (before later : List Entry) (prepare : Entry) (xid : Triple)
    → HaveHappened (before ++ prepare ∷ later)
    → Leads first (before ++ prepare ∷ later) last → HasPrepared xid prepare
    → AllByRecursion (λ e. AsksCompletion xid e → ⊥) later
    → IsListed xid last

abbrev pub ListedUntilAsked : Type 0
ListedUntilAsked = (first : State) → IsRecoverable first → HaveRealMarks first → ListsUntilAsked first

-- the same from each restart and each opening on
abbrev pub ListedSinceBoot : Type 0
ListedSinceBoot = (d : Durable) (next : ℕ) (first : State) → IsRestored d next first → ListsUntilAsked first

-- as in each of a new manager
abbrev pub FreshLists : Type 0
FreshLists = (name : List ℕ) (log_bytes : ℕ) → ListsUntilAsked (fresh name log_bytes)

-- and of one that was opened on a log's records
abbrev pub OpenedLists : Type 0
OpenedLists =
    (rs : List Record) (d : Durable) (name : List ℕ) (log_bytes : ℕ) → AllByRecursion IsRecord rs → fold rs ≡ Ok d
    → d.boot < MOST_BOOTS
    → length d.prepared + length d.decided ≤ most_known
    → ListsUntilAsked (opening d name log_bytes (d.boot + 1))

-- and of one that was opened again, and is up
abbrev pub ReopenedLists : Type 0
ReopenedLists =
    (s : State) (name : List ℕ) (log_bytes : ℕ) (outcome : Outcome) (a : Answer) → IsRecoverable s
    → step s (Reopened name log_bytes) outcome ≡ Some a
    → a.after.standing ≡ Up → ListsUntilAsked a.after
