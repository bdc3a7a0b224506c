-- Laws of calls that are asked together, on different XIDs: what the record of one does leaves all that another looks
-- at, except for the room. So a call appends the same record if those before it are kept, refused or lost.
use Rattle.std.specs.Prelude.{ℕ, ℤ, pos, ◌≡◌, ◌+◌, ◌==◌, Bool, true, false, not, Option, Some, None, List, [], ◌∷◌, ◌++◌}
use Rattle.std.specs.Prelude.{length, map, if◌then◌else◌}
use Rattle.std.specs.List.{AllByRecursion}
use Rattle.xa_codes.specs.Flags.{has}
use Rattle.xa_codes.specs.declared.codes.TheConstants.{XAER_RMERR, XAER_RMFAIL, XA_RETRY}
use Rattle.xa_codes.specs.declared.detail.Detail.TheVariants as detail
use Rattle.xa_codes.specs.declared.flags.TheConstants.{TMONEPHASE}
use Rattle.xa_frame.specs.declared.reply.Reply.{Reply}
use Rattle.xa_frame.specs.declared.request.Request.{Request}
use Rattle.xa_frame.specs.declared.request.Request.TheVariants.{Open, Close, Start, End, Prepare, Commit, Rollback}
use Rattle.xa_frame.specs.declared.request.Request.TheVariants.{Forget, Recover, Get, Put, Delete, Decide, Doom}
use Rattle.xa_frame.specs.declared.request.Request.TheVariants.{Timeout, Tick, Branches}
use Rattle.xa_record.specs.declared.record.Record.{Record}
use Rattle.xa_record.specs.declared.record.Record.TheVariants as logged
use Rattle.xa_xid.specs.Triple.{Triple, xid_eq}
use Rattle.xa_model.specs.declared.event.Event.{Event}
use Rattle.xa_model.specs.declared.event.Event.TheVariants.{Connect, Hangup, Call}
use Rattle.xa_model.specs.declared.outcome.Appending.{Appending}
use Rattle.xa_model.specs.declared.outcome.Appending.TheVariants.{Kept, Refused, Lost}
use Rattle.xa_model.specs.declared.outcome.Outcome.{Outcome}
use Rattle.xa_model.specs.declared.outcome.Outcome.TheVariants.{Appended, Joined}
use Rattle.xa_model.specs.State.{State, Branch, Up, count, known_of, decided_of}
use Rattle.xa_model.specs.Answer.{Answer, plain, detailed, answer, ok}
use Rattle.xa_model.specs.Phases.{is_associated, rolled_back}
use Rattle.xa_model.specs.Turn.{Asked, Now, Appends}
use Rattle.xa_model.specs.Durable.{durable}
use Rattle.xa_model.specs.Events.{IsEvent}
use Rattle.xa_model.specs.Fold.{size_of, sizes}
use Rattle.xa_model.specs.History.{Entry, Leads, joins, JoinAfter}
use Rattle.xa_model.specs.Logging.{applied, applied_all, down, has_room, is_boot, log_room, prepared_count}
use Rattle.xa_model.specs.Invariants.Backing.{Backs}
use Rattle.xa_model.specs.Invariants.Loggable.{IsRecoverable, MayFollow}
use Rattle.xa_model.specs.Invariants.Sound.{IsSound}
use Rattle.xa_model.specs.Laws.Logging.{KeepsLog}
use Rattle.xa_model.specs.Step.{turn, opened_of}
use Rattle.xa_model.specs.TimeLimits.{runs_out}

-- the XID that a call prepares, completes, decides or forgets
abbrev pub xid_of : Request → Option Triple
xid_of (Prepare flags xid) = Some xid
xid_of (Commit flags xid) = Some xid
xid_of (Rollback flags xid) = Some xid
xid_of (Forget flags xid) = Some xid
xid_of (Decide direction xid) = Some xid
xid_of _ = None

-- what such a call looks at, except for the room, is the same in both states
pub record IsSameFor (xid : Triple) (s t : State) : Type 0 where
  pub known : known_of t.branches xid ≡ known_of s.branches xid
  pub decided : decided_of t.decided xid ≡ decided_of s.decided xid
  pub associated : is_associated t xid ≡ is_associated s xid
  pub sessions : t.sessions ≡ s.sessions
  pub name : t.name ≡ s.name
  pub moment : t.moment ≡ s.moment
  pub standing : t.standing ≡ s.standing

-- What this session's call on it looks at is the same, except for the room. Of sessions that is whether its own is opened.
pub record FindsSame (n : ℕ) (xid : Triple) (s t : State) : Type 0 where
  pub known : known_of t.branches xid ≡ known_of s.branches xid
  pub decided : decided_of t.decided xid ≡ decided_of s.decided xid
  pub associated : is_associated t xid ≡ is_associated s xid
  pub opened : opened_of t n ≡ opened_of s n
  pub name : t.name ≡ s.name
  pub standing : t.standing ≡ s.standing

-- the room that a call looks for before it appends the record
abbrev pub has_room_for : State → Record → Bool
has_room_for s (logged.Prepared xid t ws) = has_room s (logged.Prepared xid t ws) 1
has_room_for s (logged.Committed xid t ws) = has_room s (logged.Committed xid t ws) 0
has_room_for s _ = true

-- A record that is kept, and one that is refused, leave calls on other XIDs the same. For one that was lost that is
-- said of what the state would have come to, which is the one with the record kept.
abbrev pub LeavesOthers : Type 0
LeavesOthers =
    (s : State) (n : ℕ) (request : Request) (xid other : Triple) (r : Record) (after : Appending → Answer)
    → xid_of request ≡ Some xid → xid_eq xid other ≡ false → s.standing ≡ Up
    → turn s (Asked (Call n request)) ≡ Appends r after
    → (after Kept ≡ ok (applied r s)) × IsSameFor other s (applied r s) × IsSameFor other s (after Refused).after

-- So does a call that is answered at once: one that is refused, whose branch is marked or wrote nothing, or for which
-- there is no room.
abbrev pub AtOnceLeavesOthers : Type 0
AtOnceLeavesOthers =
    (s : State) (n : ℕ) (request : Request) (xid other : Triple) (a : Answer)
    → xid_of request ≡ Some xid → xid_eq xid other ≡ false → s.standing ≡ Up
    → turn s (Asked (Call n request)) ≡ Now a → IsSameFor other s a.after

-- If a call finds the same, and there is room, it appends the same record.
abbrev pub AppendsTheSame : Type 0
AppendsTheSame =
    (s t : State) (n : ℕ) (request : Request) (xid : Triple) (r : Record) (after : Appending → Answer)
    → xid_of request ≡ Some xid → FindsSame n xid s t → s.standing ≡ Up
    → turn s (Asked (Call n request)) ≡ Appends r after
    → has_room_for t r ≡ true
    → (again : Appending → Answer) × (turn t (Asked (Call n request)) ≡ Appends r again)

-- What a refused record comes to

-- A call is answered that the device failed; a commit in two phases, that it may be asked again.
abbrev pub refused_code : Request → ℤ
refused_code (Commit flags xid) = if has flags TMONEPHASE then XAER_RMERR else XA_RETRY
refused_code _ = XAER_RMERR

-- It leaves the state as it was, except that a branch that should have been committed in one phase is rolled back.
abbrev pub left_by : Request → State → State
left_by (Commit flags xid) s = if has flags TMONEPHASE then rolled_back s xid else s
left_by _ s = s

abbrev pub RefusedAlone : Type 0
RefusedAlone =
    (s : State) (n : ℕ) (request : Request) (xid : Triple) (r : Record) (after : Appending → Answer)
    → xid_of request ≡ Some xid → s.standing ≡ Up
    → turn s (Asked (Call n request)) ≡ Appends r after
    → after Refused ≡ answer (detailed (refused_code request) detail.Device) (left_by request s)

-- Room

abbrev pub is_preparing : Record → Bool
is_preparing (logged.Prepared xid t ws) = true
is_preparing _ = false

-- Whether there is room for a record that is appended after these, whatever becomes of them: their bytes and the
-- branches that they prepare are added, and what they complete isn't counted as free. Otherwise a prepare might have
-- room if an earlier completion is kept, and none if it is refused.
abbrev pub has_room_after : List Record → State → Record → Bool
has_room_after before s (logged.Prepared xid t ws) =
    log_room s.log_bytes (s.end + sizes before + size_of (logged.Prepared xid t ws))
    (prepared_count s + count is_preparing before + 1) (length s.decided)
has_room_after before s (logged.Committed xid t ws) =
    log_room s.log_bytes (s.end + sizes before + size_of (logged.Committed xid t ws))
    (prepared_count s + count is_preparing before) (length s.decided)
has_room_after before s _ = true

-- So there is room if they are kept one after another,
abbrev pub RoomWhereKept : Type 0
RoomWhereKept =
    (s : State) (before : List Record) (r : Record) → MayFollow s before
    → AllByRecursion (λ q. is_boot q ≡ false) before
    → has_room_after before s r ≡ true
    → has_room_for (applied_all before s) r ≡ true

-- and if they are refused, so that the same lasts.
abbrev pub RoomWhereRefused : Type 0
RoomWhereRefused =
    (s t : State) (before : List Record) (r : Record) → t.log_bytes ≡ s.log_bytes → t.end ≡ s.end
    → durable t ≡ durable s
    → has_room_after before s r ≡ true
    → has_room_for t r ≡ true

-- Groups

-- a call of a group: who asks it, of which XID, and the record that it appends
pub record Part : Type 0 where
  pub session : ℕ
  pub request : Request
  pub xid : Triple
  pub appended : Record

-- what it appends alone, in this state
pub record AppendsOf (s : State) (p : Part) : Type 0 where
  pub of_xid : xid_of p.request ≡ Some p.xid
  pub event : IsEvent (Call p.session p.request)
  pub after : Appending → Answer
  pub appends : turn s (Asked (Call p.session p.request)) ≡ Appends p.appended after

abbrev pub AreApart : List Part → Type 0
AreApart [] = Unit {0}
AreApart (p ∷ ps) = AllByRecursion (λ q. xid_eq p.xid q.xid ≡ false) ps × AreApart ps

-- each has room after those before it
abbrev pub HaveRoom : State → List Record → List Part → Type 0
HaveRoom s before [] = Unit {0}
HaveRoom s before (p ∷ ps) =
    (has_room_after before s p.appended ≡ true) × HaveRoom s (before ++ p.appended ∷ []) ps

-- calls that may stand together: each would append a record alone, they are of distinct XIDs, and there is room
pub record MayStandTogether (s : State) (parts : List Part) : Type 0 where
  pub appends : AllByRecursion (AppendsOf s) parts
  pub apart : AreApart parts
  pub room : HaveRoom s [] parts

-- they may still, after one on another XID was answered at once
abbrev pub StillTogether : Type 0
StillTogether =
    (s : State) (n : ℕ) (request : Request) (xid : Triple) (a : Answer) (p : Part) (ps : List Part)
    → IsSound s → s.standing ≡ Up
    → xid_of request ≡ Some xid → AllByRecursion (λ q. xid_eq xid q.xid ≡ false) (p ∷ ps)
    → turn s (Asked (Call n request)) ≡ Now a
    → MayStandTogether s (p ∷ ps) → MayStandTogether a.after (p ∷ ps)

-- Beside a group

-- a call that logs nothing, whatever it finds
abbrev pub logs_nothing : Request → Bool
logs_nothing (Open flags info) = true
logs_nothing (Close flags) = true
logs_nothing (Start flags xid) = true
logs_nothing (End flags xid) = true
logs_nothing (Recover flags count) = true
logs_nothing (Get key) = true
logs_nothing (Put key value) = true
logs_nothing (Delete key) = true
logs_nothing (Doom xid) = true
logs_nothing (Timeout seconds) = true
logs_nothing (Tick moment) = true
logs_nothing (Branches count after) = true
logs_nothing _ = false

-- neither do connects and hang-ups
abbrev pub is_quiet : Event → Bool
is_quiet Connect = true
is_quiet (Hangup n) = true
is_quiet (Call n request) = logs_nothing request

-- so they are answered at once
abbrev pub QuietIsNow : Type 0
QuietIsNow =
    (s : State) (e : Event) → s.standing ≡ Up → is_quiet e ≡ true
    → (a : Answer) × (turn s (Asked e) ≡ Now a)

-- none of the calls is asked by this session, or of this XID
abbrev pub AsksNone : ℕ → List Part → Type 0
AsksNone n ps = AllByRecursion (λ q. (q.session == n) ≡ false) ps

abbrev pub NamesNone : Triple → List Part → Type 0
NamesNone xid ps = AllByRecursion (λ q. xid_eq xid q.xid ≡ false) ps

-- whether this moment marks a branch, if there is one
abbrev pub is_over_of : ℕ → Option Branch → Bool
is_over_of moment (Some b) = runs_out moment b
is_over_of moment None = false

-- What is answered beside a group names and marks none of its branches, and opens, closes or ends no session that asks for
-- one of its calls. What gets and puts work for, and what a hang-up marks, is associated, and such a branch isn't a group's.
abbrev pub CallsApart : State → ℕ → Request → List Part → Type 0
CallsApart s n (Open flags info) ps = AsksNone n ps
CallsApart s n (Close flags) ps = AsksNone n ps
CallsApart s n (Start flags xid) ps = NamesNone xid ps
CallsApart s n (End flags xid) ps = NamesNone xid ps
CallsApart s n (Doom xid) ps = NamesNone xid ps
CallsApart s n (Tick moment) ps = AllByRecursion (λ q. is_over_of moment (known_of s.branches q.xid) ≡ false) ps
CallsApart s n _ ps = Unit {0}

abbrev pub StandsApart : State → Event → List Part → Type 0
StandsApart s Connect ps = Unit {0}
StandsApart s (Hangup n) ps = AsksNone n ps
StandsApart s (Call n request) ps = CallsApart s n request ps

-- It leaves the group as it is: its calls may still stand together, and append the same records.
abbrev pub QuietLeavesGroup : Type 0
QuietLeavesGroup =
    (s : State) (e : Event) (a : Answer) (p : Part) (ps : List Part)
    → IsSound s → s.standing ≡ Up → is_quiet e ≡ true → StandsApart s e (p ∷ ps)
    → turn s (Asked e) ≡ Now a
    → MayStandTogether s (p ∷ ps)
    → MayStandTogether a.after (p ∷ ps) × AllByRecursion (λ q. FindsSame q.session q.xid s a.after) (p ∷ ps)

-- what a call is replied, if this became of its record
abbrev pub replied : Appending → Request → Reply
replied Kept request = plain (pos 0)
replied Refused request = detailed (refused_code request) detail.Device
replied Lost request = detailed XAER_RMFAIL detail.Device

-- its entry, with this outcome, if this became of its record
abbrev pub entry_of : Outcome → Appending → Part → Entry
entry_of outcome appending p = record {
  happening = Asked (Call p.session p.request);
  outcome = outcome;
  reply = replied appending p.request;
}

-- the entries of a group if this became of its records
abbrev pub group_entries : Appending → Part → List Part → List Entry
group_entries appending p ps =
    entry_of (Appended appending) appending p ∷ map (entry_of (Joined appending) appending) ps

abbrev pub records_of : List Part → List Record
records_of ps = map (λ p. p.appended) ps

abbrev pub left_by_all : List Part → State → State
left_by_all [] s = s
left_by_all (p ∷ ps) s = left_by_all ps (left_by p.request s)

-- a group that is kept leads to what its records do one after another
abbrev pub KeptTogether : Type 0
KeptTogether =
    (s : State) (p : Part) (ps : List Part) → IsRecoverable s → s.standing ≡ Up → MayStandTogether s (p ∷ ps)
    → Leads s (group_entries Kept p ps) (applied_all (records_of (p ∷ ps)) s)

-- one that is refused, to what each refusal alone leaves: the same lasts, and nothing more stands in the log
abbrev pub RefusedTogether : Type 0
RefusedTogether =
    (s : State) (p : Part) (ps : List Part) → IsRecoverable s → s.standing ≡ Up → MayStandTogether s (p ∷ ps)
    → Leads s (group_entries Refused p ps) (left_by_all (p ∷ ps) s) × KeepsLog s (left_by_all (p ∷ ps) s)

-- and one that is lost to a manager that is down, all of whose records are open
abbrev pub LostTogether : Type 0
LostTogether =
    (s : State) (p : Part) (ps : List Part) → IsRecoverable s → s.standing ≡ Up → MayStandTogether s (p ∷ ps)
    → Leads s (group_entries Lost p ps) (record (down s) { open_records = records_of (p ∷ ps) })

-- The log's records keep up with a group: they are followed by its records, in their order, if it is kept, and stay
-- what they were if it is refused or lost.
abbrev pub BacksTogether : Type 0
BacksTogether =
    (rs : List Record) (s : State) (p : Part) (ps : List Part) → IsRecoverable s → s.standing ≡ Up
    → MayStandTogether s (p ∷ ps) → Backs rs s
    → Backs (rs ++ records_of (p ∷ ps)) (applied_all (records_of (p ∷ ps)) s)
    × Backs rs (left_by_all (p ∷ ps) s)
    × Backs rs (record (down s) { open_records = records_of (p ∷ ps) })

-- the entry asks this call, with this outcome, whatever it is replied
abbrev pub AsksWith : Outcome → Part → Entry → Type 0
AsksWith outcome p e = (e.happening ≡ Asked (Call p.session p.request)) × (e.outcome ≡ outcome)

abbrev pub AskEach : Outcome → List Part → List Entry → Type 0
AskEach outcome [] [] = Unit {0}
AskEach outcome (p ∷ ps) (e ∷ es) = AsksWith outcome p e × AskEach outcome ps es
AskEach outcome _ _ = ⊥

-- In a legal history no refused group is answered otherwise, nor leaves another state.
abbrev pub RefusedNoOther : Type 0
RefusedNoOther =
    (s t : State) (p : Part) (ps : List Part) (e : Entry) (es : List Entry) → s.standing ≡ Up
    → AllByRecursion (λ q. xid_of q.request ≡ Some q.xid) (p ∷ ps)
    → AsksWith (Appended Refused) p e → AskEach (Joined Refused) ps es
    → Leads s (e ∷ es) t → (e ∷ es ≡ group_entries Refused p ps) × (t ≡ left_by_all (p ∷ ps) s)

-- However long a group is, it reports one device call: all others joined the first.
abbrev pub TellsOfOne : Type 0
TellsOfOne =
    (before : Option Appending) (appending : Appending) (p : Part) (ps : List Part)
    → JoinAfter before (group_entries appending p ps)
    × (count (λ e. not (joins e.outcome)) (group_entries appending p ps) ≡ 1)
