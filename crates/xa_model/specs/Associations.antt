-- The association table: how sessions come, and how they come to work for branches.
use Rattle.std.specs.Prelude.{ℕ, ◌+◌, ◌==◌, ℤ, Bool, true, false, not, ◌||◌, Option, Some, None, List, [], ◌∷◌, filter}
use Rattle.std.specs.Prelude.{length, map, is_some, nat_lt, if◌then◌else◌}
use Rattle.std.specs.List.{list_any}
use Rattle.xa_codes.specs.Flags.{has}
use Rattle.xa_codes.specs.declared.codes.TheConstants.{XAER_PROTO, XAER_NOTA, XAER_DUPID, XAER_RMERR, XA_RBROLLBACK}
use Rattle.xa_codes.specs.declared.codes.TheConstants.{XA_RBCOMMFAIL}
use Rattle.xa_codes.specs.declared.detail.Detail.TheVariants as detail
use Rattle.xa_codes.specs.declared.flags.TheConstants.{TMJOIN, TMRESUME, TMSUSPEND, TMMIGRATE, TMFAIL}
use Rattle.xa_xid.specs.Triple.{Triple}
use Rattle.xa_frame.specs.declared.body.Body.TheVariants as body
use Rattle.xa_frame.specs.declared.reply.Reply.{Reply}
use Rattle.xa_limits.specs.declared.TheConstants.{MOST_BRANCHES, MOST_GIVEN, MOST_LOOSE, MOST_SESSIONS}
use Rattle.xa_model.specs.State.{State, Session, Branch, Phase, Working, Prepared, Committed, Association, Holder}
use Rattle.xa_model.specs.State.{Active, Suspended, Loose, Known, Unknown, AtWork, InDoubt, Completed, known_as}
use Rattle.xa_model.specs.State.{known_in, known_of, active_of, is_own, is_with, is_known_as, owns, works_in, suspends}
use Rattle.xa_model.specs.State.{is_loose_with, loose_of, without, change, free_number, timestamp_of}
use Rattle.xa_model.specs.State.{new_work, new_branch, new_session, limit_of}
use Rattle.xa_model.specs.Answer.{Answer, plain, detailed, carrying, answer, ok, first, unless, marked}

-- Connect: the session gets the least number that is free

abbrev pub connect_refusal : ℕ → Option Reply
connect_refusal connected = first ((not (nat_lt connected MOST_SESSIONS), detailed XAER_RMERR detail.Limit) ∷ [])

abbrev pub connected : State → Answer
connected s =
    let n = free_number s.sessions in
    answer (carrying (body.Number n)) (record s { sessions = new_session n ∷ s.sessions })

abbrev pub connect_by : State → Answer
connect_by s = unless (connect_refusal (length s.sessions)) s (connected s)

-- Open

abbrev pub as_opened : Session → Session
as_opened x = record x { opened = true }

abbrev pub open_by : State → ℕ → Answer
open_by s n = ok (record s { sessions = change (λ x. x.number == n) as_opened s.sessions })

-- Close: no association of the session's own may be left

abbrev pub is_of_session : ℕ → Association → Bool
is_of_session n a = is_own n a.holder

abbrev pub close_refusal : Bool → Option Reply
close_refusal holds = first ((holds, plain XAER_PROTO) ∷ [])

abbrev pub as_closed : Session → Session
as_closed x = record x { opened = false; scan = None }

abbrev pub close_by : State → ℕ → Answer
close_by s n =
    unless (close_refusal (list_any (is_of_session n) s.associations)) s
    (ok (record s { sessions = change (λ x. x.number == n) as_closed s.sessions }))

-- Marks: the first stays, and only a branch that is at work has one

abbrev pub or_mark : Option ℤ → ℤ → Option ℤ
or_mark (Some code) other = Some code
or_mark None other = Some other

abbrev pub marked_phase : ℤ → Phase → Phase
marked_phase code (Working xid work) = Working xid (record work { mark = or_mark work.mark code })
marked_phase code (Prepared xid) = Prepared xid
marked_phase code Committed = Committed

abbrev pub with_mark : ℤ → Branch → Branch
with_mark code b = record b { phase = marked_phase code b.phase }

-- A hang-up: each association of the session's own ends, and its branch is marked; the session's number is free again

abbrev pub is_worked_by : List Association → ℕ → Phase → Bool
is_worked_by held n (Working xid work) = list_any (owns n xid) held
is_worked_by held n (Prepared xid) = false
is_worked_by held n Committed = false

abbrev pub left_behind : List Association → ℕ → Branch → Branch
left_behind held n b = if is_worked_by held n b.phase then with_mark XA_RBCOMMFAIL b else b

abbrev pub hang_up_by : State → ℕ → Answer
hang_up_by s n = ok (record s {
  sessions = without (λ x. x.number == n) s.sessions;
  associations = filter (λ a. not (is_of_session n a)) s.associations;
  branches = map (left_behind s.associations n) s.branches;
})

-- Start with neither TMJOIN nor TMRESUME: a new branch

abbrev pub is_taken : Known → Bool
is_taken Unknown = false
is_taken _ = true

abbrev pub start_refusal : Bool → Bool → ℕ → ℕ → Option Reply
start_refusal is_at_work is_taken known given =
    first (
    (is_at_work, plain XAER_PROTO)
    ∷ (is_taken, plain XAER_DUPID)
    ∷ (not (nat_lt known MOST_BRANCHES) || not (nat_lt given MOST_GIVEN), detailed XAER_RMERR detail.Limit)
    ∷ [])

abbrev pub begun : State → ℕ → Triple → Answer
begun s n xid =
    let t = timestamp_of s.boot (s.given + 1) in
    answer (carrying (body.Number t)) (record s {
      given = s.given + 1;
      associations = record { xid = xid; holder = Active n } ∷ s.associations;
      branches = new_branch t xid (new_work s.moment (limit_of s n)) ∷ s.branches;
    })

abbrev pub begin_by : State → ℕ → Triple → Answer
begin_by s n xid =
    unless (start_refusal (is_some (active_of s.associations n)) (is_taken (known_as s xid)) (known_in s) s.given) s
    (begun s n xid)

-- Facts of an XID

abbrev pub is_unknown : Known → Bool
is_unknown Unknown = true
is_unknown _ = false

-- prepared or completed
abbrev pub is_lasting : Known → Bool
is_lasting InDoubt = true
is_lasting (Completed direction) = true
is_lasting _ = false

abbrev pub mark_in : Known → Option ℤ
mark_in (AtWork mark) = mark
mark_in _ = None

-- the branch's timestamp
abbrev pub timestamp_by : Option Branch → ℕ
timestamp_by (Some b) = b.timestamp
timestamp_by None = 0

abbrev pub timestamp_in : State → Triple → ℕ
timestamp_in s xid = timestamp_by (known_of s.branches xid)

-- Start with TMJOIN: one more association with a branch that is at work

abbrev pub join_refusal : Bool → Bool → Known → Option Reply
join_refusal is_at_work has_suspended known =
    first (
    (is_at_work || has_suspended, plain XAER_PROTO)
    ∷ (is_unknown known, plain XAER_NOTA)
    ∷ (is_lasting known, plain XAER_PROTO)
    ∷ [])

abbrev pub joined : State → ℕ → Triple → Answer
joined s n xid =
    answer (carrying (body.Number (timestamp_in s xid)))
    (record s { associations = record { xid = xid; holder = Active n } ∷ s.associations })

abbrev pub join_by : State → ℕ → Triple → Answer
join_by s n xid =
    unless
    (join_refusal (is_some (active_of s.associations n)) (list_any (suspends n xid) s.associations) (known_as s xid))
    s
    (marked (mark_in (known_as s xid)) s (joined s n xid))

-- Start with TMRESUME: the session's own suspended association with the XID
-- becomes its active one, or a loose one if it has none

abbrev pub resume_refusal : Bool → Known → Bool → Bool → Option Reply
resume_refusal is_at_work known has_suspended is_loose =
    first (
    (is_at_work, plain XAER_PROTO)
    ∷ (is_unknown known, plain XAER_NOTA)
    ∷ (not (has_suspended || is_loose), plain XAER_PROTO)
    ∷ [])

abbrev pub resumable : List Association → ℕ → Triple → Association → Bool
resumable held n xid a = if list_any (suspends n xid) held then suspends n xid a else is_loose_with xid a

abbrev pub held_by : Holder → Association → Association
held_by holder a = record a { holder = holder }

abbrev pub resumed : State → ℕ → Triple → Answer
resumed s n xid =
    answer (carrying (body.Number (timestamp_in s xid)))
    (record s { associations = change (resumable s.associations n xid) (held_by (Active n)) s.associations })

-- what is resumed of a marked branch ends
abbrev pub not_resumed : State → ℕ → Triple → State
not_resumed s n xid = record s { associations = without (resumable s.associations n xid) s.associations }

abbrev pub resume_by : State → ℕ → Triple → Answer
resume_by s n xid =
    unless
    (resume_refusal (is_some (active_of s.associations n)) (known_as s xid) (list_any (suspends n xid) s.associations)
    (list_any (is_loose_with xid) s.associations))
    s
    (marked (mark_in (known_as s xid)) (not_resumed s n xid) (resumed s n xid))

abbrev pub start_by : State → ℕ → ℕ → Triple → Answer
start_by s n flags xid =
    if has flags TMJOIN then join_by s n xid
    else if has flags TMRESUME then resume_by s n xid
    else begin_by s n xid

-- End with TMSUSPEND: the session's active association is suspended, or loose with TMMIGRATE

abbrev pub end_refusal : Known → Bool → Option Reply
end_refusal known holds = first ((is_unknown known, plain XAER_NOTA) ∷ (not holds, plain XAER_PROTO) ∷ [])

abbrev pub loose_refusal : Bool → ℕ → Option Reply
loose_refusal migrates loose =
    if migrates then first ((not (nat_lt loose MOST_LOOSE), detailed XAER_RMERR detail.Limit) ∷ []) else None

abbrev pub suspended : State → ℕ → Bool → Triple → State
suspended s n migrates xid = record s {
  associations = change (works_in n xid) (held_by (if migrates then Loose else Suspended n)) s.associations;
}

-- what would be suspended of a marked branch ends
abbrev pub not_suspended : State → ℕ → Triple → State
not_suspended s n xid = record s { associations = without (works_in n xid) s.associations }

abbrev pub suspend_by : State → ℕ → Bool → Triple → Answer
suspend_by s n migrates xid =
    unless (end_refusal (known_as s xid) (is_with xid (active_of s.associations n))) s
    (marked (mark_in (known_as s xid)) (not_suspended s n xid)
    (unless (loose_refusal migrates (loose_of s.associations xid)) s (ok (suspended s n migrates xid))))

-- End with TMSUCCESS or TMFAIL: the session's own association with the XID ends, or a loose one if it has none. TMFAIL
-- marks the branch.

-- the session has an association of its own with the XID, or there is a loose one
abbrev pub can_end : List Association → ℕ → Triple → Bool
can_end held n xid = list_any (owns n xid) held || list_any (is_loose_with xid) held

abbrev pub without_one : List Association → ℕ → Triple → List Association
without_one held n xid =
    if list_any (owns n xid) held then without (owns n xid) held else without (is_loose_with xid) held

abbrev pub ended : State → ℕ → Triple → State
ended s n xid = record s { associations = without_one s.associations n xid }

abbrev pub failed : State → ℕ → Triple → Answer
failed s n xid =
    answer (plain XA_RBROLLBACK) (record s {
      associations = without_one s.associations n xid;
      branches = change (is_known_as xid) (with_mark XA_RBROLLBACK) s.branches;
    })

abbrev pub leave_by : State → ℕ → Bool → Triple → Answer
leave_by s n fails xid =
    unless (end_refusal (known_as s xid) (can_end s.associations n xid)) s
    (marked (mark_in (known_as s xid)) (ended s n xid) (if fails then failed s n xid else ok (ended s n xid)))

abbrev pub end_by : State → ℕ → ℕ → Triple → Answer
end_by s n flags xid =
    if has flags TMSUSPEND then suspend_by s n (has flags TMMIGRATE) xid
    else leave_by s n (has flags TMFAIL) xid
