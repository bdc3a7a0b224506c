-- Each step leaves a log the room to complete and forget what is prepared.
use Rattle.std.proofs.Common.{◌≡◌, ◌≢◌, ℕ, ◌+◌, ◌≤◌, Bool, true, false, cond, nat_lt, List, [], ◌∷◌, ◌++◌, Option, Some, None, refl, sym, ◌∙◌, subst, arith}
use Rattle.std.specs.Prelude.{IfSome, filter, option_map, ◌&&◌}
use Rattle.std.proofs.lemmas.Bool.{and_parts}
use Rattle.xa_codes.specs.declared.codes.TheConstants.{XAER_RMFAIL}
use Rattle.xa_codes.specs.declared.detail.Detail.TheVariants as detail
use Rattle.xa_frame.specs.declared.reply.Reply.{Reply}
use Rattle.xa_frame.specs.declared.request.Request.{Request}
use Rattle.xa_frame.specs.declared.request.Request.TheVariants.{Restart, Trim}
use Rattle.xa_record.specs.declared.record.Record.{Record}
use Rattle.xa_record.specs.declared.record.Record.TheVariants as logged
use Rattle.xa_model.specs.declared.event.Event.{Event}
use Rattle.xa_model.specs.declared.event.Event.TheVariants as event
use Rattle.xa_model.specs.declared.outcome.Appending.{Appending}
use Rattle.xa_model.specs.declared.outcome.Appending.TheVariants.{Kept, Refused, Lost}
use Rattle.xa_model.specs.State.{State, Standing, Up, Down, Ended, count}
use Rattle.xa_model.specs.Answer.{Answer, detailed, answer, ok}
use Rattle.xa_model.specs.Early.{early_refusal}
use Rattle.xa_model.specs.Turn.{Asked, Reopened, Turn, Nobody, Now, Appends, Checkpoints, Rereads, Joins, Rereading, Stops, Opens, unless_now}
use Rattle.xa_model.specs.Step.{respond, asked, turn, context_of, further_record}
use Rattle.xa_model.specs.Logging.{is_in_doubt, snapshot_end, applied, applied_all, down, lost, lost_too, supposed}
use Rattle.xa_model.specs.Restarting.{survived, lasts, restarted, restart_turn, restarting, boot_became, reopened, reopen_became, reopening, reopen_turn, refused_opening, can_open}
use Rattle.xa_model.specs.Events.{IsEvent, is_restart, begins_boot}
use Rattle.xa_model.specs.Invariants.Loggable.{IsRecoverable}
use Rattle.xa_model.specs.Laws.Logging.{KeepsLog, LogsWhatLasts}
use Rattle.xa_model.specs.Invariants.Backing.{Backs, settled_first}
use Rattle.xa_model.specs.Invariants.Room.{HasRoom, HasRoomWith, HasRoomAnyway, IsRoomy, KeepsRoom, RestartKeepsRoom, TrimHasRoom}
use Rattle.xa_model.specs.Trimming.{trim_refusal, trimmed, trim_became, trim_turn}
use Rattle.xa_model.proofs.Trims.{may_trim, trim_asked}
use Rattle.xa_model.proofs.Counts.{count_filter}
use Rattle.xa_model.proofs.AppliedAll.{applied_open, applied_beside}
use Rattle.xa_model.proofs.Further.{further_is, further_may, further_other}
use Rattle.xa_model.proofs.Likeness.{like_group}
use Rattle.xa_model.proofs.Replies.{AllOf, AllOfReading, taken_all, joins_all}
use Rattle.xa_model.proofs.LoggedEvents.{events_log_what_lasts}
use Rattle.xa_model.proofs.RecordableRows.{KeepsRecordable, events_keep_recordable}
use Rattle.xa_model.proofs.StillLogged.{StillMay, down_still}
use Rattle.xa_model.proofs.Restarts.{IsFound, survived_found, found_boots}
use Rattle.xa_model.proofs.Booted.{survived_backed}
use Rattle.xa_model.proofs.RoomWith.{stopped_room, stopped_with, none_open, still_open, survived_room, all_room, more_room}
use Rattle.xa_model.proofs.Rooms.{still_room, lasting_room, applied_room, recoverable_snapshot_ends}
use Rattle.xa_model.proofs.RoomyRows.{AsksRoom, events_ask_room}

-- what each answer of the device leaves

abbrev pub LeavesReading : (State → Type 0) → Rereading → Type 0
LeavesReading P x = AllOfReading (λ a. P a.after) x

abbrev pub Leaves : (State → Type 0) → Turn → Type 0
Leaves P t = AllOf (λ a. P a.after) t

-- what is answered at once

now_room : (s t : State) → KeepsLog s t → t.log_bytes ≡ s.log_bytes → HasRoom s → HasRoom t
now_room s t k bytes h = lasting_room s t bytes k.end k.lasts h

settled_room : (s t : State) → s.open_records ≡ [] → KeepsLog s t → t.log_bytes ≡ s.log_bytes → HasRoom s → HasRoomAnyway t
settled_room s t none k bytes h = record {
  room = now_room s t k bytes h;
  found = none_open t t.open_records (k.open_records ∙ none);
}

-- a manager that is up

lost_room : (s : State) (r : Record) → HasRoom s → HasRoom (applied r s) → HasRoomAnyway (lost s r).after
lost_room s r h k = record { room = h; found = (stopped_room s r Down (r ∷ []) k, tt) }

up_leaves : (s : State) (t : Turn) → IsRecoverable s → s.standing ≡ Up → HasRoom s → LogsWhatLasts s t → KeepsRecordable s t → AsksRoom s t
    → Leaves HasRoomAnyway t
up_leaves s Nobody h up room l k asks = absurd l
up_leaves s (Now a) h up room l k asks = settled_room s a.after (h.settled up) l asks room
up_leaves s (Appends r after) h up room l k asks = λ x. by_fate x
  where
    there : HasRoom (applied r s)
    there = applied_room s r room asks.0 l.0 k.0 k.1

    by_fate : (x : Appending) → HasRoomAnyway (after x).after
    by_fate Kept = subst (λ (a : Answer). HasRoomAnyway a.after) (sym l.1)
        (record {
          room = there;
          found = none_open (applied r s) (applied r s).open_records (applied_open s r ∙ h.settled up);
        })
    by_fate Refused = settled_room s (after Refused).after (h.settled up) l.2 asks.1 room
    by_fate Lost = subst (λ (a : Answer). HasRoomAnyway a.after) (sym l.3) (lost_room s r room there)
up_leaves s (Checkpoints r after) h up room l k asks = absurd l
up_leaves s (Rereads failed found) h up room l k asks = absurd l
up_leaves s (Joins refused r lost) h up room l k asks = absurd l

-- one that is down

down_leaves : (s : State) (t : Turn) → IsRecoverable s → HasRoomAnyway s → LogsWhatLasts s t → AsksRoom s t → StillMay s t
    → Leaves HasRoomAnyway t
down_leaves s Nobody h room l asks still = absurd l
down_leaves s (Now a) h room l asks still = record {
  room = now_room s a.after l asks room.room;
  found = subst (λ (rs : List Record). HasRoomWith a.after rs) (sym l.open_records)
      (still_open s.open_records s a.after h.sound l.sound h.open_records
      (like_group s a.after s.open_records h.group still h.open_records) asks l.end l.lasts room.found);
}
down_leaves s (Appends r after) h room l asks still = absurd still
down_leaves s (Checkpoints r after) h room l asks still = absurd l
down_leaves s (Rereads failed found) h room l asks still = absurd l
down_leaves s (Joins refused r lost) h room l asks still = absurd l

answers : (s : State) (standing : Standing) → s.standing ≡ standing → (standing ≡ Ended → ⊥) → s.standing ≢ Ended
answers s standing e other ended = other (sym e ∙ ended)

-- Restarts

booted_room : (rs : List Record) (s : State) (boot : ℕ) → IsRecoverable s → Backs rs s → HasRoom s → HasRoom (restarted s boot)
booted_room rs s boot h k room =
    let fewer : count (λ b. is_in_doubt b.phase) (filter lasts s.branches) ≤ count (λ b. is_in_doubt b.phase) s.branches
    = count_filter lasts (λ b. is_in_doubt b.phase) s.branches in
    let short : snapshot_end s boot ≤ s.end = recoverable_snapshot_ends rs s boot h k in
    still_room s (restarted s boot) refl (omega (arith, fewer, short)) room

opened_room : (rs : List Record) (s : State) (boot : ℕ) → IsRecoverable s → Backs rs s → HasRoom s → HasRoom (applied (logged.Opened boot) s)
opened_room rs s boot h k room =
    let short : snapshot_end s boot ≤ s.end = recoverable_snapshot_ends rs s boot h k in
    still_room s (applied (logged.Opened boot) s) refl (omega (arith, short)) room

down_room : (s : State) → s.open_records ≡ [] → HasRoom s → HasRoomAnyway (down s)
down_room s none room = record { room = room; found = none_open (down s) s.open_records none }

restarts_by : (rs : List Record) (s : State) (c : Bool) → IsRecoverable s → Backs rs s → s.open_records ≡ [] → HasRoom s
    → LeavesReading HasRoomAnyway
    (cond c (Opens (logged.Opened (s.logged_boot + 1)) (boot_became s (s.logged_boot + 1)))
    (Stops (answer (detailed XAER_RMFAIL detail.Limit) (down s))))
restarts_by rs s true h k none room = λ x. by_fate x
  where
    by_fate : (x : Appending) → HasRoomAnyway (boot_became s (s.logged_boot + 1) x).after
    by_fate Kept = record {
      room = booted_room rs s (s.logged_boot + 1) h k room;
      found = none_open (restarted s (s.logged_boot + 1)) s.open_records none;
    }
    by_fate Refused = down_room s none room
    by_fate Lost = lost_room s (logged.Opened (s.logged_boot + 1)) room (opened_room rs s (s.logged_boot + 1) h k room)
restarts_by rs s false h k none room = down_room s none room

restarts : (rs : List Record) (s : State) → IsRecoverable s → Backs rs s → s.open_records ≡ [] → HasRoom s
    → LeavesReading HasRoomAnyway (restarting s)
restarts rs s h k none room = restarts_by rs s (nat_lt s.logged_boot 4294967295) h k none room

found_restarts : (rs : List Record) (s : State) → IsRecoverable s → Backs rs s → HasRoomAnyway s → (k : ℕ)
    → IfSome (option_map restarting (survived s k)) (LeavesReading HasRoomAnyway)
found_restarts rs s h b room k = by_look (survived s k) (survived_found s k h) (survived_backed rs s h b k) (survived_room s k room)
  where
    by_look : (o : Option State) → IfSome o (IsFound s k) → IfSome o (Backs (settled_first k s.open_records rs s)) → IfSome o HasRoom
        → IfSome (option_map restarting o) (LeavesReading HasRoomAnyway)
    by_look None found backs has = tt
    by_look (Some t) found backs has = restarts (settled_first k s.open_records rs s) t found.recoverable backs found.settled has

restart_leaves : (rs : List Record) (s : State) → IsRecoverable s → Backs rs s → HasRoomAnyway s → Leaves HasRoomAnyway (restart_turn s)
restart_leaves rs s h k room = (
  record { room = room.room; found = stopped_with s.open_records s Down s.open_records room.found },
  found_restarts rs s h k room,
)

-- Openings

ended_roomy : (s : State) → s.standing ≡ Ended → IsRoomy s
ended_roomy s ended = λ up. absurd (up ended)

reopened_room : (s : State) (name : List ℕ) (log_bytes boot : ℕ) → can_open s log_bytes boot ≡ true → HasRoom (reopened s name log_bytes boot)
reopened_room s name log_bytes boot opens =
    let fewer : count (λ b. is_in_doubt b.phase) (filter lasts s.branches) ≤ count (λ b. is_in_doubt b.phase) s.branches
    = count_filter lasts (λ b. is_in_doubt b.phase) s.branches in
    still_room (record (reopened s name log_bytes boot) { branches = s.branches }) (reopened s name log_bytes boot) refl (omega (arith, fewer)) opens

reopens_by : (s : State) (name : List ℕ) (log_bytes : ℕ) (c : Bool)
    → (nat_lt s.logged_boot 4294967295 && can_open s log_bytes (s.logged_boot + 1)) ≡ c → s.open_records ≡ []
    → LeavesReading IsRoomy
    (cond c (Opens (logged.Opened (s.logged_boot + 1)) (reopen_became s name log_bytes (s.logged_boot + 1)))
    (Stops (ok (refused_opening s name log_bytes))))
reopens_by s name log_bytes true e none = λ x. by_fate x
  where
    by_fate : (x : Appending) → IsRoomy (reopen_became s name log_bytes (s.logged_boot + 1) x).after
    by_fate Kept = λ up. record {
      room = reopened_room s name log_bytes (s.logged_boot + 1)
          (and_parts (nat_lt s.logged_boot 4294967295) (can_open s log_bytes (s.logged_boot + 1)) e).1;
      found = none_open (reopened s name log_bytes (s.logged_boot + 1)) s.open_records none;
    }
    by_fate Refused = λ up. absurd (up refl)
    by_fate Lost = λ up. absurd (up refl)
reopens_by s name log_bytes false e none = λ up. absurd (up refl)

reopens : (s : State) (name : List ℕ) (log_bytes : ℕ) → s.open_records ≡ [] → LeavesReading IsRoomy (reopening name log_bytes s)
reopens s name log_bytes none = reopens_by s name log_bytes (nat_lt s.logged_boot 4294967295 && can_open s log_bytes (s.logged_boot + 1)) refl none

reopen_leaves : (s : State) (name : List ℕ) (log_bytes : ℕ) → IsRecoverable s → Leaves IsRoomy (reopen_turn s name log_bytes)
reopen_leaves s name log_bytes h = (
  (λ up. absurd (up refl)),
  λ k. found_boots (IsFound s k) (LeavesReading IsRoomy) s k (reopening name log_bytes) (λ t found. reopens t name log_bytes found.settled)
      (survived_found s k h),
)

-- one more record of a group is lost

further_room : (s : State) (e : Event) (r : Record) → IsEvent e → IsRecoverable s → further_record s e ≡ Some r → IsRoomy s
    → HasRoomAnyway (lost_too s r).after
further_room s e r is h found roomy =
    let f = further_is s e r found in
    let m = further_may s e r is h f in
    let other = further_other s e r f in
    let room = roomy (answers s Down f.down (λ no. cc no)) in
    let t = supposed s in
    let l : LogsWhatLasts t (Appends r f.after) = subst (LogsWhatLasts t) f.appends (events_log_what_lasts t e m.recovers.sound other) in
    let k : KeepsRecordable t (Appends r f.after) = subst (KeepsRecordable t) f.appends (events_keep_recordable t e is m.recovers.loggable other) in
    let asks : AsksRoom t (Appends r f.after) = subst (AsksRoom t) f.appends (events_ask_room t e other) in
    let last : HasRoom (applied r t) = applied_room t r (all_room s.open_records s room.room room.found) asks.0 l.0 k.0 k.1 in
    let there : HasRoom (applied r (applied_all s.open_records s))
    = subst HasRoom (applied_beside (applied_all s.open_records s) r Up []) last in
    record {
      room = room.room;
      found = stopped_with (s.open_records ++ r ∷ []) s s.standing (s.open_records ++ r ∷ []) (more_room s.open_records r s room.found there);
    }

-- all that happens

unless_leaves : (o : Option Reply) (s : State) (t : Turn) → HasRoomAnyway s → Leaves HasRoomAnyway t → Leaves HasRoomAnyway (unless_now o s t)
unless_leaves None s t h k = k
unless_leaves (Some reply) s t h k = h

restart_asked : (rs : List Record) (s : State) (n : ℕ) (request : Request) → is_restart (event.Call n request) ≡ true → IsRecoverable s → Backs rs s
    → HasRoomAnyway s
    → Leaves HasRoomAnyway (respond s (event.Call n request))
restart_asked rs s n Restart e h k room =
    unless_leaves (early_refusal (context_of s n) Restart) s (restart_turn s) room (restart_leaves rs s h k room)
restart_asked rs s n request e h k room = absurd (cc e)

restart_only : (rs : List Record) (s : State) (e : Event) → is_restart e ≡ true → IsRecoverable s → Backs rs s → HasRoomAnyway s
    → Leaves HasRoomAnyway (respond s e)
restart_only rs s event.Connect e h k room = absurd (cc e)
restart_only rs s (event.Hangup n) e h k room = absurd (cc e)
restart_only rs s (event.Call n request) e h k room = restart_asked rs s n request e h k room

other_leaves : (s : State) (e : Event) (standing : Standing) → s.standing ≡ standing → IsEvent e → begins_boot e ≡ false → IsRecoverable s
    → IsRoomy s
    → Leaves HasRoomAnyway (asked standing (respond s e))
other_leaves s e Up up is other h room =
    up_leaves s (respond s e) h up (room (answers s Up up (λ no. cc no))).room (events_log_what_lasts s e h.sound other)
    (events_keep_recordable s e is h.loggable other) (events_ask_room s e other)
other_leaves s e Down isdown is other h room =
    down_leaves s (respond s e) h (room (answers s Down isdown (λ no. cc no))) (events_log_what_lasts s e h.sound other)
    (events_ask_room s e other) (down_still s e isdown other)
other_leaves s e Ended ended is other h room = tt

-- a trim: the room is that of its own test

trim_by : (s : State) (o : Option Reply) → trim_refusal s ≡ o → s.open_records ≡ [] → HasRoomAnyway s
    → Leaves HasRoomAnyway (unless_now o s (Checkpoints (logged.Opened (s.logged_boot + 1)) (trim_became s (s.logged_boot + 1))))
trim_by s (Some reply) e none room = room
trim_by s None e none room = λ x. by_fate x
  where
    by_fate : (x : Appending) → HasRoomAnyway (trim_became s (s.logged_boot + 1) x).after
    by_fate Kept = record {
      room = (may_trim s e).room;
      found = none_open (trimmed s (s.logged_boot + 1)) s.open_records none;
    }
    by_fate Refused = room
    by_fate Lost = lost_room s (logged.Opened (s.logged_boot + 1)) room.room (may_trim s e).room

trim_only : (s : State) (n : ℕ) (request : Request) → is_restart (event.Call n request) ≡ false → begins_boot (event.Call n request) ≡ true
    → IsRecoverable s → HasRoomAnyway s
    → Leaves HasRoomAnyway (respond s (event.Call n request))
trim_only s n Trim other e h room =
    trim_asked (Leaves HasRoomAnyway) s n room
    (λ up. unless_leaves (early_refusal (context_of s n) Trim) s (trim_turn s) room (trim_by s (trim_refusal s) refl (h.settled up) room))
trim_only s n Restart other e h room = absurd (cc other)
trim_only s n request other e h room = absurd (cc e)

trims_leave : (s : State) (e : Event) → is_restart e ≡ false → begins_boot e ≡ true → IsRecoverable s → HasRoomAnyway s
    → Leaves HasRoomAnyway (respond s e)
trims_leave s event.Connect other e h room = absurd (cc e)
trims_leave s (event.Hangup n) other e h room = absurd (cc e)
trims_leave s (event.Call n request) other e h room = trim_only s n request other e h room

trim_standing : (s : State) (e : Event) (standing : Standing) → s.standing ≡ standing → is_restart e ≡ false → begins_boot e ≡ true → IsRecoverable s
    → IsRoomy s
    → Leaves HasRoomAnyway (asked standing (respond s e))
trim_standing s e Up up other is h room = trims_leave s e other is h (room (answers s Up up (λ no. cc no)))
trim_standing s e Down isdown other is h room = trims_leave s e other is h (room (answers s Down isdown (λ no. cc no)))
trim_standing s e Ended ended other is h room = tt

-- all but a restart
asked_leaves : (s : State) (e : Event) (c : Bool) → begins_boot e ≡ c → IsEvent e → is_restart e ≡ false → IsRecoverable s → IsRoomy s
    → Leaves HasRoomAnyway (asked s.standing (respond s e))
asked_leaves s e true c is other h room = trim_standing s e s.standing refl other c h room
asked_leaves s e false c is other h room = other_leaves s e s.standing refl is c h room

restart_standing : (rs : List Record) (s : State) (e : Event) (standing : Standing) → s.standing ≡ standing → is_restart e ≡ true → IsRecoverable s
    → Backs rs s → IsRoomy s
    → Leaves HasRoomAnyway (asked standing (respond s e))
restart_standing rs s e Up up is h k room = restart_only rs s e is h k (room (answers s Up up (λ no. cc no)))
restart_standing rs s e Down isdown is h k room = restart_only rs s e is h k (room (answers s Down isdown (λ no. cc no)))
restart_standing rs s e Ended ended is h k room = tt

event_leaves : (rs : List Record) (s : State) (e : Event) (c : Bool) → is_restart e ≡ c → IsEvent e → IsRecoverable s → Backs rs s → IsRoomy s
    → Leaves HasRoomAnyway (asked s.standing (respond s e))
event_leaves rs s e true c is h k room = restart_standing rs s e s.standing refl c h k room
event_leaves rs s e false c is h k room = asked_leaves s e (begins_boot e) refl is c h room

pub keeps_room : KeepsRoom
keeps_room s e outcome a is h room other taken =
    let left : HasRoomAnyway a.after
    = taken_all (λ b. HasRoomAnyway b.after) (turn s (Asked e)) outcome a
    (joins_all (λ b. HasRoomAnyway b.after) s (further_record s e) (asked s.standing (respond s e))
    (asked_leaves s e (begins_boot e) refl is other h room) (λ r found. further_room s e r is h found room)) taken in λ up. left

pub restart_keeps_room : RestartKeepsRoom
restart_keeps_room rs s (Asked e) outcome a is h k room taken =
    let left : HasRoomAnyway a.after
    = taken_all (λ b. HasRoomAnyway b.after) (turn s (Asked e)) outcome a
    (joins_all (λ b. HasRoomAnyway b.after) s (further_record s e) (asked s.standing (respond s e))
    (event_leaves rs s e (is_restart e) refl is h k room) (λ r found. further_room s e r is h found room)) taken in λ up. left
restart_keeps_room rs s (Reopened name log_bytes) outcome a is h k room taken =
    taken_all (λ b. IsRoomy b.after) (turn s (Reopened name log_bytes)) outcome a (reopen_leaves s name log_bytes h) taken

-- a trim has the room where records back the state

pub trim_has_room : TrimHasRoom
trim_has_room rs s h k room = opened_room rs s (s.logged_boot + 1) h k room
