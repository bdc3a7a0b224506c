-- Room for a record after others, whatever becomes of them.
use Rattle.std.proofs.Common.{◌≡◌, ◌≤◌, ℕ, ◌+◌, ◌*◌, Bool, true, false, List, [], ◌∷◌, length, refl, sym, ap, ◌∙◌, subst, arith}
use Rattle.std.specs.List.{AllByRecursion}
use Rattle.xa_codes.specs.declared.direction.Direction.TheVariants as direction
use Rattle.xa_limits.specs.declared.TheConstants.{DECIDED_ROOM, PREPARED_ROOM}
use Rattle.xa_record.specs.declared.record.Record.{Record}
use Rattle.xa_record.specs.declared.record.Record.TheVariants as logged
use Rattle.xa_model.specs.State.{State, Branch, count, is_known_as, change}
use Rattle.xa_model.specs.Phases.{as_committed, as_prepared}
use Rattle.xa_model.specs.Durable.{Durable}
use Rattle.xa_model.specs.Fold.{size_of, sizes}
use Rattle.xa_model.specs.Logging.{applied, applied_all, is_boot, is_in_doubt, log_room, prepared_count}
use Rattle.xa_model.specs.Invariants.MayLog.{MayLog}
use Rattle.xa_model.specs.Invariants.Loggable.{MayFollow}
use Rattle.xa_model.specs.Laws.Together.{has_room_for, is_preparing, has_room_after, RoomWhereKept, RoomWhereRefused}
use Rattle.xa_model.proofs.Counts.{count_change, count_changed}
use Rattle.xa_model.proofs.Rooms.{less_room, completed_fewer, forgotten_fewer, prepared_lasting, decided_lasting}

-- the state takes no more of a log than this one with this many bytes and prepared branches more
record TakesAtMost (s : State) (bytes more : ℕ) (t : State) : Type 0 where
  log_bytes : t.log_bytes ≡ s.log_bytes
  end : t.end ≤ s.end + bytes
  kept :
      PREPARED_ROOM * prepared_count t + DECIDED_ROOM * length t.decided
      ≤ PREPARED_ROOM * (prepared_count s + more) + DECIDED_ROOM * length s.decided

room_by : (s t : State) (bytes more size extra : ℕ) → TakesAtMost s bytes more t
    → log_room s.log_bytes (s.end + bytes + size) (prepared_count s + more + extra) (length s.decided) ≡ true
    → log_room t.log_bytes (t.end + size) (prepared_count t + extra) (length t.decided) ≡ true
room_by s t bytes more size extra h e =
    let last = h.end in
    let kept = h.kept in
    subst (λ n. log_room n (t.end + size) (prepared_count t + extra) (length t.decided) ≡ true) (sym h.log_bytes)
    (less_room s.log_bytes (s.end + bytes + size) (prepared_count s + more + extra) (length s.decided) (t.end + size) (prepared_count t + extra)
    (length t.decided) e (omega (arith, last, kept)))

none_more : (s : State) (bytes more size : ℕ)
    → log_room s.log_bytes (s.end + bytes + size) (prepared_count s + more) (length s.decided) ≡ true
    → log_room s.log_bytes (s.end + bytes + size) (prepared_count s + more + 0) (length s.decided) ≡ true
none_more s bytes more size e =
    let same : prepared_count s + more ≡ prepared_count s + more + 0 = omega arith in
    subst (λ n. log_room s.log_bytes (s.end + bytes + size) n (length s.decided) ≡ true) same e

room_after : (s t : State) (before : List Record) (r : Record) → TakesAtMost s (sizes before) (count is_preparing before) t
    → has_room_after before s r ≡ true → has_room_for t r ≡ true
room_after s t before (logged.Opened boot) h e = refl
room_after s t before (logged.Prepared xid time ws) h e =
    room_by s t (sizes before) (count is_preparing before) (size_of (logged.Prepared xid time ws)) 1 h e
room_after s t before (logged.Committed xid time ws) h e =
    let size = size_of (logged.Committed xid time ws) in
    room_by s t (sizes before) (count is_preparing before) size 0 h (none_more s (sizes before) (count is_preparing before) size e)
room_after s t before (logged.Completed xid way) h e = refl
room_after s t before (logged.Decided xid way) h e = refl
room_after s t before (logged.Forgotten xid) h e = refl
room_after s t before (logged.Base time ws) h e = refl
room_after s t before (logged.Held xid time ws) h e = refl
room_after s t before (logged.Known xid way) h e = refl

-- where they are kept

abbrev doubts : Branch → Bool
doubts b = is_in_doubt b.phase

one_takes : (s : State) (r : Record) → MayLog s r → is_boot r ≡ false → TakesAtMost s (size_of r) (count is_preparing (r ∷ [])) (applied r s)
one_takes s (logged.Opened boot) may other = absurd (cc other)
one_takes s (logged.Prepared xid t ws) may other =
    let more : count doubts (change (is_known_as xid) as_prepared s.branches) ≤ count doubts s.branches + 1
    = count_change (is_known_as xid) as_prepared doubts s.branches in
    record { log_bytes = refl; end = omega arith; kept = omega (arith, more) }
one_takes s (logged.Committed xid t ws) may other =
    let fewer : count doubts (change (is_known_as xid) as_committed s.branches) ≤ count doubts s.branches
    = count_changed (is_known_as xid) as_committed doubts (λ b known no. absurd (cc no)) s.branches in
    record { log_bytes = refl; end = omega arith; kept = omega (arith, fewer) }
one_takes s (logged.Completed xid direction.Commit) may other =
    let fewer = completed_fewer s direction.Commit xid may in record { log_bytes = refl; end = omega arith; kept = omega (arith, fewer) }
one_takes s (logged.Completed xid direction.Rollback) may other =
    let fewer = completed_fewer s direction.Rollback xid may in record { log_bytes = refl; end = omega arith; kept = omega (arith, fewer) }
one_takes s (logged.Decided xid direction.Commit) may other =
    let fewer = completed_fewer s direction.Commit xid may in record { log_bytes = refl; end = omega arith; kept = omega (arith, fewer) }
one_takes s (logged.Decided xid direction.Rollback) may other =
    let fewer = completed_fewer s direction.Rollback xid may in record { log_bytes = refl; end = omega arith; kept = omega (arith, fewer) }
one_takes s (logged.Forgotten xid) may other =
    let fewer = forgotten_fewer s xid may in record { log_bytes = refl; end = omega arith; kept = omega (arith, fewer) }
one_takes s (logged.Base t ws) may other = absurd may
one_takes s (logged.Held xid t ws) may other = absurd may
one_takes s (logged.Known xid way) may other = absurd may

all_take : (rs : List Record) (s : State) → MayFollow s rs → AllByRecursion (λ (q : Record). is_boot q ≡ false) rs
    → TakesAtMost s (sizes rs) (count is_preparing rs) (applied_all rs s)
all_take [] s follow others = record { log_bytes = refl; end = omega arith; kept = omega arith }
all_take (r ∷ rs) s follow others =
    let one = one_takes s r follow.0.may others.0 in
    let more = all_take rs (applied r s) follow.1 others.1 in
    let one_end = one.end in
    let more_end = more.end in
    let one_kept = one.kept in
    let more_kept = more.kept in
    record {
      log_bytes = more.log_bytes ∙ one.log_bytes;
      end = omega (arith, one_end, more_end);
      kept = omega (arith, one_kept, more_kept);
    }

pub room_where_kept : RoomWhereKept
room_where_kept s before r follow others e = room_after s (applied_all before s) before r (all_take before s follow others) e

-- and where they are refused

pub room_where_refused : RoomWhereRefused
room_where_refused s t before r bytes end lasts e =
    let prepared : prepared_count t ≡ prepared_count s
    = sym (prepared_lasting t) ∙ ap (λ (d : Durable). length d.prepared) lasts ∙ prepared_lasting s in
    let decided : length t.decided ≡ length s.decided
    = sym (decided_lasting t) ∙ ap (λ (d : Durable). length d.decided) lasts ∙ decided_lasting s in
    room_after s t before r
    (record { log_bytes = bytes; end = omega (arith, end); kept = omega (arith, prepared, decided) }) e
