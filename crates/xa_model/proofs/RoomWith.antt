-- The room of a log with the first of some records, and with the first two, and so on.
use Rattle.std.proofs.Common.{◌≡◌, ℕ, zero, suc, ◌+◌, List, [], ◌∷◌, ◌++◌, ap, sym, ◌∙◌, subst}
use Rattle.std.specs.Prelude.{IfSome}
use Rattle.xa_codes.specs.declared.direction.Direction.TheVariants as direction
use Rattle.xa_record.specs.declared.record.Record.{Record}
use Rattle.xa_record.specs.declared.record.Record.TheVariants as logged
use Rattle.xa_model.specs.State.{State, Standing}
use Rattle.xa_model.specs.Durable.{durable}
use Rattle.xa_model.specs.Fold.{apply, snapshot, size_of, sizes}
use Rattle.xa_model.specs.Logging.{applied, applied_all}
use Rattle.xa_model.specs.Restarting.{looked, survived, with_first}
use Rattle.xa_model.specs.Invariants.Sound.{IsSound}
use Rattle.xa_model.specs.Invariants.MayLog.{MayLog}
use Rattle.xa_model.specs.Invariants.Loggable.{MayFollow}
use Rattle.xa_model.specs.Invariants.Room.{HasRoom, HasRoomWith, HasRoomAnyway}
use Rattle.xa_model.proofs.AppliedAll.{applied_beside, applied_changes, beside, if_imply, if_mapped}
use Rattle.xa_model.proofs.AppliedDecisions.{applied_lasts, applied_sound}
use Rattle.xa_model.proofs.Rooms.{lasting_room}

-- a record takes as much of a log whoever answers, and where the same lasts

pub stopped_room : (s : State) (r : Record) (standing : Standing) (o : List Record) → HasRoom (applied r s) → HasRoom (applied r (beside s standing o))
stopped_room s r standing o h = subst HasRoom (sym (applied_beside s r standing o)) h

pub stopped_with : (rs : List Record) (s : State) (standing : Standing) (o : List Record) → HasRoomWith s rs → HasRoomWith (beside s standing o) rs
stopped_with [] s standing o h = tt
stopped_with (r ∷ rs) s standing o h = (
  stopped_room s r standing o h.0,
  subst (λ (t : State). HasRoomWith t rs) (sym (applied_beside s r standing o)) (stopped_with rs (applied r s) standing o h.1),
)

applied_bytes : (s : State) (r : Record) → (applied r s).log_bytes ≡ s.log_bytes
applied_bytes s r = ap (λ (t : State). t.log_bytes) (applied_changes s r)

sized : (r : Record) (m n : ℕ) → m ≡ n → m + size_of r ≡ n + size_of r
sized r m n e = ap (λ k. k + size_of r) e

applied_ends : (s t : State) (r : Record) → t.end ≡ s.end → durable t ≡ durable s → MayLog s r → (applied r t).end ≡ (applied r s).end
applied_ends s t (logged.Opened boot) e lasts may = ap (λ d. 8 + sizes (snapshot d boot)) lasts
applied_ends s t (logged.Prepared xid u ws) e lasts may = sized (logged.Prepared xid u ws) t.end s.end e
applied_ends s t (logged.Committed xid u ws) e lasts may = sized (logged.Committed xid u ws) t.end s.end e
applied_ends s t (logged.Completed xid direction.Commit) e lasts may = sized (logged.Completed xid direction.Commit) t.end s.end e
applied_ends s t (logged.Completed xid direction.Rollback) e lasts may = sized (logged.Completed xid direction.Rollback) t.end s.end e
applied_ends s t (logged.Decided xid direction.Commit) e lasts may = sized (logged.Decided xid direction.Commit) t.end s.end e
applied_ends s t (logged.Decided xid direction.Rollback) e lasts may = sized (logged.Decided xid direction.Rollback) t.end s.end e
applied_ends s t (logged.Forgotten xid) e lasts may = sized (logged.Forgotten xid) t.end s.end e
applied_ends s t (logged.Base u ws) e lasts may = absurd may
applied_ends s t (logged.Held xid u ws) e lasts may = absurd may
applied_ends s t (logged.Known xid d) e lasts may = absurd may

pub none_open : (t : State) (rs : List Record) → rs ≡ [] → HasRoomWith t rs
none_open t rs e = subst (λ (l : List Record). HasRoomWith t l) (sym e) tt

pub still_open : (rs : List Record) (s t : State) → IsSound s → IsSound t → MayFollow s rs → MayFollow t rs → t.log_bytes ≡ s.log_bytes
    → t.end ≡ s.end → durable t ≡ durable s → HasRoomWith s rs → HasRoomWith t rs
still_open [] s t h k follow still bytes end lasts room = tt
still_open (r ∷ rs) s t h k follow still bytes end lasts room =
    let same_bytes = applied_bytes t r ∙ bytes ∙ sym (applied_bytes s r) in
    let same_end = applied_ends s t r end lasts follow.0.may in
    let same = applied_lasts t r k still.0.may ∙ ap (apply r) lasts ∙ sym (applied_lasts s r h follow.0.may) in (
      lasting_room (applied r s) (applied r t) same_bytes same_end same room.0,
      still_open rs (applied r s) (applied r t) (applied_sound s r h follow.0.may) (applied_sound t r k still.0.may) follow.1 still.1 same_bytes
          same_end same room.1,
    )

-- with the first of the open records
first_room : (k : ℕ) (rs : List Record) (s : State) → HasRoom s → HasRoomWith s rs → IfSome (with_first k rs s) HasRoom
first_room zero rs s h room = h
first_room (suc k) [] s h room = tt
first_room (suc k) (r ∷ rs) s h room = first_room k rs (applied r s) room.0 room.1

pub survived_room : (s : State) (k : ℕ) → HasRoomAnyway s → IfSome (survived s k) HasRoom
survived_room s k room =
    if_mapped HasRoom looked (with_first k s.open_records s)
    (if_imply HasRoom (λ t. HasRoom (looked t)) (λ t h. h) (with_first k s.open_records s) (first_room k s.open_records s room.room room.found))

pub all_room : (rs : List Record) (s : State) → HasRoom s → HasRoomWith s rs → HasRoom (applied_all rs s)
all_room [] s h room = h
all_room (r ∷ rs) s h room = all_room rs (applied r s) room.0 room.1

pub more_room : (rs : List Record) (r : Record) (s : State) → HasRoomWith s rs → HasRoom (applied r (applied_all rs s)) → HasRoomWith s (rs ++ r ∷ [])
more_room [] r s room last = (last, tt)
more_room (q ∷ rs) r s room last = (room.0, more_room rs r (applied q s) room.1 last)
