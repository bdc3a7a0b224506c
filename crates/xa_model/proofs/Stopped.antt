-- A manager that is down, or whose process ended: it stays sound, and is like it was.
use Rattle.std.proofs.Common.{ℕ, List, [], refl}
use Rattle.xa_record.specs.declared.record.Record.{Record}
use Rattle.xa_model.specs.State.{State, Down, Ended}
use Rattle.xa_model.specs.Invariants.Sound.{IsSound}
use Rattle.xa_model.specs.Restarting.{refused_opening}
use Rattle.xa_model.specs.Logging.{down}
use Rattle.xa_model.proofs.Likeness.{IsLike, same_branches}
use Rattle.xa_model.proofs.Parts.{sound_beside, left_sound}

pub down_sound : (s : State) (r : List Record) → IsSound s → IsSound (record (down s) { open_records = r })
down_sound s r h = sound_beside s s.reads s.logged_boot s.end Down r s.moment h

pub ended_sound : (s : State) (name : List ℕ) (log_bytes : ℕ) (r : List Record) → IsSound s → IsSound (record (refused_opening s name log_bytes) { open_records = r })
ended_sound s name log_bytes r h =
    let left : State = record s { name = name; log_bytes = log_bytes; sessions = []; associations = [] } in
    sound_beside left s.reads s.logged_boot s.end Ended r s.moment (left_sound s name log_bytes h)

pub down_like : (s : State) (r : List Record) → IsLike s (record (down s) { open_records = r })
down_like s r = same_branches s (record (down s) { open_records = r }) refl refl refl refl (λ xid none. none)

pub ended_like : (s : State) (name : List ℕ) (log_bytes : ℕ) (r : List Record) → IsLike s (record (refused_opening s name log_bytes) { open_records = r })
ended_like s name log_bytes r =
    same_branches s (record (refused_opening s name log_bytes) { open_records = r }) refl refl refl refl (λ xid none. refl)
