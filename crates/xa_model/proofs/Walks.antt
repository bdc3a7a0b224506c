-- What branches walked over stays one copy.
use Rattle.std.proofs.Common.{◌≡◌, ℕ, List, refl, sym, subst}
use Rattle.xa_xid.specs.Triple.{Triple}
use Rattle.xa_record.specs.declared.record.Record.{Record}
use Rattle.xa_model.specs.Ranges.{Range}
use Rattle.xa_model.specs.State.{State, Branch, Walked, Up, is_known_as}
use Rattle.xa_model.specs.Data.{having_done, walked}
use Rattle.xa_model.specs.Step.{turn}
use Rattle.xa_model.specs.Invariants.Loggable.{IsRecoverable, MayFollow}
use Rattle.xa_model.specs.OneCopy.{ComesOf, itself, steps, walks, WalksOneCopy}
use Rattle.xa_model.proofs.Lists.{change_all}
use Rattle.xa_model.proofs.Recordable.{IsRecordable, recordable, relogged}
use Rattle.xa_model.proofs.Soundness.{walked_sound}
use Rattle.xa_model.proofs.Replies.{taken_all}
use Rattle.xa_model.proofs.Recoveries.{keeps_recoverable}
use Rattle.xa_model.proofs.Moves.{core, walks as move}
use Rattle.xa_model.proofs.Pins.{AreSettled}
use Rattle.xa_model.proofs.ReadsAndWrites.{moves_settled}
use Rattle.xa_model.proofs.MovingRows.{Moved}
use Rattle.xa_model.proofs.MovingTurns.{turn_moved}
use Rattle.xa_model.proofs.Copies.{ordered, settled_copy, unread_first}

walked_recoverable : (s : State) (range : Range) (found : List (List ℕ × List ℕ)) (sources : List (List ℕ × ℕ)) (xid : Triple) (b : Branch)
    → s.standing ≡ Up → IsRecoverable s → IsRecoverable (walked s range found sources xid b)
walked_recoverable s range found sources xid b up h = record {
  sound = walked_sound s range found sources xid b h.sound;
  loggable = relogged s after h.loggable refl refl
      (change_all (IsRecordable s.logged_boot) (is_known_as xid) (having_done (Walked range found))
      (λ x k. record { past = k.past; written = k.written }) s.branches (recordable s h.loggable));
  open_records = subst (λ (rs : List Record). MayFollow after rs) (sym (h.settled up)) tt;
  group = h.group;
  settled = h.settled;
  current = h.current;
}
  where
    after : State
    after = walked s range found sources xid b

come : {first last : State} → IsRecoverable first → AreSettled (core first) → ComesOf first last → IsRecoverable last × AreSettled (core last)
come r k itself = (r, k)
come {first} r k (steps {s} happening outcome a is e c) =
    let before : IsRecoverable s × AreSettled (core s) = come r k c in (
      keeps_recoverable s happening outcome a is before.0 e,
      moves_settled (taken_all (Moved s) (turn s happening) outcome a (turn_moved s happening before.0) e) (ordered s before.0) before.1,
    )
come {first} r k (walks {s} range found sources xid b up known works sees c) =
    let before : IsRecoverable s × AreSettled (core s) = come r k c in (
      walked_recoverable s range found sources xid b up before.0,
      moves_settled (move range found sources xid b known sees) (ordered s before.0) before.1,
    )

pub walks_one_copy : WalksOneCopy
walks_one_copy first last r unread c =
    let all : IsRecoverable last × AreSettled (core last) = come r (unread_first first r unread) c in settled_copy last all.0 all.1
