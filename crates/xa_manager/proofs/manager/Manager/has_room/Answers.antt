use Rattle.std.proofs.Common.{◌≡◌, length, arith}
use Rattle.std.proofs.lemmas.Bool.Decides.{nat_tests}
use Rattle.xa_model.specs.Logging.{prepared_count}
use Rattle.xa_manager.proofs.Rooms.{few_kept}
use Rattle.xa_manager.proofs.Taking.{tables_up}
use Rattle.xa_manager.proofs.manager.Manager.has_room.Goals as goal

pub returns-clause-room : goal.returns-clause-room
returns-clause-room g c = λ s st is_up short.
    let up = tables_up _ c.args.self.now s is_up st in
    let kept_ = few_kept s up.recoverable.sound in
    let prepared : c.prepared.result ≡ prepared_count s = c.prepared.ensures s up.branches in
    let completed : c.completed-completed.result ≡ length s.decided = c.completed-completed.ensures s up.branches in
    let bytes = up.log_bytes in
    let end = st.end is_up in
    grind (arith, nat_tests, kept_, prepared, completed, bytes, end, short, c.end.ensures, c.saturating_add-end.ensures, c.saturating_add-prepared.ensures, c.leaves_room.ensures)
