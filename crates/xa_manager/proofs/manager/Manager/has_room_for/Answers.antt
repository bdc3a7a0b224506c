use Rattle.std.proofs.Common.{◌≡◌, ◌+◌, ℕ, List, length, ap, ◌∙◌}
use Rattle.xa_log.specs.Believed.Chain.{newest, text}
use Rattle.xa_model.specs.Fold.{snapshot, sizes}
use Rattle.xa_model.specs.Durable.{durable}
use Rattle.xa_model.specs.Logging.{prepared_count, log_room}
use Rattle.xa_manager.proofs.LogLengths.{text_size}
use Rattle.xa_manager.proofs.Taking.{tables_up}
use Rattle.xa_manager.proofs.manager.Manager.has_room_for.Goals as goal

pub returns : goal.returns
returns g c = λ s st is_up bodies.
    let up = tables_up _ c.args.self.now s is_up st in
    let prepared : c.prepared.result ≡ prepared_count s = c.prepared.ensures s up.branches in
    let completed : c.completed.result ≡ length s.decided = c.completed.ensures s up.branches in
    let size = ap (λ (b : List (List ℕ)). length (text newest b)) bodies ∙ text_size newest (snapshot (durable s) (s.logged_boot + 1)) in
    let end = 8 + sizes (snapshot (durable s) (s.logged_boot + 1)) in
    c.begins_with_room.ensures
    ∙ ap (λ (n : ℕ). log_room c.args.self.now.tables.log_bytes n c.prepared.result c.completed.result) size
    ∙ ap (λ (n : ℕ). log_room n end c.prepared.result c.completed.result) up.log_bytes
    ∙ ap (λ (n : ℕ). log_room s.log_bytes end n c.completed.result) prepared
    ∙ ap (λ (n : ℕ). log_room s.log_bytes end (prepared_count s) n) completed
