use Rattle.std.proofs.Common.{ℕ, List, [], ◌∷◌, ◌++◌, ap, ◌∙◌}
use Rattle.xa_record.specs.Spelling.{spelled}
use Rattle.xa_record.specs.declared.record.Record.TheVariants.{Opened}
use Rattle.xa_recovery.proofs.snapshots.begin_snapshot.Goals as goal

pub returns : goal.returns
returns c =
    (rw c.in_ok-opened.ensures at c.in_ok-put.ensures)
    ∙ ap (λ (bodies : List (List ℕ)). bodies ++ spelled (Opened c.args.boot) ∷ []) c.in_ok-bodies.ensures.items
