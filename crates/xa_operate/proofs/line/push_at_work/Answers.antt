use Rattle.std.proofs.Common.{◌≡◌, ◌++◌, ℕ, codes, subst}
use Rattle.xa_operate.specs.Lines.{count}
use Rattle.xa_operate.proofs.Pieces.{behind}
use Rattle.xa_operate.proofs.line.push_at_work.Goals as goal

pub returns : goal.returns
returns c =
    let counted =
    subst (λ (n : ℕ). c.push_count.new.line.items ≡ c.args.line.now.items ++ count c.args.format 123 (codes "branches at work") n) c.at_work.ensures
    c.in_ok-push_count.ensures in
    behind c.push_counts_end.result c.args.line.now.items _ _ _ _ counted c.push_counts_end.ensures
