use Rattle.std.proofs.Common.{◌≡◌, ℕ, List, IfOk, subst}
use Rattle.xa_operate.specs.Counted.{counted_text}
use Rattle.xa_operate.proofs.shown.shown_counts.Goals as goal

pub returns-in-Metrics : goal.returns-in-Metrics
returns-in-Metrics c =
    rw c.in-Metrics.is
    (subst (λ (ns : List ℕ). IfOk c.counted_text.result (λ text. text.items ≡ counted_text ns)) c.as_slice.ensures.numbers c.counted_text.ensures)
