use Rattle.std.proofs.Common.{ℕ, List, ◌++◌, ap, ◌∙◌}
use Rattle.xa_tokens.specs.declared.receipt.Receipt.{Receipt}
use Rattle.xa_tokens.specs.declared.view.View.{View}
use Rattle.xa_tokens.specs.Believed.Receipts.{last_or}
use Rattle.xa_tokens.specs.Believed.View.{the_receipt}
use Rattle.xa_tokens.proofs.Keeps.{last_push}
use Rattle.xa_tokens.proofs.tokens.Tokens.take.Goals as goal

pub returns-clause-last : goal.returns-clause-last
returns-clause-last g c =
    let before = c.share.inside.seat.me.0.told in
    ap {A = View × List (ℕ × Unit {0})} (λ m. last_or 0 m.0.told) c.join.ensures.1
    ∙ ap {A = View × List (ℕ × Unit {0})} (λ m. last_or 0 (before ++ m.0.told)) c.told.invariant.1
    ∙ last_push 0 before (the_receipt c.told.inside.seat.me.0)
    ∙ ap (λ (r : Receipt). r.reply.place) c.told.view_is
