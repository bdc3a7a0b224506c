use Rattle.std.proofs.Common.{ℕ, List, ◌∙◌, ap}
use Rattle.xa_tokens.specs.declared.view.View.{View}
use Rattle.xa_tokens.specs.Believed.Account.{Account}
use Rattle.xa_tokens.specs.Believed.View.{ticket_view}
use Rattle.xa_tokens.specs.Steps.{withdrawing}
use Rattle.xa_tokens.proofs.Keeps.{withdrawn}
use Rattle.xa_tokens.proofs.tokens.Tokens.withdraw.Goals as goal

pub returns : goal.returns
returns g c asked last =
    withdrawn c.share.inside.seat.me.0 c.ticket.inside.seat.me.0 c.step_withdraws.new.seat.me.0 asked c.args.ticket
    (ap {A = View × List (ℕ × Unit {0})} (λ m. m.0) c.ticket.invariant.1 ∙ ap ticket_view c.ticket.view_is)
    (ap {A = View × List (ℕ × Unit {0})} (λ m. m.0) c.step_withdraws.ensures.1
    ∙ ap {A = View × List (ℕ × Unit {0})} (λ m. withdrawing m.0) c.join.ensures.1)
    (ap (λ (a : Account). a.asked) c.share.view_is ∙ last)
    ∙ ap (λ (a : Account). record a { asked = asked }) c.share.view_is
