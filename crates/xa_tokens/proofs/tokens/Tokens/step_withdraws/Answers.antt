use Rattle.std.proofs.Common.{sym, ◌∙◌}
use Rattle.xa_tokens.proofs.Allowed.{may_withdraw}
use Rattle.xa_tokens.proofs.tokens.Tokens.step_withdraws.Goals as goal

pub load-requires : goal.load-requires
load-requires g c =
    let last = c.requires.last in
    (c.requires.own ∙ sym c.args.self.now.is, c.args.self.now.some, may_withdraw _ _ _ _ last.0 last.1 c.requires.parts last.2 last.3)
