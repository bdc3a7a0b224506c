use Rattle.std.proofs.Common.{sym, ◌∙◌}
use Rattle.xa_tokens.proofs.Allowed.{may_ask}
use Rattle.xa_tokens.proofs.tokens.Tokens.step_asks.Goals as goal

pub load-requires : goal.load-requires
load-requires g c = (c.requires.own ∙ sym c.args.self.now.is, c.args.self.now.some, may_ask _ _ _ _ g.P.About.receipt.ask c.requires.parts c.requires.after)
