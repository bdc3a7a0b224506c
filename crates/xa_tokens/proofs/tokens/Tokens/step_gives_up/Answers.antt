use Rattle.std.proofs.Common.{sym, ◌∙◌}
use Rattle.xa_tokens.proofs.Allowed.{may_give_up}
use Rattle.xa_tokens.proofs.tokens.Tokens.step_gives_up.Goals as goal

pub load-requires : goal.load-requires
load-requires g c = (c.requires.own ∙ sym c.args.self.now.is, c.args.self.now.some, may_give_up _ _ _ _ c.requires.parts)
