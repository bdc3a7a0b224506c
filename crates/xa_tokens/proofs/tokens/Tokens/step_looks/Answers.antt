use Rattle.std.proofs.Common.{sym, ◌∙◌}
use Rattle.xa_tokens.proofs.Allowed.{may_look}
use Rattle.xa_tokens.proofs.tokens.Tokens.step_looks.Goals as goal

pub load-requires : goal.load-requires
load-requires g c = (c.requires.own ∙ sym c.args.self.now.is, c.args.self.now.some, may_look _ _ _ _ c.requires.keeps)
