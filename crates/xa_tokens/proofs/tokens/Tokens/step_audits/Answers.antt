use Rattle.std.proofs.Common.{sym, ◌∙◌}
use Rattle.xa_tokens.proofs.Allowed.{may_audit}
use Rattle.xa_tokens.proofs.tokens.Tokens.step_audits.Goals as goal

pub load-requires : goal.load-requires
load-requires g c = (c.requires.own ∙ sym c.args.self.now.is, c.args.self.now.some, may_audit _ _ _ _ c.requires.keeps c.requires.parts)
