use Rattle.std.proofs.Common.{sym, ◌∙◌}
use Rattle.xa_tokens.proofs.Allowed.{may_answer}
use Rattle.xa_tokens.proofs.tokens.Tokens.step_answers.Goals as goal

pub load-requires : goal.load-requires
load-requires g c = (c.requires.own ∙ sym c.args.self.now.is, c.args.self.now.some, may_answer _ _ _ _ g.P.About.receipt c.requires.keeps c.requires.ticket c.requires.next)
