use Rattle.std.proofs.Common.{sym, ◌∙◌}
use Rattle.xa_tokens.proofs.Allowed.{splits}
use Rattle.xa_tokens.proofs.Keeps.{cuts_one}
use Rattle.xa_tokens.proofs.tokens.Tokens.cut_part.Goals as goal

pub split_seat-requires : goal.split_seat-requires
split_seat-requires g c = (c.requires.own ∙ sym c.args.self.now.is, c.args.self.now.some, splits _ _ _ _ (cuts_one _ c.requires.parts))
