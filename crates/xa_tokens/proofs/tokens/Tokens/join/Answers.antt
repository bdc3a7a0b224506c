use Rattle.std.proofs.Common.{sym, ◌∙◌}
use Rattle.xa_tokens.proofs.Allowed.{merges}
use Rattle.xa_tokens.proofs.tokens.Tokens.join.Goals as goal

pub join_seat-requires : goal.join_seat-requires
join_seat-requires g c = (c.requires.own ∙ sym c.args.self.now.is, c.requires.other.0 ∙ sym c.args.self.now.is, c.requires.other.1, c.args.self.now.some, merges _ _ _ _)
