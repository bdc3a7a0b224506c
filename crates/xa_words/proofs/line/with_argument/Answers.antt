use Rattle.xa_words.proofs.Building.{gives_rule}
use Rattle.xa_words.proofs.line.with_argument.Goals as goal

pub returns-then-is_given : goal.returns-then-is_given
returns-then-is_given c app rule builds has = rw c.if-is_given.true (gives_rule c.args.command c.args.argument c.arg.result app rule builds has c.arg.ensures)
