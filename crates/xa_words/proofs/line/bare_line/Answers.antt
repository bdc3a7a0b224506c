use Rattle.std.proofs.Common.{rules}
use Rattle.xa_words.proofs.line.bare_line.Goals as goal

pub returns : goal.returns
returns c = record { app_is = search rules; local = search rules }
