use Rattle.xa_tokens.proofs.Keeps.{begins}
use Rattle.xa_tokens.proofs.opened.Opened.new.Goals as goal

pub of_words-requires : goal.of_words-requires
of_words-requires c = begins
