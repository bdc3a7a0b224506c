use Rattle.xa_tokens.specs.Believed.Receipts.{receipt_of}
use Rattle.xa_tokens.proofs.tokens.Tokens.answer.Given as goal

abbrev pub ghosts-answer_as : goal.ghosts-answer_as
ghosts-answer_as g a = record { receipt = receipt_of a.ticket a.reply.now }
