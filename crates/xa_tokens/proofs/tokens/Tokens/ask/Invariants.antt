use Rattle.xa_tokens.specs.Believed.Receipts.{ask_of}
use Rattle.xa_tokens.specs.Believed.View.{no_receipt}
use Rattle.xa_tokens.proofs.tokens.Tokens.ask.Given as goal

-- the ask; a step that asks is about no reply
abbrev pub ghosts-ask_as : goal.ghosts-ask_as
ghosts-ask_as g a = record { receipt = record no_receipt { ask = ask_of a.event.now a.after } }
