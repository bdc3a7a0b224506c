use Rattle.xa_script.proofs.Places.{quoted_is_first, quoted_is_last}
use Rattle.xa_script.proofs.Quotes.{quoted_is_read}
use Rattle.xa_script.proofs.laws.texts_are_read.Goals as goal

pub returns : goal.returns
returns c = record { read = quoted_is_read; last = quoted_is_last; first = quoted_is_first }
