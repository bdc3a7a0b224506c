use Rattle.std.proofs.Common.{◌∙◌}
use Rattle.std.specs.Str.Parse.{ExplainsUnsignedError, HasUnsignedDigitsIfOk, ParsesUnsigned}
use Rattle.clap.specs.Matches.{found_of}
use Rattle.xa_words.specs.Asks.{most_64}
use Rattle.xa_words.proofs.Reading.{has_64, number_read}
use Rattle.xa_words.proofs.words.number_of.Goals as goal

pub returns : goal.returns
returns c =
    c.unwrap_or.ensures
    ∙ number_read (λ text r. ParsesUnsigned 64 10 text r × ExplainsUnsignedError 10 text r × HasUnsignedDigitsIfOk text r) 64 most_64
    c.args.absent (found_of c.args.matches.now) c.args.id.now c.get_one.result has_64 (λ text r h. h.0)
    c.get_one.ensures.none c.get_one.ensures.value
