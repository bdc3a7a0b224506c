use Rattle.std.proofs.Common.{◌∙◌, codes}
use Rattle.std.specs.Str.Parse.{ExplainsUnsignedError, HasUnsignedDigitsIfOk, ParsesUnsigned}
use Rattle.clap.specs.Matches.{found_of}
use Rattle.xa_words.specs.Asks.{most_16}
use Rattle.xa_words.proofs.Reading.{has_16, number_read}
use Rattle.xa_words.proofs.words.port_of.Goals as goal

pub returns : goal.returns
returns c =
    c.unwrap_or.ensures
    ∙ number_read (λ text r. ParsesUnsigned 16 10 text r × ExplainsUnsignedError 10 text r × HasUnsignedDigitsIfOk text r) 16 most_16
    0 (found_of c.args.matches.now) (codes "port") c.get_one.result has_16 (λ text r h. h.0)
    c.get_one.ensures.none c.get_one.ensures.value
