use Rattle.std.proofs.Common.{◌∙◌, ap}
use Rattle.clap.specs.Matches.{found_of}
use Rattle.xa_words.specs.Given.{is_words}
use Rattle.xa_words.proofs.Reading.{source_read}
use Rattle.xa_words.proofs.given.is_given.Goals as goal

pub returns : goal.returns
returns c =
    c.is_words.ensures ∙ ap is_words (c.value_source.ensures ∙ source_read (found_of c.args.matches.now) c.args.id.now)
