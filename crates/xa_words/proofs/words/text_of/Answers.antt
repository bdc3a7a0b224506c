use Rattle.std.proofs.Common.{◌∙◌, ap}
use Rattle.std.specs.Borrow.{Bor}
use Rattle.clap.specs.Matches.{found_of}
use Rattle.clap.specs.Walk.{Text}
use Rattle.xa_words.proofs.Reading.{text_read}
use Rattle.xa_words.proofs.words.text_of.Goals as goal

pub returns : goal.returns
returns c =
    ap (λ (s : Bor Text). s.now) c.unwrap_or.ensures
    ∙ text_read (found_of c.args.matches.now) c.args.id.now c.get_str.result c.args.absent c.get_str.ensures
