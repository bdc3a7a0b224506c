use Rattle.clap.specs.Matches.{found_of}
use Rattle.xa_words.proofs.Reading.{set_read}
use Rattle.xa_words.proofs.words.flag_of.Goals as goal

pub returns : goal.returns
returns c =
    set_read (found_of c.args.matches.now) c.args.id.now c.get_flag.result
    c.get_flag.ensures.none c.get_flag.ensures.value c.get_flag.ensures.other
