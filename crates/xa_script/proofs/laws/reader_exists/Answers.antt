use Rattle.xa_script.proofs.Readers.{reader, reads_texts}
use Rattle.xa_script.proofs.laws.reader_exists.Goals as goal

pub returns : goal.returns
returns c = (reader, reads_texts)
