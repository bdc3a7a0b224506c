use Rattle.xa_scan.proofs.Offsets.{offsets_in_the_file}
use Rattle.xa_scan.proofs.laws.offsets_in_the_file.Goals as goal

pub returns : goal.returns
returns c = offsets_in_the_file
