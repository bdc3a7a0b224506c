use Rattle.std.proofs.Common.{rules}
use Rattle.xa_disk.proofs.bytes.read_bytes.Goals as goal

pub returns-clause-value : goal.returns-clause-value
returns-clause-value c = search rules
