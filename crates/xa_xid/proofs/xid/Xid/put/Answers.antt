use Rattle.std.proofs.Common.{rules}
use Rattle.xa_xid.proofs.xid.Xid.put.Goals as goal

pub returns-clause-bytes : goal.returns-clause-bytes
returns-clause-bytes c = search rules
