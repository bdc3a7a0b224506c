use Rattle.std.proofs.Common.{rules}
use Rattle.xa_xid.specs.Reading.{xid_at}
use Rattle.xa_xid.proofs.bytes.front.Goals as goal

pub returns : goal.returns
unfolding xid_at
returns c = search rules
