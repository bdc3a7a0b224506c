use Rattle.std.proofs.Common.{rules}
use Rattle.xa_frame.proofs.encode.encode_reply.Goals as goal

pub returns : goal.returns
returns c = search rules
