use Rattle.std.proofs.Common.{ap, arith, length}
use Rattle.xa_frame.proofs.Replies.{reply_short, one_reply}
use Rattle.xa_frame.proofs.laws.one_reply.Goals as goal

pub returns-clause-spelling : goal.returns-clause-spelling
returns-clause-spelling c = one_reply

pub returns-clause-short : goal.returns-clause-short
returns-clause-short c bytes r h = omega (arith, reply_short r h.limits h.holds, ap length h.bytes_are)
