use Rattle.std.proofs.Common.{arith}
use Rattle.xa_frame.specs.Reading.{reply_at}
use Rattle.xa_frame.specs.Faults.{fault_of_reply}
use Rattle.xa_frame.specs.Spelling.{SpellsReply}
use Rattle.xa_frame.proofs.Decoded.{found, only, fault, memory}
use Rattle.xa_frame.proofs.Replies.{replies, one_reply}
use Rattle.xa_frame.proofs.reply_decoder.decode_reply.Goals as goal

pub returns-clause-found : goal.returns-clause-found
returns-clause-found c =
    found c.whole.result (reply_at c.args.content.now) (SpellsReply c.args.content.now) c.whole.ensures
    (λ r e. replies.takes c.args.content.now r (λ i. omega (arith, c.type_inv.content i)) e)

pub returns-clause-only : goal.returns-clause-only
returns-clause-only c r h = only c.whole.result (reply_at c.args.content.now) r c.whole.ensures (replies.again c.args.content.now r h)

pub returns-clause-fault : goal.returns-clause-fault
returns-clause-fault c = fault c.whole.result (reply_at c.args.content.now) (fault_of_reply c.args.content.now) c.whole.ensures (replies.fault c.args.content.now)

pub returns-clause-memory : goal.returns-clause-memory
returns-clause-memory c = memory c.whole.result (reply_at c.args.content.now) (fault_of_reply c.args.content.now) c.whole.ensures (replies.fault c.args.content.now) (one_reply.memory c.args.content.now)
