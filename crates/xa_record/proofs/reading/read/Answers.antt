use Rattle.std.proofs.Common.{arith}
use Rattle.xa_record.proofs.Bodies.{found, only, memory}
use Rattle.xa_record.proofs.reading.read.Goals as goal

pub returns-clause-found : goal.returns-clause-found
returns-clause-found c = found c.args.bytes.now c.body.result (λ i. omega (arith, c.type_inv.bytes i)) c.body.ensures

pub returns-clause-only : goal.returns-clause-only
returns-clause-only c = only c.args.bytes.now c.body.result c.body.ensures

pub returns-clause-memory : goal.returns-clause-memory
returns-clause-memory c = memory c.args.bytes.now c.body.result (λ i. omega (arith, c.type_inv.bytes i)) c.body.ensures
