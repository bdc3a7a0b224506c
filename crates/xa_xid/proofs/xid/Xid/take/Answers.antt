use Rattle.std.proofs.Common.{ap, ◌∙◌, arith}
use Rattle.xa_xid.specs.Reading.{xid_at}
use Rattle.xa_xid.proofs.Front.{found, xid_again}
use Rattle.xa_xid.proofs.xid.Xid.take.Goals as goal

pub returns-clause-found : goal.returns-clause-found
returns-clause-found c = found c.args.bytes.now c.front.result (λ i. omega (arith, c.type_inv.bytes i)) c.front.ensures

pub returns-clause-only : goal.returns-clause-only
returns-clause-only c x rest h e = c.front.ensures ∙ ap xid_at e ∙ xid_again x rest h
