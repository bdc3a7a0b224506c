use Rattle.std.proofs.Common.{arith, sym}
use Rattle.xa_control.proofs.Counted.{one_more}
use Rattle.xa_control.proofs.answer_reader.numbers_of.Goals as goal

pub loop-preserved : goal.loop-preserved
loop-preserved c =
    let i = c.loop.invariant in
    let m = one_more c.args.bytes.now c.loop.numbers.items c.loop.rest.now c.in-Some.number c.in-Some.after.now c.push.new.self.items
    (λ k. omega (arith, c.type_inv.bytes k)) i.parts i.holds (sym c.in-Some.ensures) c.in_ok-push.ensures.items in
    record { parts = m.0; count = omega (arith, m.2, i.count); left = omega (arith, m.3, i.left, c.loop-test.true); holds = m.1 }
