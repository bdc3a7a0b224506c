use Rattle.std.proofs.Common.{◌≤◌, ◌+◌, ◌^◌, length, refl, ap, arith}
use Rattle.xa_log.specs.Reading.{bodies_of}
use Rattle.xa_scan.proofs.Printing.{past_limit}
use Rattle.xa_scan.proofs.scan.end_of.Goals as goal

pub returns-in_default-next_offset-clause-fault : goal.returns-in_default-next_offset-clause-fault
returns-in_default-next_offset-clause-fault c =
    let past : 2 ^ 64 ≤ c.loop-body.offset + (36 + length c.in-Some.body.now.items) =
    omega (arith, c.next_offset.ensures.none c.in_default-next_offset.is, ap length c.as_slice.ensures.value) in (
      refl,
      past_limit (bodies_of c.args.bodies.now) (bodies_of c.loop-body.rest.now) (bodies_of c.in-Some.others.now) c.in-Some.body.now.items c.loop-body.offset
          c.loop-body.invariant (ap bodies_of c.in-Some.ensures.cases.0) past,
    )
