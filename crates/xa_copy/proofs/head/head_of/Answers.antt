use Rattle.std.proofs.Common.{◌∙◌, inr, sym, arith}
use Rattle.xa_copy.proofs.Choosing.{none_by_length, none_by_size, size_by}
use Rattle.xa_copy.proofs.head.head_of.Goals as goal

pub returns-then-have-lt-PREAMBLE_BYTES-clause-head : goal.returns-then-have-lt-PREAMBLE_BYTES-clause-head
returns-then-have-lt-PREAMBLE_BYTES-clause-head g c h =
    let read = c.in_ok-have.ensures.read h in
    inr (none_by_length (g.S.Source.state c.read_at.new.self).file (omega (arith, read.count_is, c.read_at.auto.into)))

pub returns-then-size-eq0-clause-head : goal.returns-then-size-eq0-clause-head
returns-then-size-eq0-clause-head g c h =
    let read = c.in_ok-have.ensures.read h in
    let file = (g.S.Source.state c.read_at.new.self).file in
    inr (none_by_size file
    (sym (size_by file c.read_at.new.into c.in_ok-have.have (omega (arith, c.in_ok-have.ensures.count)) read.bytes)
    ∙ sym c.size_of-size.ensures.value ∙ c.if-size-eq0.true))
