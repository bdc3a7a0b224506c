use Rattle.std.proofs.Common.{◌∙◌, arith, rules}
use Rattle.xa_disk.proofs.Keeping.{front_at}
use Rattle.xa_disk.proofs.call.write_front.Goals as goal

pub returns-clause-front : goal.returns-clause-front
returns-clause-front c =
    c.in_ok-put_bytes.ensures.ok
    ∙ front_at c.args.k c.args.bytes.now.items c.args.at c.args.from.now c.min-count.result c.if-k-eq0.false
    (first_of (omega (arith, c.min-count.ensures), search rules))
