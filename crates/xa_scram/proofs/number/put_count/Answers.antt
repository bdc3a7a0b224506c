use Rattle.std.proofs.Common.{ap, length, ◌∙◌, arith, length-append}
use Rattle.std.specs.Prelude.{decimal}
use Rattle.xa_scram.proofs.Decimals.{length-decimal_count}
use Rattle.xa_scram.proofs.number.put_count.Goals as goal

pub put_decimal-requires : goal.put_decimal-requires
put_decimal-requires c = let few = length-decimal_count c.args.iterations c.requires.0.1 in omega arith

pub returns-clause-len : goal.returns-clause-len
returns-clause-len c =
    let few = length-decimal_count c.args.iterations c.requires.0.1 in
    let len = ap length c.put_decimal.ensures ∙ length-append c.args.out.now.items (decimal c.args.iterations) in
    omega arith
