use Rattle.std.proofs.Common.{[], ◌∙◌}
use Rattle.std.specs.Prelude.{option_map}
use Rattle.xa_record.specs.Reading.{writes_at}
use Rattle.xa_record.proofs.Loop.{tested_none, tested_one, tested_all}
use Rattle.xa_record.proofs.reading.are_writes.Goals as goal

pub returns-in_default : goal.returns-in_default
returns-in_default c = tested_none c.args.count c.loop.counter c.loop.previous.now c.loop.rest.now (writes_at c.args.count [] c.args.bytes.now) c.loop-test.true c.in_default.ensures c.loop.invariant

pub loop-preserved : goal.loop-preserved
loop-preserved c =
    tested_one c.args.count c.loop.counter c.loop.previous.now c.loop.rest.now (record { key = c.in-Some.key.now; value = option_map (λ v. v.now) c.in-Some.field-0-1 }) c.in-Some.after.now (writes_at c.args.count [] c.args.bytes.now) c.loop-test.true c.in-Some.ensures c.loop.invariant

pub returns : goal.returns
returns c = c.is_empty.ensures ∙ tested_all c.args.count c.loop.counter c.loop.previous.now c.loop.rest.now (writes_at c.args.count [] c.args.bytes.now) c.loop-test.false c.loop.invariant
