use Rattle.std.proofs.Common.{[], ◌∷◌, ◌++◌, Some, sym, ap, ◌∙◌}
use Rattle.std.specs.Prelude.{option_map}
use Rattle.xa_record.specs.Reading.{writes_at}
use Rattle.xa_record.proofs.Loop.{read_none, read_one, read_all}
use Rattle.xa_record.proofs.reading.writes_of.Goals as goal

pub returns-in_default : goal.returns-in_default
returns-in_default c = read_none c.args.count c.loop.counter c.loop.previous.now c.loop.rest.now c.loop.writes.items (writes_at c.args.count [] c.args.bytes.now) c.loop-test.true c.in_default.ensures c.loop.invariant

pub loop-preserved : goal.loop-preserved
loop-preserved c =
    let pushed = c.in_ok-push.ensures.items ∙ ap (λ w. c.loop.writes.items ++ w ∷ []) c.in_ok-made.ensures in
    read_one c.args.count c.loop.counter c.loop.previous.now c.loop.rest.now c.loop.writes.items c.push.new.self.items (record { key = c.in-Some.key.now; value = option_map (λ v. v.now) c.in-Some.value }) c.in-Some.after.now (writes_at c.args.count [] c.args.bytes.now) c.loop-test.true c.in-Some.ensures pushed c.loop.invariant

pub returns : goal.returns
returns c = read_all c.args.count c.loop.counter c.loop.previous.now c.loop.rest.now c.loop.writes.items (writes_at c.args.count [] c.args.bytes.now) c.loop-test.false c.requires c.loop.invariant ∙ ap Some (sym c.new.ensures)
