use Rattle.std.proofs.Common.{ℕ, map, ap, refl, sym}
use Rattle.std.specs.Map.Iter.{deref_pair}
use Rattle.std.proofs.lemmas.Map.Iter.{rest_more}
use Rattle.xa_recovery.specs.declared.durable.InDoubt.{InDoubt}
use Rattle.xa_recovery.specs.Durable.{as_prepared}
use Rattle.xa_manager.proofs.NewTables.{prepared_more, prepared_all}
use Rattle.xa_manager.proofs.rebuilding.put_prepared.Goals as goal

pub loop-timestamp-preserved : goal.loop-timestamp-preserved
loop-timestamp-preserved c =
    let e : ℕ × InDoubt = (c.in-Some.timestamp.now, c.in-Some.branch.now) in
    let more = rest_more deref_pair c.loop-timestamp.timestamp-iterator c.next.new.self c.next.result (c.in-Some.timestamp, c.in-Some.branch) c.in-Some.is c.next.ensures.steps in
    λ boot moment apart start.
    prepared_more boot moment (map as_prepared c.args.prepared.now.entries) (map as_prepared c.next.new.self) (map as_prepared c.loop-timestamp.timestamp-iterator) (as_prepared e) c.loop-timestamp.branches c.restore_prepared.new.self (ap (λ es. map as_prepared es) more) apart
    (λ ps free none stands. c.in_ok-restore_prepared.ensures boot moment ps _ (as_prepared e) (sym c.copied.ensures) refl (rw c.copied.ensures free) refl stands) (c.loop-timestamp.invariant boot moment apart start)

pub returns : goal.returns
returns c = λ boot moment apart start.
    prepared_all boot moment (map as_prepared c.args.prepared.now.entries) (map as_prepared c.loop-timestamp.timestamp-iterator) c.loop-timestamp.branches (ap (λ es. map as_prepared es) c.in-None.ensures.steps.0) (c.loop-timestamp.invariant boot moment apart start)
