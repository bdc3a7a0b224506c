use Rattle.std.proofs.Common.{ℕ, subst}
use Rattle.xa_limits.specs.declared.TheConstants.{MOST_VALUE}
use Rattle.mv_rules.specs.Tidy.{IsDrained}
use Rattle.xa_manager.proofs.Given.{given_stands}
use Rattle.xa_manager.proofs.boots.ready.Goals as goal

pub returns-clause-ready : goal.returns-clause-ready
returns-clause-ready c = record {
  branches = c.in_ok-branches.ensures;
  records = λ s h now.
      given_stands s c.in_ok-records.records c.low_water-2.new.self c.low_water.result (c.low_water.ensures s h.recoverable.sound (c.in_ok-branches.ensures s h now)) h.recoverable.sound c.low_water-2.ensures.stands
      (c.in_ok-records.ensures.stands s h);
  bodies = c.in_ok-records.ensures.bodies;
}

pub returns-clause-short : goal.returns-clause-short
returns-clause-short c = c.low_water-2.ensures.within MOST_VALUE (c.in_ok-records.ensures.short c.args.boot c.requires.limits)

pub returns-clause-keys : goal.returns-clause-keys
returns-clause-keys c = c.low_water-2.ensures.keys (c.in_ok-records.ensures.keys c.args.boot c.requires.limits c.requires.form.prepared)

pub returns-clause-drained : goal.returns-clause-drained
returns-clause-drained c = λ s sound st. subst (λ (low : ℕ). IsDrained low c.low_water-2.new.self) (c.low_water.ensures s sound st) c.low_water-2.ensures.drained
