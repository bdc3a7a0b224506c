use Rattle.std.proofs.Common.{ℕ, subst}
use Rattle.xa_limits.specs.declared.TheConstants.{MOST_VALUE}
use Rattle.mv_rules.specs.Tidy.{IsDrained}
use Rattle.xa_manager.proofs.Given.{given_stands}
use Rattle.xa_manager.proofs.tables.Tables.give_low_water.Goals as goal

pub returns-clause-stays : goal.returns-clause-stays
returns-clause-stays c = λ s st. record {
  name = st.name;
  log_bytes = st.log_bytes;
  up = st.up;
  sessions = st.sessions;
  branches = st.branches;
  records = given_stands s c.args.self.now.records c.low_water.new.self c.low_water-low.result (c.low_water-low.ensures s st.recoverable.sound st.branches) st.recoverable.sound c.low_water.ensures.stands st.records;
  recoverable = st.recoverable;
}

pub invariant_of-self : goal.invariant_of-self
invariant_of-self c = record {
  short = c.low_water.ensures.within MOST_VALUE c.args.self.now.short;
  keys = c.low_water.ensures.keys c.args.self.now.keys;
}

pub returns-clause-drained : goal.returns-clause-drained
returns-clause-drained c = λ s sound st. subst (λ (low : ℕ). IsDrained low c.low_water.new.self) (c.low_water-low.ensures s sound st) c.low_water.ensures.drained
