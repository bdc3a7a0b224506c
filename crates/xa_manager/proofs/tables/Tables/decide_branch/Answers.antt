use Rattle.std.proofs.Common.{subst}
use Rattle.xa_limits.specs.declared.TheConstants.{MOST_VALUE}
use Rattle.mv_chain.specs.declared.fate.Fate.{Fate}
use Rattle.xa_manager.specs.View.{view_of}
use Rattle.xa_manager.proofs.Finishing.{Settles, decided_stands}
use Rattle.xa_manager.proofs.tables.Tables.decide_branch.Goals as goal

pub returns-clause-becomes : goal.returns-clause-becomes
returns-clause-becomes c = λ s end st doubt recoverable.
    let t = c.timestamp-timestamp.result in
    decided_stands (view_of c.args.self.now) c.decide.new.self c.settle.new.self s c.args.xid.now c.args.direction end t st doubt
    (c.timestamp-timestamp.ensures s st.branches) (c.decide.ensures.decided s st.recoverable.sound st.branches doubt)
    (subst (λ (fate : Fate). Settles t fate c.args.self.now.records c.settle.new.self) c.fate_of.ensures c.settle.ensures.stands) recoverable

pub invariant_of-self : goal.invariant_of-self
invariant_of-self c = record {
  short = c.settle.ensures.within MOST_VALUE c.args.self.now.short;
  keys = c.settle.ensures.keys c.args.self.now.keys;
}
