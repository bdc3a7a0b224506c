use Rattle.std.proofs.Common.{refl, subst, w32, ℤ}
use Rattle.std.proofs.lemmas.Int.{to_z-of_z}
use Rattle.xa_branch.specs.Branches.{BranchesStandFor}
use Rattle.xa_branch.specs.Calls.{marked_with}
use Rattle.xa_assoc.proofs.Follows.{unmoved}
use Rattle.xa_manager.proofs.Histories.{marked_records}
use Rattle.xa_manager.proofs.tables.Tables.mark_branch.Goals as goal

pub returns-clause-marks : goal.returns-clause-marks
returns-clause-marks c = λ s st recoverable. record {
  name = st.name;
  log_bytes = st.log_bytes;
  up = st.up;
  sessions = unmoved c.args.self.now.sessions s (marked_with c.args.code s c.args.xid.now) refl refl st.sessions;
  branches = subst (λ (code : ℤ). BranchesStandFor c.mark.new.self (marked_with code s c.args.xid.now)) (to_z-of_z w32 c.args.code c.ranges.code) (c.mark.ensures.marks s st.branches);
  records = marked_records c.args.code c.args.xid.now s c.args.self.now.records st.records;
  recoverable = recoverable;
}
