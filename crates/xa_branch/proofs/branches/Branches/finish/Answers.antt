use Rattle.std.proofs.Common.{◌≡◌, Some, None, refl, sym, rules}
use Rattle.xa_model.specs.Phases.{rolled_back, committed}
use Rattle.xa_branch.specs.declared.lasting.Lasting.TheVariants as lasts
use Rattle.xa_branch.specs.Branches.{working_at, lasting_at}
use Rattle.xa_branch.proofs.Finishing.{rolled_finishes, committed_finishes, finished_stands, unknown_stands, settled_stands, stayed_stands}
use Rattle.xa_branch.proofs.branches.Branches.finish.Goals as goal

pub returns-in-Some-Prepared-clause-rolled_back : goal.returns-in-Some-Prepared-clause-rolled_back
returns-in-Some-Prepared-clause-rolled_back c = λ s h st.
    let there : lasting_at c.args.self.now c.args.xid.now ≡ Some (lasts.Prepared c.in-Some-Prepared.timestamp) = search rules in
    settled_stands c.args.self.now _ _ _ s c.args.xid.now (rolled_back s c.args.xid.now).branches c.in-Some-Prepared.timestamp h st (rolled_finishes s c.args.xid.now h) there c.saturating_sub-self.ensures c.take.ensures c.take_time.ensures

pub returns-in-Some-Prepared-clause-committed : goal.returns-in-Some-Prepared-clause-committed
returns-in-Some-Prepared-clause-committed c = λ s h st.
    let there : lasting_at c.args.self.now c.args.xid.now ≡ Some (lasts.Prepared c.in-Some-Prepared.timestamp) = search rules in
    settled_stands c.args.self.now _ _ _ s c.args.xid.now (committed s c.args.xid.now).branches c.in-Some-Prepared.timestamp h st (committed_finishes s c.args.xid.now h) there c.saturating_sub-self.ensures c.take.ensures c.take_time.ensures

pub returns-in-Some-Completed-clause-rolled_back : goal.returns-in-Some-Completed-clause-rolled_back
returns-in-Some-Completed-clause-rolled_back c = λ s h st.
    let there : lasting_at c.args.self.now c.args.xid.now ≡ Some (lasts.Completed c.in-Some-Completed.field-0-0) = search rules in
    stayed_stands c.args.self.now s c.args.xid.now (rolled_back s c.args.xid.now).branches (lasts.Completed c.in-Some-Completed.field-0-0) st (rolled_finishes s c.args.xid.now h) refl there

pub returns-in-Some-Completed-clause-committed : goal.returns-in-Some-Completed-clause-committed
returns-in-Some-Completed-clause-committed c = λ s h st.
    let there : lasting_at c.args.self.now c.args.xid.now ≡ Some (lasts.Completed c.in-Some-Completed.field-0-0) = search rules in
    stayed_stands c.args.self.now s c.args.xid.now (committed s c.args.xid.now).branches (lasts.Completed c.in-Some-Completed.field-0-0) st (committed_finishes s c.args.xid.now h) refl there

pub returns-in-Some-clause-rolled_back : goal.returns-in-Some-clause-rolled_back
returns-in-Some-clause-rolled_back c = λ s h st.
    finished_stands c.args.self.now _ _ _ _ s c.args.xid.now (rolled_back s c.args.xid.now).branches c.in-Some.working h st (rolled_finishes s c.args.xid.now h) (sym c.in-Some.ensures)
    c.take-in-Some.ensures c.take-in-Some-2.ensures c.take_time-in-Some.ensures c.take_due.ensures

pub returns-in_default-clause-rolled_back : goal.returns-in_default-clause-rolled_back
returns-in_default-clause-rolled_back c = λ s h st.
    let none : working_at c.args.self.now c.args.xid.now ≡ None = search rules in
    unknown_stands c.args.self.now s c.args.xid.now (rolled_back s c.args.xid.now).branches st (rolled_finishes s c.args.xid.now h) none (sym c.in-None.ensures)

pub returns-in-Some-clause-committed : goal.returns-in-Some-clause-committed
returns-in-Some-clause-committed c = λ s h st.
    finished_stands c.args.self.now _ _ _ _ s c.args.xid.now (committed s c.args.xid.now).branches c.in-Some.working h st (committed_finishes s c.args.xid.now h) (sym c.in-Some.ensures)
    c.take-in-Some.ensures c.take-in-Some-2.ensures c.take_time-in-Some.ensures c.take_due.ensures

pub returns-in_default-clause-committed : goal.returns-in_default-clause-committed
returns-in_default-clause-committed c = λ s h st.
    let none : working_at c.args.self.now c.args.xid.now ≡ None = search rules in
    unknown_stands c.args.self.now s c.args.xid.now (committed s c.args.xid.now).branches st (committed_finishes s c.args.xid.now h) none (sym c.in-None.ensures)
