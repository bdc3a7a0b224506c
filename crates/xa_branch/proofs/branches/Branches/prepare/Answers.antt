use Rattle.std.proofs.Common.{[], sym}
use Rattle.xa_branch.proofs.Preparing.{prepared_stands, unprepared_stands}
use Rattle.xa_branch.proofs.branches.Branches.prepare.Goals as goal

pub returns-in-Some-clause-alone : goal.returns-in-Some-clause-alone
returns-in-Some-clause-alone c = λ s h st.
    (prepared_stands c.args.self.now _ _ _ _ [] [] s c.args.xid.now c.in-Some.working h st (sym c.in-Some.ensures) c.take.ensures c.set.ensures c.take_due.ensures
    c.saturating_add-self.ensures).stand

pub returns-in-Some-clause-beside : goal.returns-in-Some-clause-beside
returns-in-Some-clause-beside c = λ before after s apart h st.
    prepared_stands c.args.self.now _ _ _ _ before after s c.args.xid.now c.in-Some.working h st (sym c.in-Some.ensures) c.take.ensures c.set.ensures c.take_due.ensures
    c.saturating_add-self.ensures

pub returns-in-None-clause-alone : goal.returns-in-None-clause-alone
returns-in-None-clause-alone c = λ s h st. (unprepared_stands c.args.self.now [] [] s c.args.xid.now st (sym c.in-None.ensures)).stand

pub returns-in-None-clause-beside : goal.returns-in-None-clause-beside
returns-in-None-clause-beside c = λ before after s apart h st. unprepared_stands c.args.self.now before after s c.args.xid.now st (sym c.in-None.ensures)
