use Rattle.std.proofs.Common.{[], sym}
use Rattle.xa_branch.proofs.Preparing.{given_back, nothing_back}
use Rattle.xa_branch.proofs.branches.Branches.give_back.Goals as goal

pub returns-in-Some-clause-alone : goal.returns-in-Some-clause-alone
returns-in-Some-clause-alone c = λ s st. (given_back c.args.self.now _ [] [] s c.args.xid.now c.in-Some.field-0 tt st (sym c.in-Some.ensures) c.take.ensures).stand

pub returns-in-Some-clause-beside : goal.returns-in-Some-clause-beside
returns-in-Some-clause-beside c = λ before after s apart st.
    given_back c.args.self.now _ before after s c.args.xid.now c.in-Some.field-0 apart st (sym c.in-Some.ensures) c.take.ensures

pub returns-in-None-clause-alone : goal.returns-in-None-clause-alone
returns-in-None-clause-alone c = λ s st. st.stand

pub returns-in-None-clause-beside : goal.returns-in-None-clause-beside
returns-in-None-clause-beside c = λ before after s apart st. nothing_back c.args.self.now before after s c.args.xid.now st
