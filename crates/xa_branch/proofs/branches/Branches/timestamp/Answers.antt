use Rattle.std.proofs.Common.{◌≡◌, Some, None, sym, rules}
use Rattle.xa_branch.specs.declared.lasting.Lasting.TheVariants as lasts
use Rattle.xa_branch.specs.Branches.{lasting_at}
use Rattle.xa_branch.proofs.Knowing.{timestamp_at, lasting_timestamp}
use Rattle.xa_branch.proofs.branches.Branches.timestamp.Goals as goal

pub returns-in-Some : goal.returns-in-Some
returns-in-Some c = λ s st. timestamp_at c.args.self.now s c.args.xid.now c.in-Some.working st (sym c.in-Some.ensures)

pub returns-in-Some-Prepared : goal.returns-in-Some-Prepared
returns-in-Some-Prepared c = λ s st.
    let there : lasting_at c.args.self.now c.args.xid.now ≡ Some (lasts.Prepared c.in-Some-Prepared.timestamp) = search rules in
    sym (lasting_timestamp c.args.self.now s c.args.xid.now (Some (lasts.Prepared c.in-Some-Prepared.timestamp)) st (sym c.in-None.ensures) there)

pub returns-in-Some-Completed : goal.returns-in-Some-Completed
returns-in-Some-Completed c = λ s st.
    let there : lasting_at c.args.self.now c.args.xid.now ≡ Some (lasts.Completed c.in-Some-Completed.field-0-0) = search rules in
    sym (lasting_timestamp c.args.self.now s c.args.xid.now (Some (lasts.Completed c.in-Some-Completed.field-0-0)) st (sym c.in-None.ensures) there)

pub returns-in-None-lasting_of : goal.returns-in-None-lasting_of
returns-in-None-lasting_of c = λ s st. sym (lasting_timestamp c.args.self.now s c.args.xid.now None st (sym c.in-None.ensures) (sym c.in-None-lasting_of.ensures))
