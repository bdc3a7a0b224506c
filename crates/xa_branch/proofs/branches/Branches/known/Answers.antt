use Rattle.std.proofs.Common.{◌≡◌, Some, None, refl, sym, rules}
use Rattle.xa_branch.specs.declared.lasting.Lasting.TheVariants as lasts
use Rattle.xa_branch.specs.Branches.{lasting_at}
use Rattle.xa_branch.proofs.Looks.{known_is}
use Rattle.xa_branch.proofs.branches.Branches.known.Goals as goal

pub returns-in-Some : goal.returns-in-Some
returns-in-Some c = λ s st. sym (known_is c.args.self.now s c.args.xid.now (Some c.in-Some.working) (lasting_at c.args.self.now c.args.xid.now) st (sym c.in-Some.ensures) refl)

pub returns-in-Some-Prepared : goal.returns-in-Some-Prepared
returns-in-Some-Prepared c = λ s st.
    let there : lasting_at c.args.self.now c.args.xid.now ≡ Some (lasts.Prepared c.in-Some-Prepared.field-0-0) = search rules in
    sym (known_is c.args.self.now s c.args.xid.now None (Some (lasts.Prepared c.in-Some-Prepared.field-0-0)) st (sym c.in-None.ensures) there)

pub returns-in-Some-Completed : goal.returns-in-Some-Completed
returns-in-Some-Completed c = λ s st.
    let there : lasting_at c.args.self.now c.args.xid.now ≡ Some (lasts.Completed c.in-Some-Completed.direction) = search rules in
    sym (known_is c.args.self.now s c.args.xid.now None (Some (lasts.Completed c.in-Some-Completed.direction)) st (sym c.in-None.ensures) there)

pub returns-in-None-lasting_of : goal.returns-in-None-lasting_of
returns-in-None-lasting_of c = λ s st. sym (known_is c.args.self.now s c.args.xid.now None None st (sym c.in-None.ensures) (sym c.in-None-lasting_of.ensures))
