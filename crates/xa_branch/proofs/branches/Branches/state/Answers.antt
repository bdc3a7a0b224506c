use Rattle.std.proofs.Common.{◌≡◌, None, Some, sym, ◌∙◌, rules}
use Rattle.xa_codes.specs.declared.direction.Direction.TheVariants as direction
use Rattle.xa_branch.specs.declared.lasting.Lasting.TheVariants as lasts
use Rattle.xa_branch.specs.Branches.{working_at, lasting_at}
use Rattle.xa_branch.proofs.Knowing.{state_lasting, state_is}
use Rattle.xa_branch.proofs.branches.Branches.state.Goals as goal

pub returns-in-Some : goal.returns-in-Some
returns-in-Some c = λ s st. sym (state_is c.args.self.now s c.args.xid.now c.in-Some.working st (sym c.in-Some.ensures) ∙ c.state.ensures)

pub returns-in-Prepared : goal.returns-in-Prepared
returns-in-Prepared c = λ s st.
    let none : working_at c.args.self.now c.args.xid.now ≡ None = search rules in
    let there : lasting_at c.args.self.now c.args.xid.now ≡ Some (lasts.Prepared c.in-Prepared.field-0) = search rules in
    sym (state_lasting c.args.self.now s c.args.xid.now (Some (lasts.Prepared c.in-Prepared.field-0)) st none there)

pub returns-in_err-lasting_of : goal.returns-in_err-lasting_of
returns-in_err-lasting_of c = λ s st.
    let none : working_at c.args.self.now c.args.xid.now ≡ None = search rules in
    let nor : lasting_at c.args.self.now c.args.xid.now ≡ None = search rules in
    let said : c.from_residual.result ≡ None = search rules in
    said ∙ sym (state_lasting c.args.self.now s c.args.xid.now None st none nor)

pub returns-in-Completed-Commit : goal.returns-in-Completed-Commit
returns-in-Completed-Commit c = λ s st.
    let none : working_at c.args.self.now c.args.xid.now ≡ None = search rules in
    let there : lasting_at c.args.self.now c.args.xid.now ≡ Some (lasts.Completed direction.Commit) = search rules in
    sym (state_lasting c.args.self.now s c.args.xid.now (Some (lasts.Completed direction.Commit)) st none there)

pub returns-in-Completed-Rollback : goal.returns-in-Completed-Rollback
returns-in-Completed-Rollback c = λ s st.
    let none : working_at c.args.self.now c.args.xid.now ≡ None = search rules in
    let there : lasting_at c.args.self.now c.args.xid.now ≡ Some (lasts.Completed direction.Rollback) = search rules in
    sym (state_lasting c.args.self.now s c.args.xid.now (Some (lasts.Completed direction.Rollback)) st none there)
