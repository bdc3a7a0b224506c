use Rattle.std.proofs.Common.{◌≡◌, None, sym, ◌∙◌, rules}
use Rattle.xa_branch.specs.Branches.{working_at}
use Rattle.xa_branch.proofs.Knowing.{unready_unknown, unready_lasting, unready_associated, ready_by_mark}
use Rattle.xa_branch.proofs.branches.Branches.ready_to_prepare.Goals as goal

pub returns-in-None : goal.returns-in-None
returns-in-None c = λ s st.
    let none : working_at c.args.self.now c.args.xid.now ≡ None = search rules in unready_unknown c.args.self.now s c.args.xid.now st none (sym c.in-None.ensures)

pub returns-in-Some-lasting_of : goal.returns-in-Some-lasting_of
returns-in-Some-lasting_of c = λ s st.
    let none : working_at c.args.self.now c.args.xid.now ≡ None = search rules in unready_lasting c.args.self.now s c.args.xid.now c.in-Some-lasting_of.field-0 st none (sym c.in-Some-lasting_of.ensures)

pub returns-then-is_associated : goal.returns-then-is_associated
returns-then-is_associated c = λ s st.
    unready_associated c.args.self.now s c.args.xid.now c.in-Some.working st (sym c.in-Some.ensures) (sym c.is_associated.ensures ∙ c.if-is_associated.true)

pub returns : goal.returns
returns c = λ s st.
    rw (ready_by_mark c.args.self.now s c.args.xid.now c.in-Some.working st (sym c.in-Some.ensures) (sym c.is_associated.ensures ∙ c.if-is_associated.false)) c.unless_marked.ensures
