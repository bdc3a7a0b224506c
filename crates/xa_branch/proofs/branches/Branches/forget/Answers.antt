use Rattle.std.proofs.Common.{◌≡◌, Some, sym, ap, rules}
use Rattle.xa_branch.specs.declared.lasting.Lasting.TheVariants as lasts
use Rattle.xa_branch.specs.Branches.{lasting_at}
use Rattle.xa_branch.proofs.Deciding.{is_completed, forgotten_stands, unforgotten_stands}
use Rattle.xa_branch.proofs.branches.Branches.forget.Goals as goal

pub returns-in-Some-Completed : goal.returns-in-Some-Completed
returns-in-Some-Completed c = λ s h st.
    let m = c.args.self.now in
    let there : lasting_at m c.args.xid.now ≡ Some (lasts.Completed c.in-Some-Completed.field-0-0) = search rules in
    forgotten_stands m _ _ s c.args.xid.now c.in-Some-Completed.field-0-0 h st there c.take.ensures c.saturating_sub-self.ensures

pub returns-in-Some-Prepared : goal.returns-in-Some-Prepared
returns-in-Some-Prepared c = λ s h st.
    let m = c.args.self.now in
    let there : lasting_at m c.args.xid.now ≡ Some (lasts.Prepared c.in-Some-Prepared.field-0-0) = search rules in
    unforgotten_stands m s c.args.xid.now h st (ap is_completed there)

pub returns-in-None : goal.returns-in-None
returns-in-None c = λ s h st. unforgotten_stands c.args.self.now s c.args.xid.now h st (ap is_completed (sym c.in-None.ensures))
