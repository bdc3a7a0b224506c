use Rattle.std.proofs.Common.{◌≡◌, Some, None, sym, ◌∙◌, subst, rules}
use Rattle.xa_manager.specs.declared.plan.Plan.{Plan}
use Rattle.xa_manager.specs.declared.plan.Plan.TheVariants.{Logs}
use Rattle.xa_manager.specs.Plans.{IsPlan}
use Rattle.xa_manager.specs.Rows.{asked_row}
use Rattle.xa_manager.proofs.AskedTogether.{appends_alone}
use Rattle.xa_manager.proofs.manager.Manager.plan_of.Goals as goal

pub returns : goal.returns
returns g c =
    let m = c.args.self.now in
    let row = c.in-Some-of.row in
    let xid = c.in-Some-of.xid.now in
    let l = c.in-Logs.logging in
    let none : c.refusal.result ≡ None = search rules in
    let asked : asked_row c.args.request.now ≡ Some (row, xid) = sym c.in-Some-of.ensures in
    let p : IsPlan g.D.Disk m row xid (Logs l) = subst (λ (x : Plan). IsPlan g.D.Disk m row xid x) c.in-Logs.is c.in_ok-plan.ensures.ok in
    appends_alone g.D.Disk m c.args.session c.args.request.now row xid l c.requires asked (sym none ∙ c.refusal.ensures.value) (c.refusal.ensures.answered none) p
