use Rattle.std.proofs.Common.{◌≡◌, cond, None, refl, ap, sym, ◌∙◌, rules}
use Rattle.xa_branch.specs.declared.kind.Kind.{Kind}
use Rattle.xa_branch.specs.declared.kind.Kind.TheVariants as kind
use Rattle.xa_branch.specs.declared.working.Working.{Working}
use Rattle.xa_branch.specs.Branches.{working_at}
use Rattle.xa_branch.specs.Changes.{with_one, less_one}
use Rattle.xa_branch.proofs.Setting.{set_by, unset_by_any}
use Rattle.xa_branch.proofs.Shifting.{suspended_stands}
use Rattle.xa_branch.proofs.branches.Branches.suspend.Goals as goal
use Rattle.xa_branch.proofs.branches.Branches.suspend.Goals.{then-migrates, else-migrates}

pub returns-after-migrates-clause-suspends : goal.returns-after-migrates-clause-suspends
returns-after-migrates-clause-suspends c = λ s n h st any.
    let m = c.args.self.now in
    let rests : c.if-migrates.rests ≡ cond c.args.migrates kind.Loose kind.Suspended =
    elim c.if-migrates.branch [ then-migrates w ↦ rw (w.rests-is, w.if-migrates.true) refl | else-migrates w ↦ rw (w.rests-is, w.if-migrates.false) refl ] in
    let new : c.with_one.result ≡ with_one (cond c.args.migrates kind.Loose kind.Suspended) (less_one kind.Active c.in-Some.working) =
    c.with_one.ensures ∙ ap (with_one c.if-migrates.rests) c.less_one.ensures ∙ ap (λ (k : Kind). with_one k (less_one kind.Active c.in-Some.working)) rests in
    suspended_stands m _ s n c.args.migrates c.args.xid.now h st any
    (set_by (λ (w : Working). with_one (cond c.args.migrates kind.Loose kind.Suspended) (less_one kind.Active w)) m.working _ c.args.xid.now c.in-Some.working c.with_one.result (sym c.in-Some.ensures) new c.set.ensures)

pub returns-in_default-clause-suspends : goal.returns-in_default-clause-suspends
returns-in_default-clause-suspends c = λ s n h st any.
    let m = c.args.self.now in
    let none : working_at m c.args.xid.now ≡ None = search rules in
    suspended_stands m m.working s n c.args.migrates c.args.xid.now h st any
    (unset_by_any (λ (w : Working). with_one (cond c.args.migrates kind.Loose kind.Suspended) (less_one kind.Active w)) m.working c.args.xid.now none)
