use Rattle.std.proofs.Common.{◌≡◌, None, ap, sym, ◌∙◌, rules}
use Rattle.xa_branch.specs.declared.kind.Kind.TheVariants as kind
use Rattle.xa_branch.specs.declared.working.Working.{Working}
use Rattle.xa_branch.specs.Branches.{working_at}
use Rattle.xa_branch.specs.Changes.{with_one, less_one}
use Rattle.xa_branch.proofs.Setting.{set_by, unset_by_any}
use Rattle.xa_branch.proofs.Shifting.{resumed_stands}
use Rattle.xa_branch.proofs.branches.Branches.resume.Goals as goal

pub returns-in-Some-clause-resumes : goal.returns-in-Some-clause-resumes
returns-in-Some-clause-resumes c = λ s n h st is.
    let m = c.args.self.now in
    let new : c.with_one.result ≡ with_one kind.Active (less_one c.args.from c.in-Some.working) = c.with_one.ensures ∙ ap (with_one kind.Active) c.less_one.ensures in
    resumed_stands m _ s n c.args.xid.now c.args.from h st is
    (set_by (λ (w : Working). with_one kind.Active (less_one c.args.from w)) m.working _ c.args.xid.now c.in-Some.working c.with_one.result (sym c.in-Some.ensures) new c.set.ensures)

pub returns-in_default-clause-resumes : goal.returns-in_default-clause-resumes
returns-in_default-clause-resumes c = λ s n h st is.
    let m = c.args.self.now in
    let none : working_at m c.args.xid.now ≡ None = search rules in
    resumed_stands m m.working s n c.args.xid.now c.args.from h st is (unset_by_any (λ (w : Working). with_one kind.Active (less_one c.args.from w)) m.working c.args.xid.now none)
