use Rattle.std.proofs.Common.{◌≡◌, None, sym, rules}
use Rattle.xa_branch.specs.declared.kind.Kind.TheVariants as kind
use Rattle.xa_branch.specs.Branches.{working_at}
use Rattle.xa_branch.specs.Changes.{with_one}
use Rattle.xa_branch.proofs.Setting.{set_by, unset_by_any}
use Rattle.xa_branch.proofs.Shifting.{joined_stands}
use Rattle.xa_branch.proofs.branches.Branches.join.Goals as goal

pub returns-in-Some-clause-joins : goal.returns-in-Some-clause-joins
returns-in-Some-clause-joins c = λ s n h st.
    let m = c.args.self.now in
    joined_stands m _ s n c.args.xid.now h st (set_by (with_one kind.Active) m.working _ c.args.xid.now c.in-Some.working c.with_one.result (sym c.in-Some.ensures) c.with_one.ensures c.set.ensures)

pub returns-in_default-clause-joins : goal.returns-in_default-clause-joins
returns-in_default-clause-joins c = λ s n h st.
    let m = c.args.self.now in
    let none : working_at m c.args.xid.now ≡ None = search rules in
    joined_stands m m.working s n c.args.xid.now h st (unset_by_any (with_one kind.Active) m.working c.args.xid.now none)
