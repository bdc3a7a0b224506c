use Rattle.std.proofs.Common.{refl, ◌≡◌, None, sym, subst, rules}
use Rattle.std.specs.Prelude.{option_map}
use Rattle.xa_branch.specs.declared.kind.Kind.{Kind}
use Rattle.xa_branch.specs.declared.kind.Kind.TheVariants as kind
use Rattle.xa_branch.specs.Branches.{working_at}
use Rattle.xa_branch.specs.Changes.{Sets, less_one}
use Rattle.xa_branch.proofs.Setting.{set_by, unset_by_any}
use Rattle.xa_branch.proofs.Shifting.{ended_stands, not_resumed_stands, not_suspended_stands}
use Rattle.xa_branch.proofs.branches.Branches.leave.Goals as goal

pub returns-in-Some : goal.returns-in-Some
returns-in-Some c =
    let m = c.args.self.now in
    let sets : Sets m.working c.args.xid.now (option_map (less_one c.args.kind) (working_at m c.args.xid.now)) c.set.new.kept =
    set_by (less_one c.args.kind) m.working _ c.args.xid.now c.in-Some.working c.less_one.result (sym c.in-Some.ensures) c.less_one.ensures c.set.ensures in
    record {
      ended = λ s n h st is. ended_stands m _ s n c.args.xid.now c.args.kind h st is sets;
      not_resumed = λ s n st is. not_resumed_stands m _ s n c.args.xid.now c.args.kind st is sets;
      not_suspended = λ s n st is any.
          not_suspended_stands m _ s n c.args.xid.now st any (subst (λ (k : Kind). Sets m.working c.args.xid.now (option_map (less_one k) (working_at m c.args.xid.now)) c.set.new.kept) is sets);
      rooms = refl;
    }

pub returns-in_default : goal.returns-in_default
returns-in_default c =
    let m = c.args.self.now in
    let none : working_at m c.args.xid.now ≡ None = search rules in
    record {
      ended = λ s n h st is. ended_stands m m.working s n c.args.xid.now c.args.kind h st is (unset_by_any (less_one c.args.kind) m.working c.args.xid.now none);
      not_resumed = λ s n st is. not_resumed_stands m m.working s n c.args.xid.now c.args.kind st is (unset_by_any (less_one c.args.kind) m.working c.args.xid.now none);
      not_suspended = λ s n st is any. not_suspended_stands m m.working s n c.args.xid.now st any (unset_by_any (less_one kind.Active) m.working c.args.xid.now none);
      rooms = refl;
    }
