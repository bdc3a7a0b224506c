use Rattle.std.proofs.Common.{ℕ, ◌<◌, ◌^◌, sym, subst, rules}
use Rattle.std.specs.BTreeSet.{BTreeSet}
use Rattle.xa_xid.specs.Triple.{Triple}
use Rattle.xa_model.specs.TimeLimits.{ticked}
use Rattle.xa_branch.specs.Branches.{BranchesStandFor}
use Rattle.xa_branch.proofs.RunningOut.{ran_more, ran_all, ran_stands}
use Rattle.xa_branch.proofs.branches.Branches.tick.Goals as goal

pub loop-xid-preserved : goal.loop-xid-preserved
loop-xid-preserved c = record {
  ran = λ s h st.
      ran_more c.args.moment c.loop-xid.self c.mark_working.new.working c.next_due.new.due s c.in-Some.xid c.loop-xid.number c.saturating_add-number.result h c.in-Some.ensures.due c.mark_working.ensures c.saturating_add-number.ensures
      (c.loop-xid.invariant.ran s h st);
  rooms = c.loop-xid.invariant.rooms;
}

pub returns-clause-number : goal.returns-clause-number
returns-clause-number c = λ s h st.
    let small : c.args.moment < 2 ^ 64 = search rules in ran_all c.args.moment c.loop-xid.self s c.loop-xid.number small c.in_default.ensures.none (c.loop-xid.invariant.ran s h st)

pub returns-clause-ok : goal.returns-clause-ok
returns-clause-ok c = λ s h st.
    let small : c.args.moment < 2 ^ 64 = search rules in
    subst (λ (due : BTreeSet (ℕ × Triple)). BranchesStandFor (record c.loop-xid.self { moment = c.args.moment; due = due }) (ticked s c.args.moment)) (sym c.in_default.ensures.same)
    (ran_stands c.args.moment c.loop-xid.self s c.loop-xid.number small c.in_default.ensures.none (c.loop-xid.invariant.ran s h st))
