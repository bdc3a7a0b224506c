use Rattle.std.proofs.Common.{◌≡◌, ℕ, ℤ, Option, None, sym, subst, rules, w32}
use Rattle.std.specs.Prelude.{option_map}
use Rattle.std.proofs.lemmas.Int.{to_z-of_z}
use Rattle.xa_branch.specs.Branches.{working_at}
use Rattle.xa_branch.specs.Changes.{Sets, marked}
use Rattle.xa_branch.specs.Due.{due_named, LosesDue}
use Rattle.xa_branch.proofs.Dues.{working_due, unworking_due, loses_none}
use Rattle.xa_branch.proofs.Setting.{unset_by_any}
use Rattle.xa_branch.proofs.Marking.{marked_stands}
use Rattle.xa_branch.proofs.branches.Branches.mark.Goals as goal

pub returns-in-Some-clause-marks : goal.returns-in-Some-clause-marks
returns-in-Some-clause-marks c = λ s st.
    let m = c.args.self.now in
    marked_stands m _ _ s c.args.xid.now c.args.code st
    (subst (λ (z : ℤ). Sets m.working c.args.xid.now (option_map (marked z) (working_at m c.args.xid.now)) c.mark_working.new.working) (to_z-of_z w32 c.args.code c.ranges.code) c.mark_working.ensures)
    (subst (λ (o : Option ℕ). LosesDue m.due c.args.xid.now o c.take_due.new.due) (working_due m s c.args.xid.now c.in-Some.working (st.working c.args.xid.now) (sym c.in-Some.ensures)) c.take_due.ensures)

pub returns-in_default-clause-marks : goal.returns-in_default-clause-marks
returns-in_default-clause-marks c = λ s st.
    let m = c.args.self.now in
    let none : working_at m c.args.xid.now ≡ None = search rules in
    marked_stands m m.working m.due s c.args.xid.now c.args.code st (unset_by_any (marked c.args.code) m.working c.args.xid.now none)
    (loses_none m.due c.args.xid.now (due_named s.branches c.args.xid.now) (unworking_due m s c.args.xid.now (st.working c.args.xid.now) none))
