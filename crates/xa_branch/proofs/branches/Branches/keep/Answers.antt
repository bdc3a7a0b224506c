use Rattle.std.proofs.Common.{Some, refl}
use Rattle.xa_branch.specs.Changes.{Sets}
use Rattle.xa_branch.specs.Due.{due_of, work_of}
use Rattle.xa_branch.proofs.Begun.{alike_stands, taken_looks, taken_number}
use Rattle.xa_branch.proofs.Dues.{same_due, unworking_due}
use Rattle.xa_branch.proofs.Setting.{set_same}
use Rattle.xa_branch.proofs.branches.Branches.keep.Goals as goal

-- without memory for the timestamp, the branch is taken away again

pub returns-in-Err-add_time-clause-err : goal.returns-in-Err-add_time-clause-err
returns-in-Err-add_time-clause-err c = λ free s st.
    let m = c.args.self.now in
    let xid = c.args.xid.now in
    let w = c.args.working in
    let sets : Sets m.working xid (Some w) c.add.new.kept = set_same m.working _ c.copied.result xid w w c.copied.ensures refl c.in-Ok.ensures.ok in
    alike_stands m c.take.new.kept c.add_time.new.times c.take_due-in-Err-add_time.new.due s st (taken_looks m c.add.new.kept c.take.new.kept xid w free sets c.take.ensures)
    (taken_number m c.add.new.kept c.take.new.kept xid w free sets c.take.ensures) c.in-Err-add_time.ensures.err
    (same_due m.due c.add_due.new.due c.take_due-in-Err-add_time.new.due s.branches xid (due_of (work_of w)) st.due (unworking_due m s xid (st.working xid) free) c.in_ok-add_due.ensures.ok c.take_due-in-Err-add_time.ensures)
