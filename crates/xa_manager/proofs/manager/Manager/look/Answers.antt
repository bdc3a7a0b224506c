use Rattle.std.proofs.Common.{ℕ, List, map, refl, ap, sym, ◌∙◌}
use Rattle.xa_record.specs.Spelling.{spelled}
use Rattle.xa_log.specs.Believed.Chain.{logged}
use Rattle.xa_log.specs.Believed.LogStates.{Whole}
use Rattle.xa_log.specs.Believed.Pair.{generation}
use Rattle.xa_log.specs.Reading.{bodies_of}
use Rattle.xa_log.proofs.Beside.{other_looked}
use Rattle.xa_manager.specs.Managed.{view}
use Rattle.xa_manager.proofs.Results.{on_err, on_ok, if_ok, if_err, at_err, in_ok, in_err}
use Rattle.xa_manager.proofs.CrashFiles.{look_files}
use Rattle.xa_manager.proofs.Formats.{found_some, stood_format}
use Rattle.xa_manager.proofs.LogsBehind.{lost_trusted, calm_trusted, only_records, stands_kept}
use Rattle.xa_manager.proofs.Rescanned.{Finds, stands_found, found_state}
use Rattle.xa_manager.proofs.Standing.{still_stands, outside, is_up, found_end}
use Rattle.xa_manager.proofs.manager.Manager.look.Goals as goal

pub returns-clause-err : goal.returns-clause-err
returns-clause-err g c = on_err c.rescan.result _ (λ e is s st.
    let same = at_err _ c.rescan.result e is c.rescan.ensures.as_before in
    still_stands g.D.Disk c.args.self.now _ s refl refl refl (λ up. same.end ∙ st.end up) (λ up. same.lost ∙ st.alive up) (λ up. same.format ∙ st.modern up) (λ up. same.number) c.rescan.ensures.settings
    (λ trusts. stands_kept g.D.Disk c.args.self.now.log c.rescan.new.self s (at_err _ c.rescan.result e is (c.rescan.ensures.keeps trusts.disk)) (st.log trusts)) st)

pub returns-clause-alive : goal.returns-clause-alive
returns-clause-alive g c = on_ok c.rescan.result _ (λ v is. (in_ok _ c.rescan.result v is c.rescan.ensures.ends).alive)

pub returns-clause-stays : goal.returns-clause-stays
returns-clause-stays g c = on_ok c.rescan.result _ (λ v is ends s st.
    let alive = (in_ok _ c.rescan.result v is c.rescan.ensures.ends).alive in
    still_stands g.D.Disk c.args.self.now _ s refl refl refl (λ up. (ends up).end ∙ st.end up) (λ up. alive) (λ up. (ends up).modern) (λ up. (ends up).number) c.rescan.ensures.settings
    (λ trusts. let finds : Finds g.D.Disk (bodies_of v.items) c.args.self.now.log c.rescan.new.self = record {
      stood = logged (g.D.Disk.seen c.rescan.new.self.other);
      state = λ state it. let f = in_ok _ c.rescan.result v is (c.rescan.ensures.anew trusts.disk state it (lost_trusted g.D.Disk trusts state) (calm_trusted g.D.Disk trusts state c.args.self.now.log)) in (f.0, f.1.0);
      other = λ state it beside. other_looked g.D.Disk c.args.self.now.log c.rescan.new.self state it (c.rescan.ensures.looks trusts.disk) beside;
    } in
    stands_found g.D.Disk (bodies_of v.items) c.args.self.now.log c.rescan.new.self s finds (st.log trusts)) st)

pub returns-clause-found : goal.returns-clause-found
returns-clause-found g c = λ trusts. if_ok c.rescan.result _ (λ v is s st.
    let finds : Finds g.D.Disk (bodies_of v.items) c.args.self.now.log c.rescan.new.self = record {
      stood = logged (g.D.Disk.seen c.rescan.new.self.other);
      state = λ state it. let f = in_ok _ c.rescan.result v is (c.rescan.ensures.anew trusts.disk state it (lost_trusted g.D.Disk trusts state) (calm_trusted g.D.Disk trusts state c.args.self.now.log)) in (f.0, f.1.0);
      other = λ state it beside. other_looked g.D.Disk c.args.self.now.log c.rescan.new.self state it (c.rescan.ensures.looks trusts.disk) beside;
    } in
    found_state g.D.Disk (bodies_of v.items) c.args.self.now.log c.rescan.new.self s finds (outside c.args.self.now.up (view c.args.self.now) s st.tables).recoverable (st.log trusts))

pub returns-clause-goes_on : goal.returns-clause-goes_on
returns-clause-goes_on g c = λ trusts. on_ok c.rescan.result _ (λ v is s st up.
    let h = (outside c.args.self.now.up (view c.args.self.now) s st.tables).recoverable in
    let log = st.log trusts in
    let looks = c.rescan.ensures.looks trusts.disk in
    let found = in_ok _ c.rescan.result v is (returns-clause-found g c trusts) s st in
    let here = only_records g.D.Disk c.args.self.now.log s (h.settled (is_up c.args.self.now.up (view c.args.self.now) s st.tables up)) log in
    let whole = Whole (map spelled log.records) here.0 in
    let again = in_ok _ c.rescan.result v is (c.rescan.ensures.anew trusts.disk whole here.1 (lost_trusted g.D.Disk trusts whole) (calm_trusted g.D.Disk trusts whole c.args.self.now.log)) in
    let anew = in_ok _ c.rescan.result v is (c.rescan.ensures.anew trusts.disk log.state log.is_in (lost_trusted g.D.Disk trusts log.state) (calm_trusted g.D.Disk trusts log.state c.args.self.now.log)) in
    record {
      end = found_end g.D.Disk (bodies_of v.items) c.rescan.new.self s h (is_up c.args.self.now.up (view c.args.self.now) s st.tables up) found ∙ sym (st.end up);
      number = in_ok _ c.rescan.result v is c.rescan.ensures.number ∙ ap (λ (b : List (List ℕ)). generation b) again.0 ∙ sym here.1.current.number;
      modern = stood_format g.D.Disk c.args.self.now.log c.rescan.new.self log.state (bodies_of v.items) log.is_in (st.alive up) anew.0 anew.1.0 trusts.headers
          (found_some g.D.Disk (bodies_of v.items) c.rescan.new.self s h found) looks.first_same looks.second_same ∙ st.modern up;
    })

pub returns-clause-readable : goal.returns-clause-readable
returns-clause-readable g c = λ trusts. if_err c.rescan.result _ (λ e is s st.
    let log = st.log trusts in
    in_err _ c.rescan.result e is (c.rescan.ensures.readable trusts.disk log.state log.is_in (lost_trusted g.D.Disk trusts log.state) (calm_trusted g.D.Disk trusts log.state c.args.self.now.log)))

pub returns-clause-leaves : goal.returns-clause-leaves
returns-clause-leaves g c = λ trusts s st.
    look_files g.D.Disk c.args.self.now.log c.rescan.new.self s (outside c.args.self.now.up (view c.args.self.now) s st.tables).recoverable
    (c.rescan.ensures.looks trusts.disk) g.met.D.Disk.only_now (c.rescan.ensures.any_moment trusts.disk)
