use Rattle.std.proofs.Common.{◌≡◌, false, refl, sym, subst, arith, rules, inl}
use Rattle.xa_manager.specs.Plans.{MakesReady}
use Rattle.xa_manager.specs.Rows.{takes_memory}
use Rattle.xa_manager.specs.declared.row.Row.{Row}
use Rattle.xa_manager.proofs.Plans.{other_rows, ready_without, without_none}
use Rattle.xa_manager.proofs.Reserved.{none_reserved}
use Rattle.xa_manager.proofs.Taking.{on_err, stays_up}
use Rattle.xa_manager.proofs.manager.Manager.take_memory.Goals as goal

pub returns-in_default-clause-ok : goal.returns-in_default-clause-ok
returns-in_default-clause-ok g c =
    let l = c.args.logging.now in
    let none : takes_memory l.row ≡ false = other_rows l.row (search rules) in
    record {
      holds = inl (omega (arith, c.requires.small none));
      log = none_reserved _ c.args.self.now.log;
      up = refl;
      tables = ready_without c.args.self.now.tables l.row l.xid none;
    }

pub returns-clause-ok : goal.returns-clause-ok
returns-clause-ok g c =
    let l = c.args.logging.now in
    record {
      holds = rw (← c.len.ensures) c.in-Ok.ensures.holds;
      log = record { files = c.reserve.ensures.disks; fields = c.reserve.ensures.untouched; keeps = c.reserve.ensures.state };
      up = refl;
      tables = subst (λ (r : Row). MakesReady c.args.self.now.tables r l.xid c.make_ready.new.self) (sym c.in-Writes.is) c.in_ok-make_ready.ensures.ok;
    }

pub returns-in_err-make_ready-clause-err : goal.returns-in_err-make_ready-clause-err
returns-in_err-make_ready-clause-err g c =
    on_err c.from_residual.result _ (stays_up _ c.args.self.now (record c.args.self.now { tables = c.make_ready.new.self }) c.requires.up refl refl refl c.in_err-make_ready.ensures.err)

pub returns-in_err-make_ready-clause-memory : goal.returns-in_err-make_ready-clause-memory
returns-in_err-make_ready-clause-memory g c = λ e.
    absurd (without_none c.in-Writes.writing (subst (λ (r : Row). takes_memory r ≡ false) c.in-Writes.is e))

-- where the buffer found no memory, the branch's room is given back
pub returns-in_default-reserve-clause-err : goal.returns-in_default-reserve-clause-err
returns-in_default-reserve-clause-err g c =
    let m = c.args.self.now in
    stays_up _ m (record m { log = c.reserve.new.self; tables = c.leave_ready.new.self }) c.requires.up refl c.in_default-reserve.ensures.refused refl
    (λ s st. c.leave_ready.ensures.given s (c.in_ok-make_ready.ensures.ok s st))

pub returns-in_default-reserve-clause-memory : goal.returns-in_default-reserve-clause-memory
returns-in_default-reserve-clause-memory g c = λ e.
    absurd (without_none c.in-Writes.writing (subst (λ (r : Row). takes_memory r ≡ false) c.in-Writes.is e))
