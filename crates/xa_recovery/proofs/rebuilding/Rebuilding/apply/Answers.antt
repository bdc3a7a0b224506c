use Rattle.std.proofs.Common.{◌≡◌, true, false, subst, sym}
use Rattle.std.specs.Prelude.{OnOk}
use Rattle.xa_record.specs.declared.record.Record.{Record}
use Rattle.xa_model.specs.Fold.{fits, read, complete}
use Rattle.xa_model.proofs.Readings.{new_is, base_is, known_is, completed_unknown}
use Rattle.xa_recovery.specs.Rebuilding.{StandsFor}
use Rattle.xa_recovery.proofs.Standing.{flag_stands, flag_read, forget_stands}
use Rattle.xa_recovery.proofs.rebuilding.Rebuilding.apply.Goals as goal

pub returns-in-Prepared : goal.returns-in-Prepared
returns-in-Prepared c = λ x h st fit.
    let w = c.in-Prepared in
    let new = new_is w.xid w.timestamp x (subst (λ (r : Record). fits r x ≡ true) w.is fit) in
    let after = c.prepare.ensures (record { durable = x.durable; is_snapshot = false; timestamps = x.timestamps }) (flag_read x false h) (flag_stands c.args.self.now x false st) new.0.unused new.1.unprepared in
    subst (λ (r : Record). OnOk c.prepare.result (StandsFor c.prepare.new.self (read r x))) (sym w.is) after

pub returns-in-Committed : goal.returns-in-Committed
returns-in-Committed c = λ x h st fit.
    let w = c.in-Committed in
    let new = new_is w.xid w.timestamp x (subst (λ (r : Record). fits r x ≡ true) w.is fit) in
    let after = c.commit.ensures (record { durable = x.durable; is_snapshot = false; timestamps = x.timestamps }) (flag_read x false h) (flag_stands c.args.self.now x false st) new.0.unused in
    subst (λ (r : Record). OnOk c.commit.result (StandsFor c.commit.new.self (read r x))) (sym w.is) after

pub returns-in-Completed : goal.returns-in-Completed
returns-in-Completed c = λ x h st fit.
    let w = c.in-Completed in
    let some = subst (λ (r : Record). fits r x ≡ true) w.is fit in
    let after = c.complete.ensures (record { durable = x.durable; is_snapshot = false; timestamps = x.timestamps }) (flag_read x false h) (flag_stands c.args.self.now x false st) some in
    subst (λ (r : Record). OnOk c.complete.result (StandsFor c.complete.new.self (read r x))) (sym w.is) after

pub returns-in_ok-complete-in-Decided : goal.returns-in_ok-complete-in-Decided
returns-in_ok-complete-in-Decided c = λ x h st fit.
    let w = c.in-Decided in
    let some = subst (λ (r : Record). fits r x ≡ true) w.is fit in
    let stands = c.in_ok-complete-in-Decided.ensures (record { durable = x.durable; is_snapshot = false; timestamps = x.timestamps }) (flag_read x false h) (flag_stands c.args.self.now x false st) some in
    let after = c.decide.ensures (record { durable = complete w.xid w.direction x.durable; is_snapshot = false; timestamps = x.timestamps }) stands (completed_unknown w.xid w.direction x.durable h.durable some).undecided in
    subst (λ (r : Record). OnOk c.decide.result (StandsFor c.decide.new.self (read r x))) (sym w.is) after

pub returns-in-Forgotten : goal.returns-in-Forgotten
returns-in-Forgotten c = λ x h st fit.
    let w = c.in-Forgotten in
    rw w.is (forget_stands (record c.args.self.now { is_snapshot = false }) (record { durable = x.durable; is_snapshot = false; timestamps = x.timestamps }) w.xid c.remove.new.self (flag_stands c.args.self.now x false st) c.remove.ensures.entries)

pub returns-in-Base : goal.returns-in-Base
returns-in-Base c = λ x h st fit.
    let w = c.in-Base in
    let fresh = base_is w.timestamp w.writes x (subst (λ (r : Record). fits r x ≡ true) w.is fit) in
    subst (λ (r : Record). OnOk c.commit-in-Base.result (StandsFor c.commit-in-Base.new.self (read r x))) (sym w.is) (c.commit-in-Base.ensures x h st fresh.unused)

pub returns-in-Known : goal.returns-in-Known
returns-in-Known c = λ x h st fit.
    let w = c.in-Known in
    let unknown = known_is w.xid w.direction x (subst (λ (r : Record). fits r x ≡ true) w.is fit) in
    subst (λ (r : Record). OnOk c.decide-in-Known.result (StandsFor c.decide-in-Known.new.self (read r x))) (sym w.is) (c.decide-in-Known.ensures x st unknown.undecided)
