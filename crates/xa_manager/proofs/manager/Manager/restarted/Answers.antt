use Rattle.std.proofs.Common.{◌≡◌, ◌∙◌, ℕ, List, Option, true, ap, sym, subst}
use Rattle.xa_frame.specs.declared.request.Request.TheVariants.{Restart}
use Rattle.xa_log.specs.Reading.{bodies_of}
use Rattle.xa_manager.specs.Rereading.{Found, IsCounted, GoesOn, IsNext}
use Rattle.xa_manager.specs.declared.doubt.Doubt.{Doubt}
use Rattle.xa_manager.specs.Believed.LogStands.{Trusts}
use Rattle.xa_manager.specs.Managed.{Doubts, ManagerStandsFor}
use Rattle.xa_model.specs.State.{State}
use Rattle.xa_manager.specs.Turns.{HasWanted}
use Rattle.xa_manager.proofs.Begins.{next_newer, next_above}
use Rattle.xa_manager.proofs.CrashBoots.{boot_by}
use Rattle.xa_manager.proofs.Reserved.{look_same, many_same, none_rises, reserved_stands, state_same}
use Rattle.xa_manager.proofs.Rereads.{failed_restarts, look_wanted, unread_ready}
use Rattle.xa_manager.proofs.manager.Manager.restarted.Goals as goal
use Rattle.xa_manager.proofs.manager.Manager.restarted.Goals.{else-self-via-then-self+else-not-goes_on, else-self-via-else-self}

pub begin-requires-clause-above : goal.begin-requires-clause-above
begin-requires-clause-above g c =
    let p = c.in-Ok-make_ready.planned in
    next_above _ (bodies_of c.in-Ok.bodies.items) p.next (c.in-Ok-make_ready.ensures.log.fields.number ∙ c.in-Ok.ensures.number)
    (next_newer c.look.new.self.tables.branches.moment (bodies_of c.in-Ok.bodies.items) p.durable.value p.next c.in-Ok-make_ready.ensures.plans.0 c.in-Ok-make_ready.ensures.plans.1)

pub begin-requires-clause-next : goal.begin-requires-clause-next
begin-requires-clause-next g c =
    let same = ap (λ m. m.tables.branches.moment) c.make_ready.ensures.rest in
    subst (λ n. IsNext c.in-Ok-make_ready.planned.durable.value n c.in-Ok-make_ready.planned.next) (sym same) c.in-Ok-make_ready.ensures.plans.1

pub begin-requires-clause-boot : goal.begin-requires-clause-boot
begin-requires-clause-boot g c = c.in-Ok-make_ready.ensures.plans.2.boot

pub returns-in-Ok-make_ready-clause-ok : goal.returns-in-Ok-make_ready-clause-ok
returns-in-Ok-make_ready-clause-ok g c =
    let bodies = bodies_of c.in-Ok.bodies.items in
    let rebuilt = c.in-Ok-make_ready.ensures.plans.0 in
    let look = c.look.new.self in
    let ready = c.make_ready.new.self in
    let r = c.in-Ok-make_ready.ensures.log in
    let counted = λ (trusts : Trusts g.D.Disk) (s : State) (st : ManagerStandsFor g.D.Disk c.args.self.now s).
    let f = c.in-Ok.ensures.found trusts s st in
    let same : look.doubt ≡ c.args.self.now.doubt = c.in-Ok.ensures.doubt in
    let doubts : Doubts look.doubt s = subst (λ (d : Option Doubt). Doubts d s) (sym same) st.doubt in
    let here : Found g.D.Disk (bodies_of c.deref.result.now) look.log s = subst (λ (l : List (List ℕ)). Found g.D.Disk l look.log s) (ap bodies_of (sym c.deref.ensures.value)) f in
    subst (λ (k : ℕ). IsCounted ready.doubt c.count_after-after_end.result k) (many_same g.D.Disk look.log ready.log r bodies s f)
    (subst (λ (d : Option Doubt). IsCounted d c.count_after-after_end.result f.many) (ap (λ m. m.doubt) (sym c.make_ready.ensures.rest)) (c.count_after-after_end.ensures s here doubts)) in
    record {
      turn = λ s st trusts.
          c.begin.ensures.turn s bodies (reserved_stands g.D.Disk look ready s r c.make_ready.ensures.rest (c.in-Ok.ensures.stays (c.in-Ok.ensures.goes_on trusts s st) s st)) trusts
          (state_same g.D.Disk look.log ready.log r bodies s (c.in-Ok.ensures.found trusts s st)) (counted trusts s st) rebuilt;
      leaves = λ s st trusts.
          let boot = c.begin.ensures.leaves s bodies (reserved_stands g.D.Disk look ready s r c.make_ready.ensures.rest (c.in-Ok.ensures.stays (c.in-Ok.ensures.goes_on trusts s st) s st)) trusts
          (state_same g.D.Disk look.log ready.log r bodies s (c.in-Ok.ensures.found trusts s st)) (counted trusts s st) rebuilt in
          boot_by _ c.args.self.now.log ready.log s c.begin.result.outcome c.begin.new.self.log
          (look_same g.D.Disk look.log ready.log r c.args.self.now.log s (c.in-Ok.ensures.leaves trusts s st)) boot;
      called = c.begin.ensures.called (r.fields.lost ∙ c.in-Ok.ensures.alive) c.args.self.now.log (none_rises g.D.Disk look.log ready.log r c.args.self.now.log c.in-Ok.ensures.count);
      served = c.begin.ensures.served;
    }

pub returns-else-self-clause-err : goal.returns-else-self-clause-err
returns-else-self-clause-err g c =
    let ok = c.in-Ok.ensures in
    let e = c.in-Err-Memory-make_ready.ensures.err in
    let wanted : (c.args.self.now.up ≡ true → GoesOn c.args.self.now.log c.look.new.self.log) → HasWanted g.D.Disk c.args.self.now Restart c.make_ready.new.self =
    λ goes_on.
    subst (λ m. HasWanted g.D.Disk c.args.self.now Restart m) (sym e)
    (look_wanted g.D.Disk c.args.self.now c.look.new.self (ok.stays goes_on) ok.count (λ s st trusts. ok.leaves trusts s st)) in
    elim c.else-self.branch [
      | else-self-via-then-self+else-not-goes_on w ↦
          wanted
          (λ up. record {
            end = ap (λ m. m.log.end) (sym e) ∙ w.goes_on.ensures.end w.if-not-goes_on.false ∙ c.end-end.ensures;
            number = ap (λ m. m.log.generation) (sym e) ∙ w.goes_on.ensures.number w.if-not-goes_on.false ∙ c.generation-number.ensures;
            modern = ap (λ m. m.log.format) (sym e) ∙ w.goes_on.ensures.modern w.if-not-goes_on.false;
          })
      | else-self-via-else-self w ↦ wanted (λ up. absurd (cc (up, ok.up, ap (λ m. m.up) e)))
    ]

pub returns-in-Err-Malformed-clause-ok : goal.returns-in-Err-Malformed-clause-ok
returns-in-Err-Malformed-clause-ok g c =
    unread_ready g.D.Disk c.args.self.now c.look.new.self c.make_ready.new.self c.unread-in-Err-Malformed.new.self _ _ (bodies_of c.in-Ok.bodies.items) c.in-Err-Malformed.field-0
    c.unread-in-Err-Malformed.ensures.told c.unread-in-Err-Malformed.ensures.reply c.unread-in-Err-Malformed.ensures.down c.in-Err-Malformed.ensures.err c.in-Ok.ensures.count
    c.in-Ok.ensures.found c.in-Err-Malformed.ensures.plans (λ e. cc (e, c.in-Err-Malformed.field-0-is))

pub returns-in-Err-Order-clause-ok : goal.returns-in-Err-Order-clause-ok
returns-in-Err-Order-clause-ok g c =
    unread_ready g.D.Disk c.args.self.now c.look.new.self c.make_ready.new.self c.unread-in-Err-Order.new.self _ _ (bodies_of c.in-Ok.bodies.items) c.in-Err-Order.field-0
    c.unread-in-Err-Order.ensures.told c.unread-in-Err-Order.ensures.reply c.unread-in-Err-Order.ensures.down c.in-Err-Order.ensures.err c.in-Ok.ensures.count
    c.in-Ok.ensures.found c.in-Err-Order.ensures.plans (λ e. cc (e, c.in-Err-Order.field-0-is))

pub returns-in-Err-Memory-clause-err : goal.returns-in-Err-Memory-clause-err
returns-in-Err-Memory-clause-err g c =
    let fault = c.in-Err-Memory in
    look_wanted g.D.Disk c.args.self.now c.look.new.self fault.ensures.err (rw fault.field-0-is at fault.ensures.count) (λ s st trusts. fault.ensures.leaves trusts s st)

pub returns-in-Err-Device-clause-ok : goal.returns-in-Err-Device-clause-ok
returns-in-Err-Device-clause-ok g c =
    let fault = c.in-Err-Device in
    failed_restarts g.D.Disk c.args.self.now c.look.new.self c.failed.new.self c.failed.result.reply c.failed.result.outcome c.failed.ensures.told c.failed.ensures.reply c.failed.ensures.down
    (rw fault.field-0-is at fault.ensures.count) fault.ensures.err (λ s st trusts. fault.ensures.leaves trusts s st)
