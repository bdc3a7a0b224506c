use Rattle.std.proofs.Common.{refl, subst}
use Rattle.xa_manager.specs.declared.plan.Plan.{Plan}
use Rattle.xa_manager.specs.declared.plan.Plan.TheVariants.{Now, Logs}
use Rattle.xa_manager.specs.Plans.{IsPlan}
use Rattle.xa_manager.proofs.Plans.{body_short, of_row_asked, ready_size, takes_at_once}
use Rattle.xa_manager.proofs.Taking.{on_err}
use Rattle.xa_manager.proofs.manager.Manager.log_call.Goals as goal

pub returns-in-Now-clause-ok : goal.returns-in-Now-clause-ok
returns-in-Now-clause-ok g c =
    let m = c.args.self.now in
    let p : IsPlan g.D.Disk m c.args.row c.args.xid.now (Now c.in-Now.reply c.in-Now.fate) =
    subst (λ (x : Plan). IsPlan g.D.Disk m c.args.row c.args.xid.now x) c.in-Now.is c.in_ok-reply.ensures.ok in
    rw c.now.ensures (takes_at_once g.D.Disk m (record m { tables = c.settle.new.self }) c.args.row c.args.xid.now c.in-Now.reply c.in-Now.fate _ refl p refl refl refl c.settle.ensures.settles)

pub returns-in-Now-clause-bare : goal.returns-in-Now-clause-bare
returns-in-Now-clause-bare g c =
    let p : IsPlan g.D.Disk c.args.self.now c.args.row c.args.xid.now (Now c.in-Now.reply c.in-Now.fate) =
    subst (λ (x : Plan). IsPlan g.D.Disk c.args.self.now c.args.row c.args.xid.now x) c.in-Now.is c.in_ok-reply.ensures.ok in
    rw c.now.ensures p.bare

pub take_memory-requires : goal.take_memory-requires
take_memory-requires g c =
    let p : IsPlan g.D.Disk c.args.self.now c.args.row c.args.xid.now (Logs c.in-Logs.logging) =
    subst (λ (x : Plan). IsPlan g.D.Disk c.args.self.now c.args.row c.args.xid.now x) c.in-Logs.is c.in_ok-reply.ensures.ok in
    record { up = c.requires.up; size = body_short _ _ p.2.size; small = p.2.small }

pub carry_out-requires : goal.carry_out-requires
carry_out-requires g c =
    let m = c.args.self.now in
    let l = c.in-Logs.logging in
    let p : IsPlan g.D.Disk m c.args.row c.args.xid.now (Logs l) =
    subst (λ (x : Plan). IsPlan g.D.Disk m c.args.row c.args.xid.now x) c.in-Logs.is c.in_ok-reply.ensures.ok in
    let ready = c.in_ok-take_memory-in-Logs.ensures.ok in
    record { size = ready_size g.D.Disk m c.take_memory.new.self l p.2 ready; holds = ready.holds }

pub returns-in_err-take_memory-in-Logs-clause-err : goal.returns-in_err-take_memory-in-Logs-clause-err
returns-in_err-take_memory-in-Logs-clause-err g c =
    on_err c.from_residual-in_err-take_memory-in-Logs.result _ c.in_err-take_memory-in-Logs.ensures.err

pub returns-in_ok-take_memory-in-Logs-clause-ok : goal.returns-in_ok-take_memory-in-Logs-clause-ok
returns-in_ok-take_memory-in-Logs-clause-ok g c =
    let m = c.args.self.now in
    let l = c.in-Logs.logging in
    let p : IsPlan g.D.Disk m c.args.row c.args.xid.now (Logs l) =
    subst (λ (x : Plan). IsPlan g.D.Disk m c.args.row c.args.xid.now x) c.in-Logs.is c.in_ok-reply.ensures.ok in
    of_row_asked g.D.Disk m c.carry_out.new.self c.args.row l.row c.args.xid.now l.xid c.carry_out.result.reply c.carry_out.result.outcome p.0 p.1 (c.carry_out.ensures.takes m p.2 c.in_ok-take_memory-in-Logs.ensures.ok)
