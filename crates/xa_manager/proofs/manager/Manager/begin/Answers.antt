use Rattle.std.proofs.Common.{◌<◌, Option, ap, sym, ◌∙◌, subst}
use Rattle.std.specs.Prelude.{IfSome}
use Rattle.xa_log.specs.Believed.Pair.{generation}
use Rattle.xa_model.specs.Durable.{durable}
use Rattle.xa_model.specs.Restarting.{restart_turn}
use Rattle.xa_model.specs.Answer.{answer, detailed}
use Rattle.xa_model.specs.Logging.{down}
use Rattle.xa_model.specs.Turn.{taken}
use Rattle.xa_model.specs.declared.outcome.Outcome.{Outcome}
use Rattle.xa_codes.specs.declared.codes.TheConstants.{XAER_RMFAIL}
use Rattle.xa_codes.specs.declared.detail.Detail.TheVariants as detail
use Rattle.xa_manager.specs.Believed.Crash.{LeavesBoot}
use Rattle.xa_manager.specs.Believed.LogStands.{HasRecords}
use Rattle.xa_manager.specs.declared.boots.NextBoot.{NextBoot}
use Rattle.xa_manager.specs.Rereading.{HoldsNext}
use Rattle.xa_manager.proofs.Beginnings.{next_sizes, next_short, next_keys, next_is, none_next, planned_fate}
use Rattle.xa_manager.proofs.Fates.{is_answer, turn_stops}
use Rattle.xa_manager.proofs.Standing.{down_stands}
use Rattle.xa_manager.proofs.manager.Manager.begin.Goals as goal

pub log_boot-requires-clause-sizes : goal.log_boot-requires-clause-sizes
log_boot-requires-clause-sizes g c = next_sizes c.args.self.now.tables.branches.moment c.args.planned.durable.value c.args.planned.next c.in-Some.next c.in-Some.is c.requires.next

pub log_boot-requires-clause-short : goal.log_boot-requires-clause-short
log_boot-requires-clause-short g c = next_short c.args.self.now.tables.branches.moment c.args.planned.durable.value c.args.planned.next c.in-Some.next c.in-Some.is c.requires.next

pub log_boot-requires-clause-keys : goal.log_boot-requires-clause-keys
log_boot-requires-clause-keys g c = next_keys c.args.self.now.tables.branches.moment c.args.planned.durable.value c.args.planned.next c.in-Some.next c.in-Some.is c.requires.next

pub log_boot-requires-clause-above : goal.log_boot-requires-clause-above
log_boot-requires-clause-above g c =
    subst (λ o. IfSome o (λ next. c.args.self.now.log.generation < generation next.bodies.items)) c.in-Some.is c.requires.above

pub log_boot-requires-clause-holds : goal.log_boot-requires-clause-holds
log_boot-requires-clause-holds g c = subst (λ (o : Option NextBoot). HoldsNext c.args.self.now.log o) c.in-Some.is c.requires.holds

pub returns-in-Some-clause-turn : goal.returns-in-Some-clause-turn
returns-in-Some-clause-turn g c =
    λ s bodies st trusts f counted rebuilt.
    let read = planned_fate g.D.Disk c.args.self.now s bodies c.args.planned c.survivors-survived.result st f rebuilt c.requires.next c.requires.boot (λ h boot. c.survivors-survived.ensures s bodies f st.doubt h boot counted) in
    let next = next_is c.args.self.now.tables.branches.moment (durable f.state) c.args.planned.next c.in-Some.next c.in-Some.is read.0 in
    c.log_boot.ensures.turn s f.state f.records st trusts read.1 f.backs f.has f.alive next.less next.number next.ready

pub returns-in-Some-clause-leaves : goal.returns-in-Some-clause-leaves
returns-in-Some-clause-leaves g c =
    λ s bodies st trusts f counted rebuilt.
    let read = planned_fate g.D.Disk c.args.self.now s bodies c.args.planned c.survivors-survived.result st f rebuilt c.requires.next c.requires.boot (λ h boot. c.survivors-survived.ensures s bodies f st.doubt h boot counted) in
    let next = next_is c.args.self.now.tables.branches.moment (durable f.state) c.args.planned.next c.in-Some.next c.in-Some.is read.0 in
    c.log_boot.ensures.leaves s f.state f.records st trusts read.1 f.backs f.has f.alive next.less next.ready

pub returns-clause-turn : goal.returns-clause-turn
returns-clause-turn g c =
    λ s bodies st trusts f counted rebuilt.
    let read = planned_fate g.D.Disk c.args.self.now s bodies c.args.planned c.survivors-survived.result st f rebuilt c.requires.next c.requires.boot (λ h boot. c.survivors-survived.ensures s bodies f st.doubt h boot counted) in
    let used = none_next c.args.self.now.tables.branches.moment (durable f.state) c.args.planned.next c.in-None.is read.0 in
    is_answer _ (answer (detailed XAER_RMFAIL detail.Limit) (down f.state)) _ (ap (λ (o : Outcome). taken (restart_turn s) o) c.stopped.ensures.told ∙ turn_stops c.survivors-survived.result s f.state read.1 used) (
      sym c.stopped.ensures.reply,
      down_stands g.D.Disk c.args.self.now _ s f.state c.survivors-survived.result f.records
          (ap (λ m. m.tables) c.stopped.ensures.down) (ap (λ m. m.up) c.stopped.ensures.down) (ap (λ m. m.doubt) c.stopped.ensures.down) (ap (λ m. m.log.log_bytes) c.stopped.ensures.down) st read.1 f.backs
          (subst (λ m. HasRecords g.D.Disk f.records m.log) (sym c.stopped.ensures.down) f.has),
    )

pub returns-clause-leaves : goal.returns-clause-leaves
returns-clause-leaves g c =
    λ s bodies st trusts f counted rebuilt.
    subst (λ (o : Outcome). LeavesBoot g.D.Disk c.args.self.now.log (restart_turn s) o c.stopped.new.self.log) (sym c.stopped.ensures.told)
    (ap (λ m. m.log) c.stopped.ensures.down)
