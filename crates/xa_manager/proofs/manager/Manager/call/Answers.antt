use Rattle.std.proofs.Common.{ℤ, ap, ◌∙◌, w32, to_z, of_z, rules}
use Rattle.xa_codes.specs.declared.detail.Detail.TheVariants as detail
use Rattle.xa_model.specs.Answer.{detailed}
use Rattle.xa_model.specs.declared.event.Event.TheVariants.{Call}
use Rattle.xa_assoc.specs.Refusals.{IsBare}
use Rattle.xa_manager.proofs.Replying.{bare_fresh}
use Rattle.xa_manager.proofs.Calling.{done_answered, wanted_answered, given_done, given_wanted, code_kept}
use Rattle.xa_manager.proofs.manager.Manager.call.Goals as goal

pub returns-in-Ok-clause-answered : goal.returns-in-Ok-clause-answered
returns-in-Ok-clause-answered g c =
    done_answered _ c.args.self.now c.give_low_water.new.self (Call c.args.session c.args.request) c.in-Ok.done.reply c.in-Ok.done.outcome
    (given_done _ c.args.self.now c.answer-answered.new.self c.give_low_water.new.self (Call c.args.session c.args.request) c.in-Ok.done.reply c.in-Ok.done.outcome c.in-Ok.ensures.ok.0
    c.give_low_water.ensures.stays c.give_low_water.ensures.log)

pub returns-in-Err-clause-answered : goal.returns-in-Err-clause-answered
returns-in-Err-clause-answered g c =
    wanted_answered _ c.args.self.now c.give_low_water.new.self c.args.session c.args.request c.detailed.result (c.detailed.ensures ∙ ap (λ (k : ℤ). detailed k detail.Memory) (ap (λ (k : ℤ). to_z w32 (of_z w32 k)) c.memory_code-code.ensures ∙ code_kept c.args.request))
    (given_wanted g.D.Disk c.args.self.now c.answer-answered.new.self c.give_low_water.new.self c.args.request c.in-Err.ensures.err c.give_low_water.ensures.stays c.give_low_water.ensures.log)
    (c.give_low_water.ensures.outcome ∙ c.answer-answered.ensures.outcome)

pub returns-in-Ok-clause-place : goal.returns-in-Ok-clause-place
returns-in-Ok-clause-place g c = c.in-Ok.ensures.ok.1.place

pub returns-in-Ok-clause-limits : goal.returns-in-Ok-clause-limits
returns-in-Ok-clause-limits g c = c.in-Ok.ensures.ok.1.limits

pub returns-in-Err-clause-limits : goal.returns-in-Err-clause-limits
returns-in-Err-clause-limits g c = let bare : IsBare c.detailed.result = search rules in (bare_fresh c.detailed.result bare).limits

pub returns-in-Ok-clause-drained : goal.returns-in-Ok-clause-drained
returns-in-Ok-clause-drained g c = c.give_low_water.ensures.drained

pub returns-in-Err-clause-drained : goal.returns-in-Err-clause-drained
returns-in-Err-clause-drained g c = c.give_low_water.ensures.drained
