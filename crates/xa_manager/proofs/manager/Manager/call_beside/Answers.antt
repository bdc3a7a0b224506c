use Rattle.std.proofs.Common.{◌≡◌, ℤ, None, ap, refl, rules, ◌∙◌, w32, to_z, of_z}
use Rattle.xa_codes.specs.declared.detail.Detail.TheVariants as detail
use Rattle.xa_model.specs.declared.event.Event.TheVariants.{Call}
use Rattle.xa_model.specs.Answer.{detailed}
use Rattle.xa_model.specs.declared.outcome.Outcome.TheVariants.{Quiet}
use Rattle.xa_manager.specs.Believed.Answered.{may_want, memory_code}
use Rattle.xa_manager.proofs.Besides.{refused_beside, wanted_beside, done_beside}
use Rattle.xa_manager.proofs.Calling.{code_kept, wants}
use Rattle.xa_manager.proofs.manager.Manager.call_beside.Goals as goal

pub returns-in-Ok-clause-ok : goal.returns-in-Ok-clause-ok
returns-in-Ok-clause-ok g c =
    let m = c.args.self.now in
    let apart = c.is_apart.ensures.is c.if-not-is_apart.false in
    let none : c.refusal.result ≡ None = search rules in
    done_beside g.D.Disk m (record m { tables = c.answer_now-answered.new.self }) (record m { tables = c.give_low_water.new.self; outcome = Quiet }) c.args.group.now c.args.session c.args.request c.refusal.result c.in-Ok.reply
    c.requires.asked c.requires.group apart.0 apart.1 none c.refusal.ensures.value refl refl refl c.in-Ok.ensures.ok c.answer_now-answered.ensures.rooms refl refl refl c.give_low_water.ensures.stays c.give_low_water.ensures.rooms

pub returns-in-Some-clause-ok : goal.returns-in-Some-clause-ok
returns-in-Some-clause-ok g c =
    let m = c.args.self.now in
    let apart = c.is_apart.ensures.is c.if-not-is_apart.false in
    refused_beside g.D.Disk m (record m { outcome = Quiet }) c.args.group.now c.args.session c.args.request c.in-Some.reply c.requires.group apart.0 apart.1 c.in-Some.ensures.value c.in-Some.ensures.served
    refl refl refl (λ s st. st) refl

pub returns-in-Err-clause-ok : goal.returns-in-Err-clause-ok
returns-in-Err-clause-ok g c =
    let m = c.args.self.now in
    let may = wants c.answer_now-answered.result c.in-Err.field-0 (may_want c.args.request) c.in-Err.is c.answer_now-answered.ensures.memory in
    let told : c.detailed.result ≡ detailed (memory_code c.args.request) detail.Memory
    = c.detailed.ensures ∙ ap (λ (k : ℤ). detailed k detail.Memory) (ap (λ (k : ℤ). to_z w32 (of_z w32 k)) c.memory_code-code.ensures ∙ code_kept c.args.request) in
    rw told (wanted_beside g.D.Disk m (record m { tables = c.give_low_water.new.self }) c.args.group.now (Call c.args.session c.args.request) (detailed (memory_code c.args.request) detail.Memory) c.requires.group
    (λ w. (may, refl)) refl
    refl refl refl (λ s st. c.give_low_water.ensures.stays s (c.in-Err.ensures.err s st)) (c.give_low_water.ensures.rooms ∙ c.answer_now-answered.ensures.rooms))
