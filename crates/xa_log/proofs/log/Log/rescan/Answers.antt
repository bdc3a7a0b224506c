use Rattle.std.proofs.Common.{◌≡◌, ◌∙◌, ap, refl, subst, sym}
use Rattle.xa_disk.specs.Disk.{Same, Only}
use Rattle.xa_disk.specs.Time.{TimePasses}
use Rattle.xa_log.specs.LogFields.{shown}
use Rattle.xa_log.specs.Believed.LogStates.{IsCalmBeside, IsIn}
use Rattle.xa_log.specs.Believed.Pair.{generation, logged_of}
use Rattle.xa_log.specs.Reading.{Explains, bodies_of}
use Rattle.xa_log.proofs.Again.{explained, on_err}
use Rattle.xa_log.proofs.Anew.{state_anew}
use Rattle.xa_log.proofs.Known.{measured}
use Rattle.xa_log.proofs.Looks.{handed_on}
use Rattle.xa_log.proofs.Opens.{sound, opens, current_logged}
use Rattle.xa_log.proofs.States.{look_leaves, state_reads}
use Rattle.xa_log.proofs.Still.{keeps_all, left_back, unasked, err_only, in_turn, of_both, fault_order, logged_order}
use Rattle.xa_log.proofs.Viewed.{keeps_seen, looks_from, looks_seen, of_fields}
use Rattle.xa_log.proofs.log.Log.rescan.Goals as goal

pub returns-in_err-on_first-clause-keeps : goal.returns-in_err-on_first-clause-keeps
returns-in_err-on_first-clause-keeps g c h =
    on_err _ c.from_residual-in_err-on_first.result
    (keeps_seen c.self.view_is (keeps_all g.D.Disk (shown c.self.inside) _ (record { on_first = refl; log_bytes = refl; format = refl; end = refl; digest = refl; number = refl; lost = refl; known = refl; other_known = refl })
    (c.read_again.ensures.same h) (left_back _ _ _ _ _ _ (c.read_again.ensures.time h))
    (c.read_again.ensures.same_other h) (left_back _ _ _ _ _ _ (c.read_again.ensures.time_other h))))

pub returns-in_err-other_window-clause-keeps : goal.returns-in_err-other_window-clause-keeps
returns-in_err-other_window-clause-keeps g c h =
    on_err _ c.from_residual.result
    (keeps_all g.D.Disk c.args.self.now _ (record { on_first = refl; log_bytes = refl; format = refl; end = refl; digest = refl; number = refl; lost = refl; known = refl; other_known = refl })
    refl (λ x left. left) refl (λ x left. left))

-- each of the two in its order
pub returns-clause-looks : goal.returns-clause-looks
returns-clause-looks g c h =
    let time = in_turn (λ x y. TimePasses g.D.Disk Same x y) c.self.inside.on_first c.self.inside.disk c.self.inside.other c.read_again.new.disk c.read_again.new.other _ _ c.arrange.ensures.first c.arrange.ensures.second (c.read_again.ensures.time h) (c.read_again.ensures.time_other h) in
    let same = in_turn (λ x y. g.D.Disk.seen y ≡ g.D.Disk.seen x) c.self.inside.on_first c.self.inside.disk c.self.inside.other c.read_again.new.disk c.read_again.new.other _ _ c.arrange.ensures.first c.arrange.ensures.second (c.read_again.ensures.same h) (c.read_again.ensures.same_other h) in
    looks_seen c.self.view_is (record { log_bytes = refl; first = time.0; second = time.1; first_same = same.0; second_same = same.1 })

pub returns-in_err-on_first-clause-looks : goal.returns-in_err-on_first-clause-looks
returns-in_err-on_first-clause-looks g c h =
    let time = in_turn (λ x y. TimePasses g.D.Disk Same x y) c.self.inside.on_first c.self.inside.disk c.self.inside.other c.read_again.new.disk c.read_again.new.other _ _ refl refl (c.read_again.ensures.time h) (c.read_again.ensures.time_other h) in
    let same = in_turn (λ x y. g.D.Disk.seen y ≡ g.D.Disk.seen x) c.self.inside.on_first c.self.inside.disk c.self.inside.other c.read_again.new.disk c.read_again.new.other _ _ refl refl (c.read_again.ensures.same h) (c.read_again.ensures.same_other h) in
    looks_seen c.self.view_is (record { log_bytes = refl; first = time.0; second = time.1; first_same = same.0; second_same = same.1 })

pub returns-in_err-other_window-clause-looks : goal.returns-in_err-other_window-clause-looks
returns-in_err-other_window-clause-looks g c h =
    record { log_bytes = refl; first = unasked _ _ _; second = unasked _ _ _; first_same = refl; second_same = refl }

pub returns-clause-any_moment : goal.returns-clause-any_moment
returns-clause-any_moment g c h = look_leaves g.D.Disk g.met.D.Disk.only_now c.args.self.now _ (returns-clause-looks g c h)

pub returns-in_err-on_first-clause-any_moment : goal.returns-in_err-on_first-clause-any_moment
returns-in_err-on_first-clause-any_moment g c h = look_leaves g.D.Disk g.met.D.Disk.only_now c.args.self.now _ (returns-in_err-on_first-clause-looks g c h)

pub returns-in_err-other_window-clause-any_moment : goal.returns-in_err-other_window-clause-any_moment
returns-in_err-other_window-clause-any_moment g c h = look_leaves g.D.Disk g.met.D.Disk.only_now c.args.self.now _ (returns-in_err-other_window-clause-looks g c h)

pub returns-in_err-on_first-clause-readable : goal.returns-in_err-on_first-clause-readable
returns-in_err-on_first-clause-readable g c h state was lucky beside =
    let is = of_fields (λ l. IsIn g.D.Disk state l) c.self.view_is was in
    let calm = of_fields (λ l. IsCalmBeside g.D.Disk state l) c.self.view_is beside in
    err_only c.from_residual-in_err-on_first.result _ c.from_residual-in_err-on_first.ensures.1
    (explained _ (subst (λ f. Explains c.in_err-on_first.field-0.0 f) (state_reads g.D.Disk (shown c.self.inside) state is lucky calm) (c.in_err-on_first.ensures.value h)))

pub returns-clause-logged : goal.returns-clause-logged
returns-clause-logged g c h =
    ap (λ l. logged_of l.on_first (g.D.Disk.seen l.disk) (g.D.Disk.seen l.other)) (sym c.self.view_is)
    ∙ logged_order g.D.Disk.seen c.self.inside.on_first c.self.inside.disk c.self.inside.other ∙ current_logged _ _ _ _ (c.in_ok-on_first.ensures.value h).1

pub returns-clause-number : goal.returns-clause-number
returns-clause-number g c = c.generation_of_bodies-self-inside.ensures ∙ ap (λ vs. generation (bodies_of vs)) c.deref.ensures.value

pub returns-clause-log : goal.returns-clause-log
returns-clause-log g c h =
    let value = c.in_ok-on_first.ensures.value h in
    let only = of_both (λ d. Only (g.D.Disk.seen d) (g.D.Disk.may_leave d)) c.in_ok-on_first.on_first c.self.inside.on_first _ _ c.read_again.new.disk c.read_again.new.other c.arrange.ensures.first c.arrange.ensures.second (c.in_ok-on_first.ensures.durable h) (c.in_ok-on_first.ensures.durable_other h) in
    let looks = looks_from c.self.view_is (returns-clause-looks g c h) in
    opens g.D.Disk _ _ _ c.in_ok-on_first.scan (sound c.self.inside.log_bytes _ _ (fault_order g.D.Disk.seen c.self.inside.log_bytes c.self.inside.on_first c.self.inside.disk c.self.inside.other ∙ value.0)) only.0 only.1 refl refl refl (returns-clause-number g c) refl
    c.in_ok-on_first.on_first refl looks.first_same looks.second_same value.1

pub returns-clause-anew : goal.returns-clause-anew
returns-clause-anew g c h =
    let looks = returns-clause-looks g c h in
    state_anew g.D.Disk c.args.self.now _ _ looks.first_same looks.second_same (returns-clause-log g c h) (returns-clause-logged g c h)

pub returns-clause-ends : goal.returns-clause-ends
returns-clause-ends g c = record { end = c.in_ok-on_first.ensures.end; alive = refl }

pub returns-clause-measured : goal.returns-clause-measured
returns-clause-measured g c h =
    let lens = c.in_ok-on_first.ensures.lens h in
    let looks = looks_from c.self.view_is (returns-clause-looks g c h) in
    let it = measured g.D.Disk.seen c.in_ok-on_first.on_first _ _ _ _ c.in_order-known.result _ _ looks.first_same looks.second_same c.in_order-known.ensures lens.0 lens.1 in
    record { current = it.0; other = it.1 }

pub returns-clause-count : goal.returns-clause-count
returns-clause-count g c = rw (c.arrange.ensures.first, c.arrange.ensures.second, ← c.self.view_is) c.in_ok-on_first.ensures.count

pub returns-clause-calls : goal.returns-clause-calls
returns-clause-calls g c = rw (c.arrange.ensures.first, ← c.self.view_is) c.in_ok-on_first.ensures.calls

pub returns-clause-calls_second : goal.returns-clause-calls_second
returns-clause-calls_second g c = rw (c.arrange.ensures.second, ← c.self.view_is) c.in_ok-on_first.ensures.calls_second

pub returns-clause-calls_once : goal.returns-clause-calls_once
returns-clause-calls_once g c h = rw (c.arrange.ensures.first, ← c.self.view_is) (c.in_ok-on_first.ensures.calls_once h)

pub returns-clause-calls_once_second : goal.returns-clause-calls_once_second
returns-clause-calls_once_second g c h = rw (c.arrange.ensures.second, ← c.self.view_is) (c.in_ok-on_first.ensures.calls_once_second h)

pub returns-clause-little : goal.returns-clause-little
returns-clause-little g c = rw (c.arrange.ensures.first, c.arrange.ensures.second, ← c.self.view_is) c.in_ok-on_first.ensures.little

pub returns-in_err-on_first-clause-count : goal.returns-in_err-on_first-clause-count
returns-in_err-on_first-clause-count g c = rw (← c.self.view_is) (handed_on _ _ c.from_residual-in_err-on_first.result _ c.from_residual-in_err-on_first.ensures c.in_err-on_first.ensures.count)

pub returns-in_err-on_first-clause-calls : goal.returns-in_err-on_first-clause-calls
returns-in_err-on_first-clause-calls g c = rw (← c.self.view_is) (handed_on _ _ c.from_residual-in_err-on_first.result _ c.from_residual-in_err-on_first.ensures c.in_err-on_first.ensures.calls)

pub returns-in_err-on_first-clause-calls_second : goal.returns-in_err-on_first-clause-calls_second
returns-in_err-on_first-clause-calls_second g c = rw (← c.self.view_is) (handed_on _ _ c.from_residual-in_err-on_first.result _ c.from_residual-in_err-on_first.ensures c.in_err-on_first.ensures.calls_second)

pub returns-in_err-on_first-clause-calls_once : goal.returns-in_err-on_first-clause-calls_once
returns-in_err-on_first-clause-calls_once g c h = rw (← c.self.view_is) (handed_on _ _ c.from_residual-in_err-on_first.result _ c.from_residual-in_err-on_first.ensures (c.in_err-on_first.ensures.calls_once h))

pub returns-in_err-on_first-clause-calls_once_second : goal.returns-in_err-on_first-clause-calls_once_second
returns-in_err-on_first-clause-calls_once_second g c h = rw (← c.self.view_is) (handed_on _ _ c.from_residual-in_err-on_first.result _ c.from_residual-in_err-on_first.ensures (c.in_err-on_first.ensures.calls_once_second h))

pub returns-in_err-on_first-clause-fault : goal.returns-in_err-on_first-clause-fault
returns-in_err-on_first-clause-fault g c h = rw (← c.self.view_is) (handed_on _ _ c.from_residual-in_err-on_first.result _ c.from_residual-in_err-on_first.ensures (c.in_err-on_first.ensures.value h))
