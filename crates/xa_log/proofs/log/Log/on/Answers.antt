use Rattle.std.proofs.Common.{refl, ap, true, ◌∙◌}
use Rattle.xa_disk.specs.Disk.{Only}
use Rattle.xa_log.specs.Believed.Pair.{generation}
use Rattle.xa_log.specs.Reading.{bodies_of}
use Rattle.xa_log.proofs.Known.{measured}
use Rattle.xa_log.proofs.Opens.{sound, opens}
use Rattle.xa_log.proofs.Still.{of_pair, of_both}
use Rattle.xa_log.proofs.log.Log.on.Goals as goal

pub returns-clause-log : goal.returns-clause-log
returns-clause-log g c h o =
    let p = c.in_order-disk.result in
    let is = of_pair c.args.opened.on_first p c.args.first c.args.second c.in_order-disk.ensures in
    let only = of_both (λ d. Only (g.D.Disk.seen d) (g.D.Disk.may_leave d)) c.args.opened.on_first true p.0 p.1 c.args.first c.args.second is.0 is.1 o.durable o.durable_second in
    opens g.D.Disk _ _ _ c.args.opened.scan (sound c.args.opened.log_bytes _ _ o.fault) only.0 only.1 refl refl refl (c.generation_of_bodies-number.ensures ∙ ap (λ vs. generation (bodies_of vs)) c.deref.ensures.value) refl
    c.args.opened.on_first refl (ap g.D.Disk.seen is.0) (ap g.D.Disk.seen is.1) o.current

pub returns-clause-ends : goal.returns-clause-ends
returns-clause-ends g c ends = record { end = ends; alive = refl }

pub returns-clause-measured : goal.returns-clause-measured
returns-clause-measured g c h o =
    let is = of_pair c.args.opened.on_first c.in_order-disk.result c.args.first c.args.second c.in_order-disk.ensures in
    let it = measured g.D.Disk.seen c.args.opened.on_first _ _ _ _ c.in_order-known.result _ _ (ap g.D.Disk.seen is.0) (ap g.D.Disk.seen is.1) c.in_order-known.ensures o.len o.second_len in
    record { current = it.0; other = it.1 }
