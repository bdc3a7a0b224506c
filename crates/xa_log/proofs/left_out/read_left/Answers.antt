use Rattle.std.proofs.Common.{◌≡◌, ◌∙◌, ◌+◌, List, ℕ, subst, sym, ap, length, drop, refl, arith, length-drop, cond}
use Rattle.xa_log.specs.Reading.{Finds, bodies_of}
use Rattle.xa_log.specs.Believed.Chain.{bodies_from, digest, is_record}
use Rattle.xa_log.proofs.Left.{is_left}
use Rattle.xa_log.proofs.left_out.read_left.Goals as goal

pub returns-in_err-bodies-clause-fetched : goal.returns-in_err-bodies-clause-fetched
returns-in_err-bodies-clause-fetched g c begin f = c.in_err-bodies.ensures.fetched begin (c.args.len + 1048576) (c.in_ok-first.ensures.fetched begin f)

pub returns-clause-left : goal.returns-clause-left
returns-clause-left g c h long it =
    let file : List ℕ = g.D.Disk.seen c.args.disk.now in
    let shown = c.args.shown in
    let end : ℕ = c.args.at + (36 + c.len-distance.result) in
    let far : 36 + c.len-distance.result ≡ 36 + length shown.body.items = omega arith in
    let same : g.D.Disk.seen c.next_on_either.new.disk ≡ file = c.in_ok-first.ensures.same h in
    let on : List ℕ = cond (is_record c.args.format shown.stored (drop end file)) shown.stored c.digest_of-computed.result in
    let finds = c.in_ok-first.ensures.finds h long it.1.caches in
    let bodies = subst (λ f. bodies_of c.in_ok-bodies.bodies.items ≡ bodies_from c.args.format (length (drop c.args.at file)) on (drop end f)) same
    (c.in_ok-bodies.ensures.value on (length (drop c.args.at file)) h (long ∙ ap (λ (f : List ℕ). length f) (sym same)) (omega (arith, long, length-drop c.args.at file))
    (subst (λ f. Finds c.args.format on f end c.next_on_either.new.window c.in_ok-first.first) (sym same) finds)) in
    is_left c.args.format file c.args.window.now c.args.prev.now c.digest_of-computed.result c.args.at end (36 + c.len-distance.result) shown it
    (c.digest_of-computed.ensures ∙ ap (λ (l : List ℕ). digest c.args.prev.now l) c.deref.ensures.value) far refl
    (record { distance = 36 + c.len-distance.result; bodies = c.in_ok-bodies.bodies }) refl bodies

pub returns-clause-fetched : goal.returns-clause-fetched
returns-clause-fetched g c begin f = c.in_ok-bodies.ensures.fetched begin (c.args.len + 1048576) (c.in_ok-first.ensures.fetched begin f)
