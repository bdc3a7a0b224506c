use Rattle.std.proofs.Common.{◌≡◌, ◌∙◌, ◌+◌, List, ℕ, subst, sym, ap, length, drop, refl, arith, length-drop}
use Rattle.xa_log.specs.Believed.Chain.{bodies_from}
use Rattle.xa_log.specs.Believed.LeftOut.{with_size}
use Rattle.xa_log.specs.Reading.{Finds, bodies_of}
use Rattle.xa_log.proofs.Fetch.{any_reach, some_within}
use Rattle.xa_log.proofs.Left.{mended_left}
use Rattle.xa_log.proofs.Mend.{length-with}
use Rattle.xa_log.proofs.left_out.read_mended.Goals as goal

pub returns-clause-left : goal.returns-clause-left
returns-clause-left g c prev h long caches it =
    let file : List ℕ = g.D.Disk.seen c.args.disk.now in
    let mended = c.args.mended.now in
    let x : List ℕ = drop c.args.at file in
    let w : List ℕ = with_size mended.size x in
    let end : ℕ = c.args.at + (36 + mended.size) in
    let same : g.D.Disk.seen c.next_record.new.disk ≡ file = c.in_ok-first.ensures.same h in
    let finds = c.in_ok-first.ensures.finds h long caches in
    let many : length w ≡ length x = length-with mended.size x (omega (arith, long, length-drop c.args.at file)) in
    let bodies = subst (λ f. bodies_of c.in_ok-bodies.bodies.items ≡ bodies_from c.args.format (length w) mended.digest (drop end f)) same
    (c.in_ok-bodies.ensures.value mended.digest (length w) h (long ∙ ap (λ (f : List ℕ). length f) (sym same)) (omega (arith, long, many, length-drop c.args.at file))
    (subst (λ f. Finds c.args.format mended.digest f end c.next_record.new.window c.in_ok-first.first) (sym same) finds)) in
    mended_left c.args.format file prev c.args.at end mended (record { distance = 36 + mended.size; bodies = c.in_ok-bodies.bodies }) c.requires.small it refl refl bodies

pub returns-in_err-first-clause-fetched : goal.returns-in_err-first-clause-fetched
returns-in_err-first-clause-fetched g c begin f =
    some_within _ _ _ _ (c.in_err-first.ensures.fetched begin (c.args.len + 1048576) f (any_reach _ _ c.args.len _ _ f.within c.requires.within))

pub returns-in_err-bodies-clause-fetched : goal.returns-in_err-bodies-clause-fetched
returns-in_err-bodies-clause-fetched g c begin f =
    c.in_err-bodies.ensures.fetched begin (c.args.len + 1048576) (c.in_ok-first.ensures.fetched begin (c.args.len + 1048576) f (any_reach _ _ c.args.len _ _ f.within c.requires.within))

pub returns-clause-fetched : goal.returns-clause-fetched
returns-clause-fetched g c begin f =
    c.in_ok-bodies.ensures.fetched begin (c.args.len + 1048576) (c.in_ok-first.ensures.fetched begin (c.args.len + 1048576) f (any_reach _ _ c.args.len _ _ f.within c.requires.within))
