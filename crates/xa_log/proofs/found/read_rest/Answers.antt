use Rattle.std.proofs.Common.{arith, ◌∙◌, ◌≡◌, ◌+◌, ◌-◌, ◌≤◌, List, ℕ, take, drop, ap, length, refl}
use Rattle.xa_log.proofs.Cached.{cached_slice}
use Rattle.xa_log.proofs.Pieces.{length-part, filled}
use Rattle.xa_log.proofs.found.read_rest.Goals as goal

pub returns-clause-read : goal.returns-clause-read
returns-clause-read g c h caches front =
    let file : List ℕ = g.D.Disk.seen c.args.disk.now in
    let left : ℕ = length c.args.body.now - c.args.done in
    let from : ℕ = c.args.at + c.args.done in
    let begin : ℕ = from - c.in_ok-span.span.from in
    let covers = c.in_ok-span.ensures.covers in
    let fits : begin + left ≤ length c.fill.new.window = omega (arith, covers.reaches, covers.begins, c.in_ok-span.ensures.held, c.fill.auto.window, c.requires.room) in
    let long : length c.overlay.new.buffer ≡ c.args.done + left = omega arith in
    let n : c.args.done + left ≡ length c.args.body.now = omega arith in
    filled file c.args.body.now c.overlay.new.buffer _ c.args.at c.args.done left long (length-part c.fill.new.window begin left fits)
    (cached_slice file c.fill.new.window c.in_ok-span.span from left begin _ refl (omega arith) (c.in_ok-span.ensures.caches h caches) (record { begins = covers.begins; reaches = omega (arith, covers.reaches) }))
    c.overlay.ensures front
    ∙ ap (λ (k : ℕ). take k (drop c.args.at file)) n
