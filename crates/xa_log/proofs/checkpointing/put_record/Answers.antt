use Rattle.std.proofs.Common.{◌≡◌, List, ℕ, ◌+◌, ◌-◌, ◌∙◌, ap, arith, ◌≤◌, ◌++◌, take, drop, replicate, length, subst, sym, length-drop}
use Rattle.std.proofs.lemmas.List.{length-take}
use Rattle.xa_disk.specs.Disk.{put, Torn}
use Rattle.xa_disk.specs.Images.{put_torn}
use Rattle.xa_log.specs.Believed.Checkpoint.{tailed}
use Rattle.xa_log.proofs.Tail.{tail_slice}
use Rattle.xa_log.proofs.checkpointing.put_record.Goals as goal

pub returns-clause-written : goal.returns-clause-written
returns-clause-written g c h =
    let at = c.args.at in
    let skip : c.saturating_sub-skip.result ≡ 12 - at = omega (arith, c.saturating_sub-skip.ensures) in
    let offset : c.max.result ≡ at + (12 - at) = omega (arith, c.max.ensures) in
    let m : ℕ = 36 + length c.args.body.now + c.args.zeros - (12 - at) in
    let whole : (12 - at) + m ≡ 36 + length c.args.body.now + c.args.zeros = omega arith in
    let cleared : take (36 + length c.args.body.now + c.args.zeros) c.clear.new.buffer ≡ take (36 + length c.args.body.now) c.encode-digest.new.buffer ++ replicate c.args.zeros 0 =
    c.clear.ensures in
    let bytes : take m (drop (12 - at) c.clear.new.buffer) ≡ drop (12 - at) (tailed c.args.prev.now c.args.body.now c.args.zeros) =
    tail_slice c.args.prev.now c.args.body.now c.encode-digest.new.buffer c.clear.new.buffer c.args.zeros (12 - at) m c.encode-digest.ensures.text cleared whole in
    c.in_ok-write_at.ensures.written h
    ∙ (λ i. put (g.D.Disk.seen c.args.disk.now) (offset i) (take (36 + length c.args.body.now + c.args.zeros - skip i) (drop (skip i) c.clear.new.buffer)))
    ∙ ap (λ (l : List ℕ). put (g.D.Disk.seen c.args.disk.now) (at + (12 - at)) l) bytes

pub returns-clause-torn : goal.returns-clause-torn
returns-clause-torn g c h =
    let at = c.args.at in
    let n : ℕ = 36 + length c.args.body.now + c.args.zeros - (12 - at) in
    let long : length c.clear.new.buffer ≡ length c.args.buffer.now = omega (arith, c.encode-digest.auto.buffer, c.clear.auto.buffer) in
    let room : 36 + length c.args.body.now + c.args.zeros ≤ length c.clear.new.buffer =
    omega (arith, long, c.requires.room, c.requires.zeros) in
    let skip : c.saturating_sub-skip.result ≡ 12 - at = omega (arith, c.saturating_sub-skip.ensures) in
    let offset : c.max.result ≡ at + (12 - at) = omega (arith, c.max.ensures) in
    let bytes : List ℕ =
    take (36 + length c.args.body.now + c.args.zeros - c.saturating_sub-skip.result) (drop c.saturating_sub-skip.result c.clear.new.buffer) in
    let size : length bytes ≡ n =
    omega (
      arith,
      skip,
      room,
      length-take (36 + length c.args.body.now + c.args.zeros - c.saturating_sub-skip.result)
          (drop c.saturating_sub-skip.result c.clear.new.buffer),
      length-drop c.saturating_sub-skip.result c.clear.new.buffer,
    ) in
    subst (λ f. Torn (at + (12 - at)) n (g.D.Disk.seen c.args.disk.now) f) (sym (c.in_ok-write_at.ensures.written h))
    (subst (λ p. Torn p n (g.D.Disk.seen c.args.disk.now) (put (g.D.Disk.seen c.args.disk.now) c.max.result bytes)) offset
    (subst (λ k. Torn c.max.result k (g.D.Disk.seen c.args.disk.now) (put (g.D.Disk.seen c.args.disk.now) c.max.result bytes)) size
    (put_torn (g.D.Disk.seen c.args.disk.now) c.max.result bytes)))
