use Rattle.std.proofs.Common.{arith, ◌∙◌, sym, ap, take, ℕ, Vec, Global}
use Rattle.xa_disk.specs.declared.call.Call.{Call}
use Rattle.xa_disk.specs.Disk.{put}
use Rattle.xa_disk.specs.Replay.{Now, after, replay}
use Rattle.xa_disk.proofs.Replays.{replay_take}
use Rattle.xa_disk.proofs.call.replayed.Goals as goal
use Rattle.xa_disk.proofs.call.replayed.Goals.{in-Write+in_ok-put_bytes-in-Write, in-Sync}

pub loop-call-preserved : goal.loop-call-preserved
loop-call-preserved c =
    let more = replay_take c.args.first.now c.args.calls.now c.loop-call.call-index c.call-item.result (omega arith) c.call-item.is in
    let before = replay c.args.first.now (take c.loop-call.call-index c.args.calls.now) in
    elim c.match-call.branch [
      | in-Write+in_ok-put_bytes-in-Write w ↦
          let m = more ∙ ap (λ (x : Call). after x before) w.in-Write.is in
          ap (λ (b : Vec ℕ Global). b.items) w.bytes-is ∙ w.in_ok-put_bytes-in-Write.ensures.ok
          ∙ (λ i. put (c.loop-call.invariant i) w.in-Write.at (w.deref.ensures.value i))
          ∙ sym (ap (λ (s : Now). s.seen) m)
      | in-Sync w ↦
          let m = more ∙ ap (λ (x : Call). after x before) w.in-Sync.is in
          ap (λ (b : Vec ℕ Global). b.items) w.bytes-is ∙ c.loop-call.invariant ∙ sym (ap (λ (s : Now). s.seen) m)
    ]
