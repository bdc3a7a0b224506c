use Rattle.std.proofs.Common.{◌≡◌, ◌+◌, [], ◌∷◌, ◌++◌, arith, ◌∙◌, sym, ap, take, drop, ℕ, List}
use Rattle.std.proofs.lemmas.List.{take_more, drop-append-le, drop_all, length-take}
use Rattle.xa_disk.specs.declared.call.Call.{Call}
use Rattle.xa_disk.specs.declared.call.Call.TheVariants.{Write}
use Rattle.xa_disk.specs.Replay.{Now, after, replay}
use Rattle.xa_disk.specs.Keeping.{unsynced}
use Rattle.xa_disk.proofs.Replays.{replay_take}
use Rattle.xa_disk.proofs.Keeping.{unsynced_write, unsynced_sync}
use Rattle.xa_disk.proofs.call.stable_end.Goals as goal
use Rattle.xa_disk.proofs.call.stable_end.Goals.{in-Sync, in-Write}

pub loop-i-preserved : goal.loop-i-preserved
loop-i-preserved c =
    let more : (first : List ℕ) → replay first (take (c.loop-i.i + 1) c.args.calls.now) ≡ after c.index-calls-i.result (replay first (take c.loop-i.i c.args.calls.now)) =
    λ first. replay_take first c.args.calls.now c.loop-i.i c.index-calls-i.result (omega arith) c.index-calls-i.is in
    let calls = c.args.calls.now in
    let i = c.loop-i.i in
    let call = c.index-calls-i.result in
    let one_more : take (i + 1) calls ≡ take i calls ++ call ∷ [] =
    take_more calls i call (omega arith) ∙ ap (λ (x : Call). take i calls ++ x ∷ []) (sym c.index-calls-i.is) in
    elim c.match-call.branch [
      | in-Sync w ↦ (
        omega arith,
        λ first.
            let m = more first ∙ ap (λ (x : Call). after x (replay first (take c.loop-i.i c.args.calls.now))) w.in-Sync.is in
            ap (λ (s : Now). s.stable) m ∙ sym (ap (λ (s : Now). s.seen) m) ∙ ap (λ (k : ℕ). (replay first (take k c.args.calls.now)).seen) (sym w.end-is),
        ap (λ (l : List Call). unsynced [] l) (one_more ∙ ap (λ (x : Call). take i calls ++ x ∷ []) w.in-Sync.is)
            ∙ unsynced_sync [] (take i calls)
            ∙ sym (drop_all (i + 1) (take (i + 1) calls) (omega (arith, length-take (i + 1) calls)))
            ∙ ap (λ (k : ℕ). drop k (take (i + 1) calls)) (sym w.end-is),
      )
      | in-Write w ↦ (
        omega (arith, c.loop-i.invariant.0),
        λ first.
            let m = more first ∙ ap (λ (x : Call). after x (replay first (take c.loop-i.i c.args.calls.now))) w.in-Write.is in
            ap (λ (s : Now). s.stable) m ∙ c.loop-i.invariant.1 first ∙ ap (λ (k : ℕ). (replay first (take k c.args.calls.now)).seen) (sym w.end-is),
        let written : take (i + 1) calls ≡ take i calls ++ Write w.in-Write.field-0 w.in-Write.field-1 ∷ [] =
            one_more ∙ ap (λ (x : Call). take i calls ++ x ∷ []) w.in-Write.is in
            ap (λ (l : List Call). unsynced [] l) written
            ∙ unsynced_write [] (take i calls) w.in-Write.field-0 w.in-Write.field-1
            ∙ ap (λ (l : List Call). l ++ Write w.in-Write.field-0 w.in-Write.field-1 ∷ []) c.loop-i.invariant.2
            ∙ sym (drop-append-le c.loop-i.end (take i calls) (Write w.in-Write.field-0 w.in-Write.field-1 ∷ []) (omega (arith, c.loop-i.invariant.0, length-take i calls, c.loop-i-test.true)))
            ∙ ap (λ (l : List Call). drop c.loop-i.end l) (sym written)
            ∙ ap (λ (k : ℕ). drop k (take (i + 1) calls)) (sym w.end-is),
      )
    ]
