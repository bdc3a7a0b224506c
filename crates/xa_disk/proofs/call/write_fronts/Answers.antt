use Rattle.std.proofs.Common.{◌≡◌, ◌+◌, ◌-◌, ◌∷◌, ◌∙◌, sym, ap, arith, drop, length, ℕ, List, Vec, Global}
use Rattle.std.proofs.lemmas.List.{at_drop_more}
use Rattle.xa_disk.specs.declared.call.Call.{Call}
use Rattle.xa_disk.specs.Keeping.{put_front, put_fronts}
use Rattle.xa_disk.proofs.call.write_fronts.Goals as goal
use Rattle.xa_disk.proofs.call.write_fronts.Goals.{in-Write+in_ok-left-in-Write, in-Sync}

pub loop-call-preserved : goal.loop-call-preserved
loop-call-preserved c =
    let calls : List Call = c.args.calls.now in
    let i : ℕ = c.loop-call.call-index in
    let call : Call = c.call-item.result in
    let left : ℕ = c.loop-call.left in
    let old : List ℕ = c.loop-call.bytes.items in
    let rest : List Call = drop (i + 1) calls in
    let all : List ℕ = put_fronts c.args.k c.args.bytes.now.items calls in
    let now : put_fronts left old (call ∷ rest) ≡ all =
    ap (λ (x : Call). put_fronts left old (x ∷ rest)) c.call-item.is
    ∙ sym (at_drop_more (λ (l : List Call). put_fronts left old l) calls i call (omega arith))
    ∙ c.loop-call.invariant in
    elim c.match-call.branch [
      | in-Write+in_ok-left-in-Write w ↦
          let more : List ℕ = w.in-Write.from.items in
          let less : c.match-call.left ≡ left - length more =
          w.left-is ∙ w.in_ok-left-in-Write.ensures.left ∙ ap (λ (l : List ℕ). left - length l) w.deref.ensures.value in
          let written : c.match-call.bytes.items ≡ put_front left old w.in-Write.at more =
          ap (λ (b : Vec ℕ Global). b.items) w.bytes-is ∙ w.in_ok-left-in-Write.ensures.front
          ∙ ap (λ (l : List ℕ). put_front left old w.in-Write.at l) w.deref.ensures.value in
          ap (λ (n : ℕ). put_fronts n c.match-call.bytes.items rest) less
          ∙ ap (λ (b : List ℕ). put_fronts (left - length more) b rest) written
          ∙ ap (λ (x : Call). put_fronts left old (x ∷ rest)) (sym w.in-Write.is)
          ∙ now
      | in-Sync w ↦
          ap (λ (n : ℕ). put_fronts n c.match-call.bytes.items rest) w.left-is
          ∙ ap (λ (b : Vec ℕ Global). put_fronts left b.items rest) w.bytes-is
          ∙ ap (λ (x : Call). put_fronts left old (x ∷ rest)) (sym w.in-Sync.is)
          ∙ now
    ]
