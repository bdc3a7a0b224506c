use Rattle.std.proofs.Common.{rules, ◌≡◌, ◌+◌, ◌≤◌, ◌∙◌, ◌++◌, ◌∷◌, [], List, ℕ, length, take, sym, ap, arith}
use Rattle.xa_log.specs.Believed.Chain.{last}
use Rattle.xa_log.specs.Believed.Group.{closed}
use Rattle.xa_log.specs.Reading.{bodies_of}
use Rattle.xa_log.proofs.GroupSteps.{next, bytes_next, within, step_text}
use Rattle.xa_log.proofs.Records.{last_more}
use Rattle.xa_log.proofs.Steps.{body_ok}
use Rattle.xa_log.proofs.group.encode_group.Goals as goal

pub encode_at-digest-requires-clause-room : goal.encode_at-digest-requires-clause-room
encode_at-digest-requires-clause-room c =
    let l = c.loop-body in
    omega (arith, within c.args.bodies.now l.body-index c.body-item.result c.loop-body-test.true c.body-item.is, ap length c.deref.ensures.value, l.invariant.at, l.invariant.room, c.requires.room)

pub encode_at-digest-requires-clause-small : goal.encode_at-digest-requires-clause-small
encode_at-digest-requires-clause-small c =
    let l = c.loop-body in
    let ok : length c.body-item.result.items ≤ 8388608 = body_ok (λ b. length b ≤ 8388608) c.args.bodies.now l.body-index c.body-item.result c.loop-body-test.true c.body-item.is c.requires.small in
    omega (arith, ok, ap length c.deref.ensures.value)

pub loop-body-preserved : goal.loop-body-preserved
loop-body-preserved c =
    let l = c.loop-body in
    let prev = c.args.prev.now in
    let body = c.deref.result.now in
    let done = take l.body-index (bodies_of c.args.bodies.now) in
    let size : c.len.result ≡ length c.deref.result.now = omega (arith, c.len.ensures, c.deref.ensures.len, c.deref.ensures.value) in
    let its : take (c.loop-body.body-index + 1) (bodies_of c.args.bodies.now) ≡ take c.loop-body.body-index (bodies_of c.args.bodies.now) ++ c.deref.result.now ∷ [] =
    next c.args.bodies.now l.body-index c.body-item.result c.loop-body-test.true c.body-item.is ∙ ap (λ (b : List ℕ). take l.body-index (bodies_of c.args.bodies.now) ++ b ∷ []) (sym c.deref.ensures.value) in
    let n : c.loop-body.at + (36 + c.len.result) + 4 ≡ c.loop-body.at + (36 + length c.deref.result.now) + 4 = omega (arith, size) in
    record {
      room = search rules;
      at = omega (arith, size, ap length c.deref.ensures.value, l.invariant.at, bytes_next c.args.bodies.now l.body-index c.body-item.result c.loop-body-test.true c.body-item.is);
      digest = c.encode_at-digest.ensures.digest ∙ (λ i. Rattle.xa_log.specs.Believed.Chain.digest (l.invariant.digest i) body) ∙ sym (last_more prev done body) ∙ ap (λ (x : List (List ℕ)). last prev x) (sym its);
      text = ap (λ (k : ℕ). take k c.encode_at-digest.new.buffer) n
          ∙ step_text prev done body l.buffer c.encode_at-digest.new.buffer l.digest l.at l.invariant.at l.invariant.digest l.invariant.text c.encode_at-digest.ensures.text
          ∙ ap (λ (x : List (List ℕ)). closed prev x) (sym its);
    }
