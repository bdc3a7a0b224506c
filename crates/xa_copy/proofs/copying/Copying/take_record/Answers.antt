use Rattle.std.proofs.Common.{◌≡◌, ◌+◌, ◌-◌, ◌<◌, ◌∙◌, refl, ap, arith, List, ℕ, length, take, drop}
use Rattle.std.proofs.lemmas.Grind.{get_or_default_zero}
use Rattle.std.specs.Vec.{with_items}
use Rattle.xa_copy.proofs.Taking.{filled, takes_by}
use Rattle.xa_copy.proofs.copying.Copying.take_record.Goals as goal

pub returns-in-Some-clause-takes : goal.returns-in-Some-clause-takes
returns-in-Some-clause-takes g c chains =
    let begin : ℕ = c.args.self.now.gather.pending in
    let n : begin + (36 + c.args.size) - begin ≡ 36 + c.args.size = omega arith in
    let buffer = c.args.self.now.gather.buffer in
    let long : length c.read_part.new.buffer ≡ length buffer.items = c.read_part.auto.buffer ∙ ap (λ (l : List ℕ). length l) c.deref_mut.ensures.value in
    let is : (with_items buffer c.read_part.new.buffer).items ≡ c.read_part.new.buffer = filled buffer c.read_part.new.buffer long in
    let room = c.requires.room in
    let inside : begin + 4 < length (with_items buffer c.read_part.new.buffer).items = omega (arith, long, ap (λ (l : List ℕ). length l) is, room) in
    takes_by g.S.Source.honest c.args.at c.args.size (begin + (36 + c.args.size) - begin) (g.S.Source.state c.read_part.new.source) c.args.self.now _ _ n
    (ap (λ (l : List ℕ). take (begin + (36 + c.args.size) - begin) (drop begin l)) c.deref.ensures.value) c.in-Some.ensures.chains c.requires.some c.requires.small
    c.read_part.new.buffer is
    (c.in_ok-read_part.ensures.front ∙ ap (λ (l : List ℕ). take begin l) c.deref_mut.ensures.value)
    (λ h. c.in_ok-read_part.ensures.read h c.if-not-branch.false) refl refl refl refl
    c.index-kind.result.now (c.index-kind.ensures ∙ get_or_default_zero (with_items buffer c.read_part.new.buffer).items (begin + 4) c.index-kind.result.now inside)
    c.still_snapshot-self.ensures
