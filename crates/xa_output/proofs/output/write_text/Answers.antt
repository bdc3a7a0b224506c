use Rattle.std.proofs.Common.{◌≡◌, ◌≢◌, ◌==◌, [], Option, List, ℕ, Some, None, true, length, ap, subst, rules}
use Rattle.std.specs.Option.{option_copied}
use Rattle.xa_output.proofs.Pieces.{LeftOf, left_over, more_written, part_written}
use Rattle.xa_output.proofs.output.write_text.Goals as goal

pub loop-preserved : goal.loop-preserved
loop-preserved g c =
    let old = g.W.Write.contents c.loop.writer in
    let new = g.W.Write.contents c.write.new.self in
    let left = left_over c.write.result c.loop.rest.now (option_copied c.left_of.result) old new c.left_of.ensures.taken c.left_of.ensures.none_taken c.left_of.ensures.erred c.write.ensures.bytes in
    let some : option_copied c.left_of.result ≡ Some c.in-Some.left.now = ap option_copied c.in-Some.is in
    more_written c.args.text.now c.loop.rest.now c.in-Some.left.now (g.W.Write.contents c.args.writer.now) old new c.loop.invariant (subst (λ (o : Option (List ℕ)). LeftOf c.loop.rest.now o old new) some left)

pub returns-in-None-clause-part : goal.returns-in-None-clause-part
returns-in-None-clause-part g c = λ _.
    let old = g.W.Write.contents c.loop.writer in
    let new = g.W.Write.contents c.write.new.self in
    let left = left_over c.write.result c.loop.rest.now (option_copied c.left_of.result) old new c.left_of.ensures.taken c.left_of.ensures.none_taken c.left_of.ensures.erred c.write.ensures.bytes in
    let none : option_copied c.left_of.result ≡ None = ap option_copied c.in-None.is in
    let more : c.loop.rest.now ≢ [] = λ e. let empty : (length c.loop.rest.now == 0) ≡ true = ap (λ (xs : List ℕ). length xs == 0) e in cc in
    part_written c.args.text.now c.loop.rest.now (g.W.Write.contents c.args.writer.now) old new c.loop.invariant (subst (λ (o : Option (List ℕ)). LeftOf c.loop.rest.now o old new) none left) more

pub returns-clause-part : goal.returns-clause-part
returns-clause-part g c = search rules
