use Rattle.std.proofs.Common.{◌≡◌, ◌<◌, ◌∙◌, arith, length, sym, Some}
use Rattle.xa_talk.proofs.Calls.{end_answered}
use Rattle.xa_talk.specs.Numbers.{index_of}
use Rattle.xa_talk.proofs.answer.end.Goals as goal

pub returns : goal.returns
returns g c =
    let numbered = c.args.connections.now.numbered.items in
    let is : index_of c.args.number ≡ Some c.in-Some.index = sym c.index_of.ensures ∙ c.in-Some.is in
    let within : c.in-Some.index < length numbered = omega (arith, c.if-index-len.false, c.len.ensures, c.args.connections.now.numbered.ok) in
    end_answered (λ k. g.W.Write.contents k.writer) (λ k. g.R.Read.remaining k.reader) c.args.number c.in-Some.index c.end_over.result numbered is
    c.index_mut.result.now c.end_over.new.connection c.index_mut.result.now within (sym c.index_mut.ensures.value) c.end_over.ensures
