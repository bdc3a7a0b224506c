use Rattle.std.proofs.Common.{◌≡◌, refl, ◌<◌, ◌∙◌, arith, length, sym, None, Some, Ok}
use Rattle.xa_talk.proofs.Calls.{kept_at, over, over_none, there_at}
use Rattle.xa_codes.specs.declared.codes.TheConstants.{XAER_PROTO}
use Rattle.xa_codes.specs.declared.detail.Detail.TheVariants.{Nothing}
use Rattle.xa_control.specs.declared.answer.Answer.TheVariants.{Refused}
use Rattle.xa_talk.specs.Exchanges.{Tells}
use Rattle.xa_talk.specs.Numbers.{index_of}
use Rattle.xa_talk.proofs.controlling.ask.Goals as goal

pub returns-in-Some-index_mut : goal.returns-in-Some-index_mut
returns-in-Some-index_mut g c =
    let numbered = c.args.connections.now.numbered.items in
    let is : index_of c.args.number ≡ Some c.in-Some.index = sym c.index_of.ensures ∙ c.in-Some.is in
    let within : c.in-Some.index < length numbered = omega (arith, c.if-index-len.false, c.len.ensures, c.args.connections.now.numbered.ok) in
    over (λ k. g.W.Write.contents k.writer) (λ k. g.R.Read.remaining k.reader) c.args.number c.in-Some.index (Tells c.args.control.now) (Refused XAER_PROTO Nothing) c.ask_control.result numbered is
    c.in-Some-index_mut.connection c.ask_control.new.connection
    (there_at numbered c.in-Some.index (Some c.in-Some-index_mut.connection) c.index_mut.result.now within (sym c.index_mut.ensures.value ∙ c.in-Some-index_mut.is)) c.ask_control.ensures

pub returns-in-None : goal.returns-in-None
returns-in-None g c =
    let numbered = c.args.connections.now.numbered.items in
    let is : index_of c.args.number ≡ Some c.in-Some.index = sym c.index_of.ensures ∙ c.in-Some.is in
    let within : c.in-Some.index < length numbered = omega (arith, c.if-index-len.false, c.len.ensures, c.args.connections.now.numbered.ok) in
    let value = sym c.index_mut.ensures.value in
    rw c.unconnected-in-None.ensures
    (over_none (λ k. g.W.Write.contents k.writer) (λ k. g.R.Read.remaining k.reader) c.args.number c.in-Some.index (Tells c.args.control.now) (Refused XAER_PROTO Nothing) (Ok _) numbered is
    _ (there_at numbered c.in-Some.index None c.index_mut.result.now within (value ∙ c.in-None.is)) refl
    (kept_at numbered c.in-Some.index c.index_mut.result.now c.index_mut.result.now within value))
