use Rattle.std.proofs.Common.{◌≡◌, [], ap, sym, subst, refl, List, ℕ}
use Rattle.std.proofs.lemmas.Result.{err_from_is_err_and}
use Rattle.xa_output.specs.Output.{IsPart}
use Rattle.xa_output.proofs.Pieces.{nothing_appended}
use Rattle.xa_play.specs.Played.{printed}
use Rattle.xa_play.proofs.play.write_reply.Goals as goal

pub returns-in_default : goal.returns-in_default
returns-in_default g c = ([], nothing_appended (g.W.Write.contents c.args.writer.now), sym (ap printed c.in_default.is))

pub returns-in_err-text : goal.returns-in_err-text
returns-in_err-text g c =
    let p = err_from_is_err_and c.from_residual.result c.from_residual.ensures.1 in
    rw (p.1, p.2) ([], nothing_appended (g.W.Write.contents c.args.writer.now), refl)

pub returns-then-write_text : goal.returns-then-write_text
returns-then-write_text g c =
    let shown : c.in_ok-text.text.items ≡ printed c.args.reply = rw c.in-Some.is c.in_ok-text.ensures in
    (c.in_ok-text.text.items, rw (← c.as_slice.ensures.value) (c.write_text.ensures.whole c.if-write_text.true), shown)

pub returns : goal.returns
returns g c =
    let shown : c.in_ok-text.text.items ≡ printed c.args.reply = rw c.in-Some.is c.in_ok-text.ensures in
    let cut = c.write_text.ensures.part c.if-write_text.false in
    let part = subst (λ (text : List ℕ). IsPart cut.0 text) c.as_slice.ensures.value cut.1 in
    (cut.0, cut.2, subst (λ (text : List ℕ). IsPart cut.0 text) shown part)
