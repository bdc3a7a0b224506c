use Rattle.std.proofs.Common.{arith, refl}
use Rattle.std.proofs.lemmas.Result.{err_from_is_err_and}
use Rattle.xa_desk.proofs.Talking.{talks-unread, talks-too-long, talks-unsent, talks-lacking, talks-answered}
use Rattle.xa_desk.proofs.connection.exchange.Goals as goal

pub returns-in_err-length : goal.returns-in_err-length
returns-in_err-length g c =
    let p = err_from_is_err_and c.from_residual.result c.from_residual.ensures.1 in
    rw (p.1, p.2) (talks-unread _ _ _ _ _ _ c.in_err-length.ensures)

pub returns-in_err-send : goal.returns-in_err-send
returns-in_err-send g c =
    let p = err_from_is_err_and c.from_residual-in_err-send.result c.from_residual-in_err-send.ensures.1 in
    rw (p.1, p.2)
    (talks-unsent _ _ c.bad_frame.result _ _ _ _ _ c.in_ok-length.length c.bad_frame.ensures
    (c.if-is_too_long.ensures.long refl) (omega arith) c.in_ok-length.ensures c.in_err-send.ensures)

pub returns-then-is_too_long : goal.returns-then-is_too_long
returns-then-is_too_long g c =
    talks-too-long _ c.bad_frame.result _ _ _ _ _ c.in_ok-length.length c.bad_frame.ensures
    (c.if-is_too_long.ensures.long refl) (omega arith) c.in_ok-length.ensures c.in_ok-send.ensures

pub returns-in_err-content : goal.returns-in_err-content
returns-in_err-content g c =
    let p = err_from_is_err_and c.from_residual-in_err-content.result c.from_residual-in_err-content.ensures.1 in
    rw (p.1, p.2)
    (talks-lacking _ _ _ _ _ _ _ c.in_ok-length.length (c.if-is_too_long.ensures.fits refl) c.in_ok-length.ensures c.in_err-content.ensures.ends)

pub returns : goal.returns
returns g c =
    talks-answered _ c.send-2.result _ _ _ _ _ _ _ c.in_ok-length.length c.in_ok-content.content.items c.as_slice.result.now c.answer-reply.result
    (c.if-is_too_long.ensures.fits refl) c.in_ok-length.ensures c.in_ok-content.ensures.read.0 c.in_ok-content.ensures.read.1
    c.as_slice.ensures.value c.answer-reply.ensures.answers c.send-2.ensures
