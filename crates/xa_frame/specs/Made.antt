-- Replies that carry nothing, a detail, or a body. Their place is 0.
use Rattle.std.specs.Prelude.{ℤ, pos, ◌≡◌}
use Rattle.xa_codes.specs.declared.codes.TheConstants.{XAER_INVAL}
use Rattle.xa_codes.specs.declared.detail.Detail.{Detail}
use Rattle.xa_codes.specs.declared.detail.Detail.TheVariants as detail
use Rattle.xa_frame.specs.declared.reply.Reply.{Reply}
use Rattle.xa_frame.specs.declared.body.Body.{Body}
use Rattle.xa_frame.specs.declared.body.Body.TheVariants as body
use Rattle.xa_frame.specs.declared.status.Status.{Status}

abbrev pub plain : ℤ → Reply
plain code = record { code = code; detail = detail.Nothing; place = 0; body = body.Nothing }

abbrev pub detailed : ℤ → Detail → Reply
detailed code detail = record { code = code; detail = detail; place = 0; body = body.Nothing }

-- a success
abbrev pub carrying : Body → Reply
carrying body = record { code = pos 0; detail = detail.Nothing; place = 0; body = body }

-- how a server is doing
abbrev pub doing : Status → Reply
doing status = carrying (body.Status status)

-- it has no place in a history yet, and carries nothing
abbrev pub IsBare : Reply → Type 0
IsBare reply = (reply.place ≡ 0) × (reply.body ≡ body.Nothing)

-- no request was read: of a frame, that its content doesn't decode or is too long
abbrev pub bad_frame : Reply
bad_frame = detailed XAER_INVAL detail.Frame
