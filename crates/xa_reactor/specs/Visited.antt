-- What became of a Trim, or a Tick, by its reply.
use Rattle.std.specs.Prelude.{◌≡◌, false, Some, None, Result, Ok, Err, if◌then◌else◌}
use Rattle.std.specs.Ordering.{int_eq}
use Rattle.xa_assoc.specs.declared.fault.ConnectFault.{ConnectFault}
use Rattle.xa_assoc.specs.declared.fault.ConnectFault.TheVariants as fault
use Rattle.xa_codes.specs.declared.codes.TheConstants.{XA_OK, XAER_INVAL, XAER_RMERR, XAER_RMFAIL}
use Rattle.xa_codes.specs.declared.detail.Detail.{Detail}
use Rattle.xa_codes.specs.declared.detail.Detail.TheVariants as detail
use Rattle.xa_frame.specs.declared.body.Body.{Body}
use Rattle.xa_frame.specs.declared.body.Body.TheVariants as body
use Rattle.xa_frame.specs.declared.reply.Reply.{Reply}
use Rattle.xa_frame.specs.Made.{bad_frame, carrying, detailed}
use Rattle.xa_reactor.specs.Believed.Down.{cause_of}
use Rattle.xa_reactor.specs.declared.cause.Cause.TheVariants.{Lost}
use Rattle.xa_reactor.specs.declared.visited.Reason.TheVariants as reason
use Rattle.xa_reactor.specs.declared.visited.Visited.{Visited}
use Rattle.xa_reactor.specs.declared.visited.Visited.TheVariants.{Done, Refused, Down}

-- a success that carries a number
abbrev pub done_by : Body → Visited
done_by (body.Number n) = Done n
done_by _ = Refused (reason.Other XA_OK)

-- a refusal that left the manager up
abbrev pub refused_for : Detail → Visited
refused_for detail.Limit = Refused reason.Boots
refused_for detail.LogFull = Refused reason.Full
refused_for detail.Device = Refused reason.Device
refused_for _ = Refused (reason.Other XAER_RMERR)

-- for want of memory, or of a manager that is down
abbrev pub failed_for : Detail → Visited
failed_for detail.Memory = Refused reason.Memory
failed_for _ = Down

-- a moment before the last one, or none of ours
abbrev pub invalid_for : Detail → Visited
invalid_for detail.Nothing = Refused reason.Clock
invalid_for _ = Refused (reason.Other XAER_INVAL)

abbrev pub replied : Reply → Visited
replied reply =
    if int_eq reply.code XA_OK then done_by reply.body
    else (if int_eq reply.code XAER_RMERR then refused_for reply.detail
    else (if int_eq reply.code XAER_RMFAIL then failed_for reply.detail
    else (if int_eq reply.code XAER_INVAL then invalid_for reply.detail else Refused (reason.Other reply.code))))

abbrev pub visited_by : Result Reply ConnectFault → Visited
visited_by (Ok reply) = replied reply
visited_by (Err fault.Memory) = Refused reason.Memory
visited_by (Err fault.Full) = Refused reason.Sessions

-- ---- worked rows

-- A trim that was made, with the log's end. The four that were refused, and one that doesn't decode. One that was lost, and of
-- which the watch tells that a record was; and one of a manager that was down.
pub record VisitRows : Type 0 where
  pub done : replied (carrying (body.Number 4315)) ≡ Done 4315
  pub boots : replied (detailed XAER_RMERR detail.Limit) ≡ Refused reason.Boots
  pub full : replied (detailed XAER_RMERR detail.LogFull) ≡ Refused reason.Full
  pub device : replied (detailed XAER_RMERR detail.Device) ≡ Refused reason.Device
  pub memory : replied (detailed XAER_RMFAIL detail.Memory) ≡ Refused reason.Memory
  pub unknown : replied bad_frame ≡ Refused (reason.Other XAER_INVAL)
  pub lost : (replied (detailed XAER_RMFAIL detail.Device) ≡ Down)
      × (cause_of false (detailed XAER_RMFAIL detail.Device) ≡ Some Lost)
  pub down : (replied (detailed XAER_RMFAIL detail.Nothing) ≡ Down)
      × (cause_of false (detailed XAER_RMFAIL detail.Nothing) ≡ None)
  -- a tick that marked three branches, and one whose clock went back
  pub marked : replied (carrying (body.Number 3)) ≡ Done 3
  pub clock : replied (detailed XAER_INVAL detail.Nothing) ≡ Refused reason.Clock
