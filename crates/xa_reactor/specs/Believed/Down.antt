-- Whether a manager is down, by replies, and why.
use Rattle.std.specs.Prelude.{ℕ, Bool, true, false, nat_le, Option, Some, None, if◌then◌else◌}
use Rattle.std.specs.Ordering.{int_eq}
use Rattle.xa_codes.specs.declared.codes.TheConstants.{XA_OK, XAER_RMFAIL}
use Rattle.xa_codes.specs.declared.detail.Detail.{Detail}
use Rattle.xa_codes.specs.declared.detail.Detail.TheVariants as detail
use Rattle.xa_frame.specs.declared.reply.Reply.{Reply}
use Rattle.xa_reactor.specs.declared.cause.Cause.{Cause}
use Rattle.xa_reactor.specs.declared.cause.Cause.TheVariants as cause
use Rattle.xa_reactor.specs.declared.cause.News.{News}
use Rattle.xa_reactor.specs.declared.cause.News.TheVariants.{Down, Up}
use Rattle.xa_reactor.specs.declared.seen.Seen.{Seen}

-- by the detail of XAER_RMFAIL, to a Restart or to another call
abbrev pub cause_by : Bool → Detail → Option Cause
cause_by false detail.Device = Some cause.Lost
cause_by true detail.Device = Some cause.Device
cause_by true detail.Nothing = Some cause.Log
cause_by true detail.LogFull = Some cause.Full
cause_by true detail.Limit = Some cause.Boots
cause_by is_restart d = None

abbrev pub cause_of : Bool → Reply → Option Cause
cause_of is_restart reply = if int_eq reply.code XAER_RMFAIL then cause_by is_restart reply.detail else None

-- a Restart that succeeds has no detail
abbrev pub up_by : Bool → Detail → Option News
up_by true detail.Nothing = Some Up
up_by is_restart d = None

abbrev pub news_by : Option Cause → Option News → Option News
news_by (Some why) up = Some (Down why)
news_by None up = up

-- What a reply tells of the manager, to a Restart or to another call: it is down from now on; it is up, as a Restart
-- succeeded; or neither.
abbrev pub news_of : Bool → Reply → Option News
news_of is_restart reply =
    news_by (cause_of is_restart reply) (if int_eq reply.code XA_OK then up_by is_restart reply.detail else None)

abbrev pub is_downs : News → Bool
is_downs (Down why) = true
is_downs Up = false

abbrev pub downs_in : Option News → Option Bool
downs_in None = None
downs_in (Some news) = Some (is_downs news)

-- whether it is down by a reply, if that tells
abbrev pub tells_down : Bool → Reply → Option Bool
tells_down is_restart reply = downs_in (news_of is_restart reply)

-- ---- what was seen, by the one of the replies that stands last in the history

abbrev pub seen_at : ℕ → Bool → Seen
seen_at place is_down = record { place = place; is_down = is_down }

abbrev pub unseen : Seen
unseen = seen_at 0 false

abbrev pub after_told : Seen → ℕ → Option Bool → Seen
after_told s place None = s
after_told s place (Some is_down) = if nat_le s.place place then seen_at place is_down else s

abbrev pub after_reply : Seen → Bool → Reply → Seen
after_reply s is_restart reply = after_told s reply.place (tells_down is_restart reply)

-- of two the one that stands last
abbrev pub last_of : Seen → Seen → Seen
last_of s t = if nat_le s.place t.place then t else s
