-- What tells nothing of whether a manager is down.
use Rattle.std.proofs.Common.{◌≡◌, Bool, true, false, None, ℤ, refl}
use Rattle.std.specs.Prelude.{if◌then◌else◌}
use Rattle.std.specs.Ordering.{int_eq}
use Rattle.xa_assoc.specs.Refusals.{is_memory}
use Rattle.xa_codes.specs.declared.codes.TheConstants.{XA_OK, XAER_RMFAIL}
use Rattle.xa_codes.specs.declared.detail.Detail.{Detail}
use Rattle.xa_codes.specs.declared.detail.Detail.TheVariants as detail
use Rattle.xa_frame.specs.declared.reply.Reply.{Reply}
use Rattle.xa_reactor.specs.Believed.Down.{cause_by, downs_in, news_by, tells_down, up_by}

neither : (x y : Bool) → downs_in (news_by (if x then None else None) (if y then None else None)) ≡ None
neither true true = refl
neither true false = refl
neither false true = refl
neither false false = refl

by_detail : (is_restart : Bool) (code : ℤ) (d : Detail) → is_memory d ≡ true
    → downs_in (news_by (if int_eq code XAER_RMFAIL then cause_by is_restart d else None) (if int_eq code XA_OK then up_by is_restart d else None)) ≡ None
by_detail true code detail.Memory h = neither (int_eq code XAER_RMFAIL) (int_eq code XA_OK)
by_detail false code detail.Memory h = neither (int_eq code XAER_RMFAIL) (int_eq code XA_OK)
by_detail is_restart code detail.Nothing h = absurd (cc h)
by_detail is_restart code detail.Device h = absurd (cc h)
by_detail is_restart code detail.Busy h = absurd (cc h)
by_detail is_restart code detail.Late h = absurd (cc h)
by_detail is_restart code detail.Limit h = absurd (cc h)
by_detail is_restart code detail.Frame h = absurd (cc h)
by_detail is_restart code detail.LogFull h = absurd (cc h)
by_detail is_restart code detail.Access h = absurd (cc h)

-- a call for which there is no memory
pub memory_tells : (is_restart : Bool) (reply : Reply) → is_memory reply.detail ≡ true → tells_down is_restart reply ≡ None
memory_tells is_restart reply h = by_detail is_restart reply.code reply.detail h
