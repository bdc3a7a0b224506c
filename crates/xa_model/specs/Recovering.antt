-- Recover: a session's scan over what recovery lists.
use Rattle.std.specs.Prelude.{ℕ, ◌==◌, pos, Option, Some, None, List, [], ◌∷◌, length, option_and_then, if◌then◌else◌}
use Rattle.xa_codes.specs.Flags.{has}
use Rattle.xa_codes.specs.declared.codes.TheConstants.{XAER_INVAL}
use Rattle.xa_codes.specs.declared.detail.Detail.TheVariants as detail
use Rattle.xa_codes.specs.declared.flags.TheConstants.{TMSTARTRSCAN, TMENDRSCAN}
use Rattle.xa_frame.specs.declared.reply.Reply.{Reply}
use Rattle.xa_frame.specs.declared.body.Body.TheVariants as body
use Rattle.xa_xid.specs.Triple.{Triple}
use Rattle.xa_model.specs.State.{State, Session, session_of, change}
use Rattle.xa_model.specs.Answer.{Answer, plain, answer}
use Rattle.xa_model.specs.Durable.{durable}
use Rattle.xa_model.specs.Listed.{list_after}

-- the cursor of the session's scan, if one is open
abbrev pub scan_of : List Session → ℕ → Option (Option Triple)
scan_of sessions n = option_and_then (λ x. x.scan) (session_of sessions n)

-- the cursor that a recovery goes on from: TMSTARTRSCAN opens a scan before all XIDs
abbrev pub scan_from : ℕ → Option (Option Triple) → Option (Option Triple)
scan_from flags scan = if has flags TMSTARTRSCAN then Some None else scan

-- the cursor stands at the last XID that was listed
abbrev pub moved : Option Triple → List Triple → Option Triple
moved cursor [] = cursor
moved cursor (xid ∷ xids) = moved (Some xid) xids

-- the scan after the call, which TMENDRSCAN ends
abbrev pub scan_after : ℕ → Option Triple → List Triple → Option (Option Triple)
scan_after flags cursor xids = if has flags TMENDRSCAN then None else Some (moved cursor xids)

abbrev pub with_scan : Option (Option Triple) → Session → Session
with_scan scan x = record x { scan = scan }

abbrev pub scanning : State → ℕ → Option (Option Triple) → State
scanning s n scan = record s { sessions = change (λ x. x.number == n) (with_scan scan) s.sessions }

-- the code of a recovery is how many XIDs it lists
abbrev pub listing : List Triple → Reply
listing xids = record { code = pos (length xids); detail = detail.Nothing; place = 0; body = body.Xids xids }

-- the first `count` XIDs above the cursor, of those in doubt and those that the operator completed
abbrev pub recovered : State → ℕ → ℕ → ℕ → Option Triple → Answer
recovered s n flags count cursor =
    let xids = list_after cursor count (durable s) in
    answer (listing xids) (scanning s n (scan_after flags cursor xids))

abbrev pub recovered_from : State → ℕ → ℕ → ℕ → Option (Option Triple) → Answer
recovered_from s n flags count None = answer (plain XAER_INVAL) s
recovered_from s n flags count (Some cursor) = recovered s n flags count cursor

-- without an open scan it has to begin one
abbrev pub recover_by : State → ℕ → ℕ → ℕ → Answer
recover_by s n flags count = recovered_from s n flags count (scan_from flags (scan_of s.sessions n))
