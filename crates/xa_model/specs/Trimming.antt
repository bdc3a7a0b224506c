-- Trim: a boot begins while the manager is up, and all work goes on.
use Rattle.std.specs.Prelude.{ℕ, ◌+◌, nat_lt, not, Option, [], ◌∷◌}
use Rattle.xa_codes.specs.declared.codes.TheConstants.{XAER_RMERR}
use Rattle.xa_codes.specs.declared.detail.Detail.TheVariants as detail
use Rattle.xa_frame.specs.declared.body.Body.TheVariants.{Number}
use Rattle.xa_frame.specs.declared.reply.Reply.{Reply}
use Rattle.xa_limits.specs.declared.TheConstants.{MOST_TRIM_BOOTS}
use Rattle.xa_record.specs.declared.record.Record.TheVariants as logged
use Rattle.xa_model.specs.declared.outcome.Appending.{Appending}
use Rattle.xa_model.specs.declared.outcome.Appending.TheVariants.{Kept}
use Rattle.xa_model.specs.State.{State}
use Rattle.xa_model.specs.Answer.{Answer, carrying, detailed, answer, first}
use Rattle.xa_model.specs.Turn.{Turn, Checkpoints, unless_now}
use Rattle.xa_model.specs.Logging.{snapshot_end, append_became}
use Rattle.xa_model.specs.Restarting.{can_open}

-- it takes no boot that is kept for restarts, and a log that leaves no room for its snapshot isn't trimmed
abbrev pub trim_refusal : State → Option Reply
trim_refusal s =
    first (
    (not (nat_lt s.logged_boot MOST_TRIM_BOOTS), detailed XAER_RMERR detail.Limit)
    ∷ (not (can_open s s.log_bytes (s.logged_boot + 1)), detailed XAER_RMERR detail.LogFull)
    ∷ [])

-- Sessions, associations, scans, branches at work with their marks and limits, and reads stay. Timestamps go on above
-- all before, since the boot is greater.
abbrev pub trimmed : State → ℕ → State
trimmed s boot = record s { boot = boot; given = 0; logged_boot = boot; end = snapshot_end s boot }

-- it is answered where the log ends now; a snapshot that was refused leaves all as it was
abbrev pub trim_became : State → ℕ → Appending → Answer
trim_became s boot Kept = answer (carrying (Number (snapshot_end s boot))) (trimmed s boot)
trim_became s boot other = append_became s (logged.Opened boot) XAER_RMERR s other

abbrev pub trim_turn : State → Turn
trim_turn s =
    unless_now (trim_refusal s) s
    (Checkpoints (logged.Opened (s.logged_boot + 1)) (trim_became s (s.logged_boot + 1)))
