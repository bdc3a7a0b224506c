-- What a crash leaves at any moment lists what was prepared, and nothing that was completed.
use Rattle.std.proofs.Common.{◌≡◌, false, ap, ◌∙◌}
use Rattle.xa_frame.specs.declared.reply.Reply.{Reply}
use Rattle.xa_model.specs.History.{Entry}
use Rattle.xa_model.specs.ListedLaw.{is_completion, is_prepare, is_request, lists}
use Rattle.xa_model.specs.Laws.Crash.{CrashKeepsPrepared, CrashKeepsCompleted, CrashKeepsSinceBoot, BootLists}
use Rattle.xa_model.proofs.LeftMeanwhile.{run_fated}
use Rattle.xa_model.proofs.Inserts.{all_imply}
use Rattle.xa_model.proofs.Listing.{listed_held}
use Rattle.xa_model.proofs.Preparing.{kept_since, idle_refusals}
use Rattle.xa_model.proofs.StillListed.{Holds, Asks, Frees, Calls, spares_held, spares_free}
use Rattle.xa_model.proofs.Unlisted.{free_since}

pub keeps_prepared : CrashKeepsPrepared
keeps_prepared first h refusals mid before later run prepare xid d happened leads prepared none goes others left =
    let kept = kept_since first mid before later prepare xid h refusals happened leads prepared none in
    let unasked = all_imply (λ (e : Entry). is_request (is_completion xid) e.happening ≡ false)
    (λ (e : Entry). (reply : Reply) → Asks xid e.happening reply → ⊥) (λ e other reply asks. absurd (cc (asks.0, other))) run others in
    listed_held xid d ∙ run_fated (Holds xid) (Asks xid) (λ d n held. held) (spares_held xid) mid run d goes kept.0 unasked kept.1 left

pub keeps_completed : CrashKeepsCompleted
keeps_completed first h mid before later run completion xid d happened leads completed none goes others left =
    let free = free_since first mid before later completion xid h happened leads completed none in
    let uncalled = all_imply (λ (e : Entry). is_request (is_prepare xid) e.happening ≡ false)
    (λ (e : Entry). (reply : Reply) → Calls xid e.happening reply → ⊥) (λ e other reply calls. absurd (cc (calls, other))) run others in
    listed_held xid d ∙ run_fated (Frees xid) (Calls xid) (λ d n free. free) (spares_free xid) mid run d goes free.0 uncalled free.1 left

pub since_boot : CrashKeepsSinceBoot
since_boot d next first h = (keeps_prepared first h.recoverable (idle_refusals first h.idle), keeps_completed first h.recoverable)

pub boot_lists : BootLists
boot_lists d next first xid h = ap (lists xid) h.lasts
