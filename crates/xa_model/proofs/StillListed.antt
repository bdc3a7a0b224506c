-- What is known to all that a crash may leave stays so until its completion is asked for; what isn't, until a prepare is
-- called.
use Rattle.std.proofs.Common.{◌≡◌, ◌⊎◌, inl, inr, Bool, true, false, List, refl, subst}
use Rattle.std.specs.List.{AllByRecursion}
use Rattle.xa_frame.specs.declared.reply.Reply.{Reply}
use Rattle.xa_record.specs.declared.record.Record.{Record}
use Rattle.xa_record.specs.declared.record.Record.TheVariants as logged
use Rattle.xa_xid.specs.Triple.{Triple, xid_eq}
use Rattle.xa_xid.proofs.Same.{xid_same}
use Rattle.xa_model.specs.State.{State}
use Rattle.xa_model.specs.Durable.{Durable, durable, is_prepared}
use Rattle.xa_model.specs.Fold.{apply}
use Rattle.xa_model.specs.Turn.{Happening}
use Rattle.xa_model.specs.Events.{HaveHappened}
use Rattle.xa_model.specs.History.{Entry, Leads}
use Rattle.xa_model.specs.Invariants.MayLog.{MayLog}
use Rattle.xa_model.specs.Invariants.Loggable.{IsRecoverable}
use Rattle.xa_model.specs.ListedLaw.{IsDone, MayBeDone, AsksCompletion, CallsPrepare, is_completion, is_prepare, is_request}
use Rattle.xa_model.proofs.Fated.{IsFated, Spares, always_fated}
use Rattle.xa_model.proofs.Listing.{is_held, ends, applied_held, applied_free, or_left}
use Rattle.xa_model.proofs.Asking.{IsAsked, asked_to_end, asked_to_prepare, prepares_as}
use Rattle.xa_model.proofs.Behind.{doubt_prepared}

-- known

abbrev pub Holds : Triple → Durable → Type 0
Holds xid d = is_held xid d ≡ true

abbrev pub Asks : Triple → Happening → Reply → Type 0
Asks xid h reply = (is_request (is_completion xid) h ≡ true) × (IsDone reply ⊎ MayBeDone reply)

holds_by : (xid : Triple) (happening : Happening) (s : State) (r : Record) (c : Bool) → ends xid r ≡ c → IsAsked happening r
    → Spares (Holds xid) (Asks xid happening) s r
holds_by xid happening s r true e asked = inr (λ reply done. (asked_to_end xid happening r asked e, done))
holds_by xid happening s r false e asked = inl (λ held. applied_held xid r (durable s) e held)

pub spares_held : (xid : Triple) (happening : Happening) (s : State) (r : Record) → IsRecoverable s → MayLog s r → IsAsked happening r
    → Spares (Holds xid) (Asks xid happening) s r
spares_held xid happening s r h may asked = holds_by xid happening s r (ends xid r) refl asked

-- every history that doesn't ask for its completion keeps it
pub always_kept : (xid : Triple) (first last : State) (entries : List Entry) → HaveHappened entries → IsRecoverable first → Leads first entries last
    → AllByRecursion (λ e. AsksCompletion xid e → ⊥) entries → IsFated (Holds xid) first → IsFated (Holds xid) last
always_kept xid =
    always_fated (Holds xid) (Asks xid) (λ d n held. held) (spares_held xid)

-- not known

abbrev pub Frees : Triple → Durable → Type 0
Frees xid d = is_held xid d ≡ false

abbrev pub Calls : Triple → Happening → Reply → Type 0
Calls xid h reply = is_request (is_prepare xid) h ≡ true

-- the operator decides on what is known
decided_free : (xid x : Triple) (s : State) (r : Record) (c : Bool) → xid_eq x xid ≡ c → IsRecoverable s → is_prepared x (durable s).prepared ≡ true
    → Frees xid (durable s) → (c ≡ false → Frees xid (apply r (durable s))) → Frees xid (apply r (durable s))
decided_free xid x s r true e h held free other =
    let known : is_held xid (durable s) ≡ true = or_left _ _ (subst (λ (y : Triple). is_prepared y (durable s).prepared ≡ true) (xid_same x xid e) held) in
    absurd (cc (known, free))
decided_free xid x s r false e h held free other = other refl

frees_by : (xid : Triple) (s : State) (r : Record) → prepares_as xid r ≡ false → IsRecoverable s → MayLog s r → Frees xid (durable s)
    → Frees xid (apply r (durable s))
frees_by xid s (logged.Opened boot) e h may free = free
frees_by xid s (logged.Prepared x t ws) e h may free = applied_free xid (logged.Prepared x t ws) (durable s) e free
frees_by xid s (logged.Committed x t ws) e h may free = applied_free xid (logged.Committed x t ws) (durable s) refl free
frees_by xid s (logged.Completed x way) e h may free = applied_free xid (logged.Completed x way) (durable s) refl free
frees_by xid s (logged.Decided x way) e h may free =
    let r = logged.Decided x way in
    decided_free xid x s r (xid_eq x xid) refl h (doubt_prepared s x h.sound may) free (λ other. applied_free xid r (durable s) other free)
frees_by xid s (logged.Forgotten x) e h may free = applied_free xid (logged.Forgotten x) (durable s) refl free
frees_by xid s (logged.Base t ws) e h may free = absurd may
frees_by xid s (logged.Held x t ws) e h may free = absurd may
frees_by xid s (logged.Known x way) e h may free = absurd may

spares_by : (xid : Triple) (happening : Happening) (s : State) (r : Record) (c : Bool) → prepares_as xid r ≡ c → IsRecoverable s → MayLog s r
    → IsAsked happening r
    → Spares (Frees xid) (Calls xid happening) s r
spares_by xid happening s r true e h may asked = inr (λ reply done. asked_to_prepare xid happening r asked e)
spares_by xid happening s r false e h may asked = inl (frees_by xid s r e h may)

pub spares_free : (xid : Triple) (happening : Happening) (s : State) (r : Record) → IsRecoverable s → MayLog s r → IsAsked happening r
    → Spares (Frees xid) (Calls xid happening) s r
spares_free xid happening s r h may asked = spares_by xid happening s r (prepares_as xid r) refl h may asked

-- every history without a prepare of it leaves it so
pub always_free : (xid : Triple) (first last : State) (entries : List Entry) → HaveHappened entries → IsRecoverable first → Leads first entries last
    → AllByRecursion (λ e. CallsPrepare xid e → ⊥) entries → IsFated (Frees xid) first → IsFated (Frees xid) last
always_free xid =
    always_fated (Frees xid) (Calls xid) (λ d n free. free) (spares_free xid)
