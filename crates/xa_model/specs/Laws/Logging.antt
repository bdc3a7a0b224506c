-- Laws of what is logged: it is what lasts.
use Rattle.std.specs.Prelude.{ℕ, ◌≡◌, ◌+◌, Bool, true, false, Ok, List, [], ◌∷◌, ◌++◌, IfSome, take}
use Rattle.xa_record.specs.declared.record.Record.{Record}
use Rattle.xa_record.specs.declared.record.Record.TheVariants as logged
use Rattle.xa_model.specs.declared.event.Event.{Event}
use Rattle.xa_model.specs.declared.outcome.Appending.TheVariants.{Kept, Refused, Lost}
use Rattle.xa_model.specs.State.{State, Up}
use Rattle.xa_model.specs.Invariants.Sound.{IsSound}
use Rattle.xa_model.specs.Durable.{Durable, durable}
use Rattle.xa_model.specs.Fold.{Reading, apply, fold, reading, unread, is_timely}
use Rattle.xa_model.specs.Answer.{ok}
use Rattle.xa_model.specs.Turn.{Turn, Now, Appends, Checkpoints, Rereads, Rereading, Stops, Opens}
use Rattle.xa_model.specs.Step.{respond}
use Rattle.xa_model.specs.Events.{begins_boot}
use Rattle.xa_model.specs.Logging.{applied, lost}
use Rattle.xa_model.specs.Invariants.MayLog.{MayLog}
use Rattle.xa_model.specs.Invariants.Loggable.{IsRecoverable}
use Rattle.xa_model.specs.Restarting.{fates, survived, restart_turn, reopen_turn}
use Rattle.xa_model.specs.Trimming.{trim_turn}

-- what a record does keeps a state sound
abbrev pub KeepsSoundApplied : Type 0
KeepsSoundApplied = (s : State) (r : Record) → IsSound s → MayLog s r → IsSound (applied r s)

-- and does to what would last what it does to what the log's records come to
abbrev pub AppliedLasts : Type 0
AppliedLasts = (s : State) (r : Record) → IsSound s → MayLog s r → durable (applied r s) ≡ apply r (durable s)

-- its timestamp, if it has one, is a new one
abbrev pub is_in_time : Record → Reading → Bool
is_in_time (logged.Prepared xid t ws) x = is_timely t x
is_in_time (logged.Committed xid t ws) x = is_timely t x
is_in_time _ x = true

-- it fits after records that come to what the state would leave, if it comes in time
abbrev pub AppliedFits : Type 0
AppliedFits =
    (s : State) (rs : List Record) (r : Record) → IsSound s → fold rs ≡ Ok (durable s) → MayLog s r
    → is_in_time r (reading unread rs) ≡ true
    → fold (rs ++ r ∷ []) ≡ Ok (durable (applied r s))

-- What events log

-- if nothing more is logged, the state is sound, and the same lasts
pub record KeepsLog (s t : State) : Type 0 where
  pub sound : IsSound t
  pub lasts : durable t ≡ durable s
  pub end : t.end ≡ s.end
  pub boot : t.boot ≡ s.boot
  pub logged_boot : t.logged_boot ≡ s.logged_boot
  pub open_records : t.open_records ≡ s.open_records
  pub standing : t.standing ≡ s.standing

-- what is answered at once logs nothing; a record that is kept does what it says, one that is refused nothing, and one
-- that is lost is the open one
abbrev pub LogsWhatLasts : State → Turn → Type 0
LogsWhatLasts s (Now a) = KeepsLog s a.after
LogsWhatLasts s (Appends r after) =
    MayLog s r × (after Kept ≡ ok (applied r s)) × KeepsLog s (after Refused).after × (after Lost ≡ lost s r)
LogsWhatLasts s _ = ⊥

abbrev pub EventsLogWhatLasts : Type 0
EventsLogWhatLasts = (s : State) (e : Event) → IsSound s → begins_boot e ≡ false → LogsWhatLasts s (respond s e)

-- Restarts, openings and trims

-- the new boot began, with what lasts of the state
pub record Boots (s : State) (next : ℕ) (t : State) : Type 0 where
  pub recoverable : IsRecoverable t
  pub lasts : durable t ≡ record (durable s) { boot = next }
  pub boot : t.boot ≡ next
  pub up : t.standing ≡ Up
  pub settled : t.open_records ≡ []

-- it didn't: the same may last
pub record Fails (s t : State) : Type 0 where
  pub recoverable : IsRecoverable t
  pub fates : fates t ≡ fates s

-- its record was lost
pub record IsInDoubt (s : State) (r : Record) (t : State) : Type 0 where
  pub recoverable : IsRecoverable t
  pub lasts : durable t ≡ durable s
  pub open_records : t.open_records ≡ r ∷ []

abbrev pub BootLasts : State → Rereading → Type 0
BootLasts s (Stops a) = Fails s a.after
BootLasts s (Opens r after) =
    (r ≡ logged.Opened (s.logged_boot + 1)) × Boots s (s.logged_boot + 1) (after Kept).after
    × Fails s (after Refused).after
    × IsInDoubt s r (after Lost).after

-- what the records come to, one after another
abbrev pub apply_all : List Record → Durable → Durable
apply_all [] d = d
apply_all (r ∷ rs) d = apply_all rs (apply r d)

-- a look that failed leaves all fates; otherwise the first k of the open records
-- did what they say, and the new boot begins with that
abbrev pub SettlesWhatLasts : State → Turn → Type 0
SettlesWhatLasts s (Rereads failed found) =
    Fails s failed.after
    × ((k : ℕ)
    → IfSome (survived s k)
    (λ t. (durable t ≡ apply_all (take k s.open_records) (durable s)) × IfSome (found k) (BootLasts t)))
SettlesWhatLasts s _ = ⊥

abbrev pub RestartLasts : Type 0
RestartLasts = (s : State) → IsRecoverable s → SettlesWhatLasts s (restart_turn s)

abbrev pub ReopenLasts : Type 0
ReopenLasts =
    (s : State) (name : List ℕ) (log_bytes : ℕ) → IsRecoverable s → SettlesWhatLasts s (reopen_turn s name log_bytes)

-- a trim that is refused leaves what it was; otherwise it is like a boot that begins once no record's fate is unknown
abbrev pub BeginsWhatLasts : State → Turn → Type 0
BeginsWhatLasts s (Now a) = Fails s a.after
BeginsWhatLasts s (Checkpoints r after) = BootLasts s (Opens r after) × (s.open_records ≡ [])
BeginsWhatLasts s _ = ⊥

abbrev pub TrimLasts : Type 0
TrimLasts = (s : State) → IsRecoverable s → s.standing ≡ Up → BeginsWhatLasts s (trim_turn s)
