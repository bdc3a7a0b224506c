-- Every event but a restart keeps a state sound, whatever the device did.
use Rattle.std.proofs.Common.{◌≡◌, false, [], ◌∷◌, ◌++◌, subst, sym}
use Rattle.xa_record.specs.declared.record.Record.{Record}
use Rattle.xa_model.specs.declared.event.Event.{Event}
use Rattle.xa_model.specs.declared.outcome.Appending.{Appending}
use Rattle.xa_model.specs.declared.outcome.Appending.TheVariants.{Kept, Refused, Lost}
use Rattle.xa_model.specs.State.{State}
use Rattle.xa_model.specs.Answer.{Answer}
use Rattle.xa_model.specs.Turn.{Asked, Turn, Nobody, Now, Appends, Checkpoints, Rereads, Joins}
use Rattle.xa_model.specs.Step.{respond, asked, turn, further_record}
use Rattle.xa_model.specs.Events.{begins_boot}
use Rattle.xa_model.specs.Invariants.Sound.{IsSound}
use Rattle.xa_model.specs.Laws.Logging.{LogsWhatLasts}
use Rattle.xa_model.specs.Laws.{KeepsSound}
use Rattle.xa_model.proofs.AppliedDecisions.{applied_sound}
use Rattle.xa_model.proofs.Stopped.{down_sound}
use Rattle.xa_model.proofs.LoggedEvents.{events_log_what_lasts}
use Rattle.xa_model.proofs.Parts.{sound_beside}
use Rattle.xa_model.proofs.Replies.{AllOf, taken_all, asked_all, joins_all}

-- each answer leaves a sound state
abbrev pub IsSoundTurn : Turn → Type 0
IsSoundTurn (Now a) = IsSound a.after
IsSoundTurn (Appends r after) = (x : Appending) → IsSound (after x).after
IsSoundTurn _ = ⊥

appended_sound : (s : State) (r : Record) (after : Appending → Answer) → IsSound s → LogsWhatLasts s (Appends r after)
    → (x : Appending) → IsSound (after x).after
appended_sound s r after h logs Kept = subst (λ (a : Answer). IsSound a.after) (sym logs.1) (applied_sound s r h logs.0)
appended_sound s r after h logs Refused = logs.2.sound
appended_sound s r after h logs Lost = subst (λ (a : Answer). IsSound a.after) (sym logs.3) (down_sound s (r ∷ []) h)

logged_sound : (s : State) (t : Turn) → IsSound s → LogsWhatLasts s t → IsSoundTurn t
logged_sound s Nobody h logs = logs
logged_sound s (Now a) h logs = logs.sound
logged_sound s (Appends r after) h logs = appended_sound s r after h logs
logged_sound s (Checkpoints r after) h logs = logs
logged_sound s (Rereads failed found) h logs = logs
logged_sound s (Joins refused r lost) h logs = logs

pub respond_sound : (s : State) (e : Event) → IsSound s → begins_boot e ≡ false → IsSoundTurn (respond s e)
respond_sound s e h other = logged_sound s (respond s e) h (events_log_what_lasts s e h other)

all_sound : (t : Turn) → IsSoundTurn t → AllOf (λ a. IsSound a.after) t
all_sound Nobody h = absurd h
all_sound (Now a) h = h
all_sound (Appends r after) h = h
all_sound (Checkpoints r after) h = absurd h
all_sound (Rereads failed found) h = absurd h
all_sound (Joins refused r lost) h = absurd h

pub step_sound : KeepsSound
step_sound s event o b h other e =
    let Q = λ (a : Answer). IsSound a.after in
    taken_all Q (turn s (Asked event)) o b
    (joins_all Q s (further_record s event) (asked s.standing (respond s event))
    (asked_all Q s.standing (respond s event) (all_sound (respond s event) (respond_sound s event h other)))
    (λ r found. sound_beside s s.reads s.logged_boot s.end s.standing (s.open_records ++ r ∷ []) s.moment h)) e
