-- Laws of a group that is lost: which calls are lost with it, and what they would have come to.
use Rattle.std.specs.Prelude.{ℕ, ◌≡◌, ◌≤◌, true, false, Some, List, [], ◌∷◌, ◌++◌, length}
use Rattle.std.specs.List.{AllByRecursion}
use Rattle.xa_codes.specs.declared.codes.TheConstants.{XAER_RMFAIL}
use Rattle.xa_record.specs.declared.record.Record.{Record}
use Rattle.xa_model.specs.declared.event.Event.{Event}
use Rattle.xa_model.specs.declared.outcome.Appending.{Appending}
use Rattle.xa_model.specs.declared.outcome.Outcome.TheVariants.{Appended, Joined}
use Rattle.xa_model.specs.State.{State, Up, Down}
use Rattle.xa_model.specs.Answer.{Answer, plain, answer}
use Rattle.xa_model.specs.Turn.{Asked, Appends, Joins}
use Rattle.xa_model.specs.Logging.{applied, lost, lost_too, supposed, takes_more, is_boot}
use Rattle.xa_model.specs.Restarting.{survived}
use Rattle.xa_model.specs.Step.{turn, respond, asked}
use Rattle.xa_model.specs.Events.{IsEvent}
use Rattle.xa_model.specs.History.{Entry, HasGroups}
use Rattle.xa_model.specs.Invariants.Loggable.{IsRecoverable, MayBeLast}

-- What is known of a call that may be lost with a group: it is refused as any is by a manager that is down, or its
-- record is the one that it would append once all that were lost before it were kept, and may be the last then.
pub record IsLostToo (s : State) (e : Event) (refused : Answer) (r : Record) (lost : Answer) : Type 0 where
  pub standing : s.standing ≡ Down
  pub takes_more : takes_more s.open_records ≡ true
  pub refuses : refused ≡ answer (plain XAER_RMFAIL) s
  pub loses : lost ≡ lost_too s r
  pub recovers : IsRecoverable (supposed s)
  pub after : Appending → Answer
  pub appends : turn (supposed s) (Asked e) ≡ Appends r after
  pub last : MayBeLast (supposed s) r
  pub of_group : is_boot r ≡ false

abbrev pub JoinsLast : Type 0
JoinsLast =
    (s : State) (e : Event) (refused lost : Answer) (r : Record) → IsEvent e → IsRecoverable s
    → turn s (Asked e) ≡ Joins refused r lost → IsLostToo s e refused r lost

-- and each call that would append one is
abbrev pub JoinsEach : Type 0
JoinsEach =
    (s : State) (e : Event) (r : Record) (after : Appending → Answer) → s.standing ≡ Down
    → takes_more s.open_records ≡ true
    → turn (supposed s) (Asked e) ≡ Appends r after
    → turn s (Asked e) ≡ Joins (answer (plain XAER_RMFAIL) s) r (lost_too s r)

-- What the state of a lost group would have come to, is what its records do one after another.
abbrev pub SupposedFirst : Type 0
SupposedFirst =
    (s : State) (r : Record) → s.standing ≡ Up → s.open_records ≡ [] → supposed (lost s r).after ≡ applied r s

abbrev pub SupposedNext : Type 0
SupposedNext = (s : State) (r : Record) → supposed (lost_too s r).after ≡ applied r (supposed s)

-- A look may find the first of the open records, as many as there are.
abbrev pub FindsFirst : Type 0
FindsFirst = (s : State) (k : ℕ) → k ≤ length s.open_records → (t : State) × (survived s k ≡ Some t)

-- Each record that joined stands in the group of one that didn't, after which all joined, and became what that became:
-- so what is refused and what is lost in a group reports the one device call of its first entry.
pub record IsGroup (entries : List Entry) (appending : Appending) : Type 0 where
  pub earlier : List Entry
  pub first : Entry
  pub joined : List Entry
  pub whole : entries ≡ earlier ++ first ∷ joined
  pub appended : first.outcome ≡ Appended appending
  pub each : AllByRecursion (λ e. e.outcome ≡ Joined appending) joined

abbrev pub GroupsShare : Type 0
GroupsShare =
    (before later : List Entry) (entry : Entry) (appending : Appending) → HasGroups (before ++ entry ∷ later)
    → entry.outcome ≡ Joined appending → IsGroup before appending

-- A manager that is up, and one whose open records take no more, answer as they would alone.
abbrev pub TurnsUp : Type 0
TurnsUp = (s : State) (e : Event) → s.standing ≡ Up → turn s (Asked e) ≡ respond s e

abbrev pub TurnsAlone : Type 0
TurnsAlone =
    (s : State) (e : Event) → takes_more s.open_records ≡ false → turn s (Asked e) ≡ asked s.standing (respond s e)
