-- What calls that are asked together do to a sequencer.
use Rattle.std.specs.Prelude.{ℕ, ◌≡◌, ◌+◌, List, [], ◌∷◌, length, map}
use Rattle.std.specs.List.{AllByRecursion}
use Rattle.xa_frame.specs.declared.reply.Reply.{Reply}
use Rattle.xa_manager.specs.Believed.Counted.{RiseBy, failures_in}
use Rattle.xa_manager.specs.declared.together.Asked.{Asked}
use Rattle.xa_model.specs.History.{Leads}
use Rattle.xa_model.specs.State.{State}
use Rattle.xa_model.specs.declared.outcome.Appending.{Appending}
use Rattle.xa_model.specs.declared.outcome.Outcome.{Outcome}
use Rattle.xa_model.specs.declared.outcome.Outcome.TheVariants.{Appended, Joined}
use Rattle.xa_history.specs.Believed.Book.{entry_of, placed, plain_entries}
use Rattle.xa_history.specs.Believed.Manages.{Behaviour, Stays}
use Rattle.xa_history.specs.Believed.Together.{IsToldOf, event_at, events_of}
use Rattle.xa_history.specs.declared.entry.Entry.{Entry}
use Rattle.xa_sequencer.specs.Believed.Stands.{GoesOn, Numbered}

-- the entry of a call with its reply, which has its place
abbrev pub entry_for : List Asked → Outcome → ℕ × Reply → Entry
entry_for calls outcome told = entry_of told.1.place (event_at calls told.0) outcome told.1

-- those of a group if this became of its records: the first tells what the device did, and each further one joined it
abbrev pub entries_for : List Asked → Appending → ℕ × Reply → List (ℕ × Reply) → List Entry
entries_for calls appending r rs = entry_for calls (Appended appending) r ∷ map (entry_for calls (Joined appending)) rs

-- the replies have the places after k, in their order
abbrev pub ArePlaced : ℕ → List (ℕ × Reply) → Type 0
ArePlaced k [] = Unit {0}
ArePlaced k (r ∷ rs) = (r.1.place ≡ k + 1) × ArePlaced (k + 1) rs

-- the same replies, with the places after k
abbrev pub placed_from : ℕ → List (ℕ × Reply) → List (ℕ × Reply)
placed_from k [] = []
placed_from k (r ∷ rs) = (r.0, placed (k + 1) r.1) ∷ placed_from (k + 1) rs

-- The calls that were replied are further entries, in the order of their replies, which have the next numbers: a group
-- whose records became this.
pub record AddsTogether {M : Type 0} (m : Behaviour M) (start : State → Type 0) (base : ℕ × ℕ) (old : Numbered M)
    (calls : List Asked) (r : ℕ × Reply) (rs : List (ℕ × Reply)) (appending : Appending) (new : Numbered M)
    : Type 0 where
  pub told : AllByRecursion (IsToldOf calls) (r ∷ rs)
  pub places : ArePlaced old.count (r ∷ rs)
  pub count : new.count ≡ old.count + length (r ∷ rs)
  pub goes_on : GoesOn m start base old (entries_for calls appending r rs) new
  pub leads : (s : State) → m.stands old.now s
      → (t : State) × Leads s (plain_entries (entries_for calls appending r rs)) t × m.stands new.now t
  pub called : (s : State) → m.stands old.now s → m.has_called (event_at calls r.0) (Appended appending) old.now new.now
  pub crash : m.crashes_together (events_of calls (r ∷ rs)) old.now new.now
  pub counted : (s : State) → m.stands old.now s
      → RiseBy (failures_in (Appended appending)) (m.failures old.now) (m.failures new.now)

-- no call was answered, and what backs the manager stays
pub record Rests {M : Type 0} (m : Behaviour M) (start : State → Type 0) (base : ℕ × ℕ) (old new : Numbered M)
    : Type 0 where
  pub count : new.count ≡ old.count
  pub goes_on : GoesOn m start base old [] new
  pub stays : Stays m.stands old.now new.now

-- calls were asked together, with these replies to some of them
abbrev pub CalledTogether : {M : Type 0} → Behaviour M → (State → Type 0) → ℕ × ℕ → Numbered M → List Asked
    → List (ℕ × Reply) → Numbered M → Type 0
CalledTogether m start base old calls [] new = Rests m start base old new
CalledTogether m start base old calls (r ∷ rs) new =
    (appending : Appending) × AddsTogether m start base old calls r rs appending new
