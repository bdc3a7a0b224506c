-- Whether a session has an association, and one with an unmarked branch, which ones a branch's sessions are, and where the
-- log ends.
use Rattle.std.specs.Prelude.{ℕ, zero, suc, ◌≡◌, ◌++◌, Bool, List, [], ◌∷◌, if◌then◌else◌}
use Rattle.std.specs.List.{list_any}
use Rattle.xa_limits.specs.declared.TheConstants.{MOST_SESSIONS}
use Rattle.xa_xid.specs.Triple.{Triple}
use Rattle.xa_model.specs.Associations.{is_of_session}
use Rattle.xa_model.specs.State.{Association, State, Up, owns}
use Rattle.xa_manager.specs.Unmarked.{has_unmarked}
use Rattle.xa_history.specs.Believed.Manages.{Behaviour}
use Rattle.xa_sequencer.specs.Believed.Stands.{HasHistory, Numbered}

-- it is so in each state that the manager stands for
abbrev pub IsAssociated : {M : Type 0} → (M → State → Type 0) → M → ℕ → Bool → Type 0
IsAssociated stands manager session result =
    (s : State) → stands manager s → result ≡ list_any (is_of_session session) s.associations

-- whether one of them is with a branch that isn't marked; while the manager is down none is
abbrev pub IsUnmarked : {M : Type 0} → (M → State → Type 0) → M → ℕ → Bool → Type 0
IsUnmarked stands manager session result = (s : State) → stands manager s → result ≡ has_unmarked session s

-- whether the session has one with this branch
abbrev pub WorksFor : {M : Type 0} → (M → State → Type 0) → M → ℕ → Triple → Bool → Type 0
WorksFor stands manager session xid result =
    (s : State) → stands manager s → result ≡ list_any (owns session xid) s.associations

-- of the sessions up to this number, those that have an association of their own with the branch, ascending
unfoldable pub sessions_up_to : ℕ → Triple → List Association → List ℕ
sessions_up_to zero xid held = []
sessions_up_to (suc n) xid held =
    sessions_up_to n xid held ++ (if list_any (owns (suc n) xid) held then suc n ∷ [] else [])

-- these are the branch's sessions in each state that the manager stands for
abbrev pub AreSessions : {M : Type 0} → (M → State → Type 0) → M → Triple → List ℕ → Type 0
AreSessions stands manager xid sessions =
    (s : State) → stands manager s → sessions ≡ sessions_up_to MOST_SESSIONS xid s.associations

-- the log ends there in each state that is up
abbrev pub IsLogEnd : {M : Type 0} → (M → State → Type 0) → M → ℕ → Type 0
IsLogEnd stands manager result = (s : State) → stands manager s → s.standing ≡ Up → result ≡ s.end

-- There is a sequencer that stood for a history, and by its manager it is so. As of an event, which one is not said.
pub record AssociatedBy {M : Type 0} (m : Behaviour M) (start : State → Type 0) (base : ℕ × ℕ) (session : ℕ) (result : Bool)
    : Type 0 where
  pub asked : Numbered M
  pub history : HasHistory m start base asked
  pub told : IsAssociated m.stands asked.now session result

-- the same of an association with an unmarked branch
pub record UnmarkedBy {M : Type 0} (m : Behaviour M) (start : State → Type 0) (base : ℕ × ℕ) (session : ℕ) (result : Bool)
    : Type 0 where
  pub asked : Numbered M
  pub history : HasHistory m start base asked
  pub told : IsUnmarked m.stands asked.now session result

-- the same of a branch's sessions
pub record AttachedBy {M : Type 0} (m : Behaviour M) (start : State → Type 0) (base : ℕ × ℕ) (xid : Triple) (sessions : List ℕ)
    : Type 0 where
  pub asked : Numbered M
  pub history : HasHistory m start base asked
  pub told : AreSessions m.stands asked.now xid sessions

-- the same of the log's end
pub record EndedBy {M : Type 0} (m : Behaviour M) (start : State → Type 0) (base : ℕ × ℕ) (result : ℕ) : Type 0 where
  pub asked : Numbered M
  pub history : HasHistory m start base asked
  pub told : IsLogEnd m.stands asked.now result
