-- Which histories a sequencer stands for. None of them is kept: what it has is its manager, and their length.
use Rattle.std.specs.Prelude.{ℕ, ◌≡◌, ◌-◌, ◌^◌, List, ◌++◌, length}
use Rattle.xa_model.specs.State.{State}
use Rattle.xa_history.specs.declared.entry.Entry.{Entry}
use Rattle.xa_history.specs.Believed.Manages.{Behaviour}
use Rattle.xa_history.specs.Believed.Promises.{Promises}
use Rattle.xa_history.specs.Believed.Upholds.{Upholds}

-- what a contract sees of a sequencer: its manager as it is now, and how many events it has numbered
pub record Numbered (M : Type 0) : Type 0 where
  pub now : M
  pub count : ℕ

-- the greatest number there is
abbrev pub most_numbers : ℕ
most_numbers = 2 ^ 64 - 1

-- These entries are a history that it stands for: they are this many, and all that a room keeps of its book is true
-- of them. From each starting state they are a legal history to one that the manager stands for, they report no more
-- failures than were counted since then, and they are numbered from 1. Numbers are left for the hang-up of each
-- connected session, as in a room places are.
pub record Stands {M : Type 0} (m : Behaviour M) (start : State → Type 0) (base : ℕ × ℕ) (c : Numbered M)
    (entries : List Entry) : Type 0 where
  pub upholds : Upholds m start base c.now entries most_numbers
  pub count_is : c.count ≡ length entries

-- it stands for some history
abbrev pub HasHistory : {M : Type 0} → Behaviour M → (State → Type 0) → ℕ × ℕ → Numbered M → Type 0
HasHistory m start base c = (entries : List Entry) × Stands m start base c entries

-- whichever history it stood for, it stands for that with these entries after it
abbrev pub GoesOn : {M : Type 0} → Behaviour M → (State → Type 0) → ℕ × ℕ → Numbered M → List Entry → Numbered M → Type 0
GoesOn m start base old more new =
    (entries : List Entry) → Stands m start base old entries → Stands m start base new (entries ++ more)

-- each history that it stands for keeps what a room's book promises
abbrev pub AllPromise : {M : Type 0} → Behaviour M → (State → Type 0) → ℕ × ℕ → Numbered M → Type 0
AllPromise m start base c =
    (entries : List Entry) → Stands m start base c entries → Promises m start c.now entries

-- ---- law

-- what goes on twice goes on with the entries of both
abbrev pub GoesOnTwice : {M : Type 0} → Behaviour M → (State → Type 0) → ℕ × ℕ → Type 0
GoesOnTwice {M} m start base =
    (a b c : Numbered M) (first second : List Entry) → GoesOn m start base a first b → GoesOn m start base b second c
    → GoesOn m start base a (first ++ second) c
