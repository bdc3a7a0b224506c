-- One copy: the committed branches, executed one at a time in the order of their timestamps, read what they read.
use Rattle.std.specs.Prelude.{ℕ, ◌≡◌, ◌+◌, ◌<◌, ◌≤◌, true, Ok, Option, Some, None, List, [], ◌∷◌, bytes_eq, length, if◌then◌else◌}
use Rattle.std.specs.List.{AllByRecursion}
use Rattle.xa_record.specs.Limits.{IsRecord}
use Rattle.xa_record.specs.declared.record.Record.{Record}
use Rattle.xa_xid.specs.Triple.{Triple}
use Rattle.xa_model.specs.declared.outcome.Outcome.{Outcome}
use Rattle.xa_model.specs.Answer.{Answer}
use Rattle.xa_model.specs.Ranges.{Range, holds}
use Rattle.xa_model.specs.State.{State, Branch, Operation, Got, Walked, Wrote, Up, committed_of, known_of, is_working, timestamp_of}
use Rattle.xa_limits.specs.declared.TheConstants.{MOST_BOOTS}
use Rattle.xa_model.specs.Invariants.Sound.{Descends, most_known}
use Rattle.xa_model.specs.Data.{Sees, value_among, walked}
use Rattle.xa_model.specs.Durable.{Durable}
use Rattle.xa_model.specs.Fold.{fold}
use Rattle.xa_model.specs.Restarting.{opening}
use Rattle.xa_model.specs.Events.{HaveHappened, IsHappening}
use Rattle.xa_model.specs.History.{Entry, Leads, fresh}
use Rattle.xa_model.specs.Turn.{Happening}
use Rattle.xa_model.specs.Step.{step}
use Rattle.xa_model.specs.Invariants.Loggable.{IsRecoverable}

-- what each key has; an absent key has nothing
abbrev pub Map : Type 0
Map = List ℕ → Option (List ℕ)

-- the map after these operations, the newest of which comes first
abbrev pub after : List Operation → Map → Map
after [] map key = map key
after (Got k answer source ∷ older) map key = after older map key
after (Walked range found ∷ older) map key = after older map key
after (Wrote k value ∷ older) map key = if bytes_eq k key then value else after older map key

-- executed alone on the map, each get finds what it was answered, and each walk just the records of its range that it was
-- answered
abbrev pub FindsAnswers : List Operation → Map → Type 0
FindsAnswers [] map = Unit {0}
FindsAnswers (Got k answer source ∷ older) map = (after older map k ≡ answer) × FindsAnswers older map
FindsAnswers (Walked range found ∷ older) map =
    ((key : List ℕ) → holds range key ≡ true → after older map key ≡ value_among key found) × FindsAnswers older map
FindsAnswers (Wrote k value ∷ older) map = FindsAnswers older map

-- what branches leave that are executed from the last of the list to the first, on a map that has nothing
abbrev pub map_after : List Branch → Map
map_after [] key = None
map_after (b ∷ older) key = after b.operations (map_after older) key

abbrev pub IsOneCopy : List Branch → Type 0
IsOneCopy [] = Unit {0}
IsOneCopy (b ∷ older) = FindsAnswers b.operations (map_after older) × IsOneCopy older

-- the committed branches stand by timestamp, the greatest first, and are one copy
abbrev pub HasOneCopy : State → Type 0
HasOneCopy s =
    Descends (timestamp_of s.boot s.given + 1) (committed_of s.branches) × IsOneCopy (committed_of s.branches)

-- nobody was answered a read
abbrev pub HasNoGet : List Operation → Type 0
HasNoGet [] = Unit {0}
HasNoGet (Got k answer source ∷ older) = ⊥
HasNoGet (Walked range found ∷ older) = ⊥
HasNoGet (Wrote k value ∷ older) = HasNoGet older

-- the same at each place of a history that begins without reads
abbrev pub AlwaysOneCopy : Type 0
AlwaysOneCopy =
    (first last : State) (entries : List Entry) → IsRecoverable first
    → AllByRecursion (λ b. HasNoGet b.operations) first.branches
    → HaveHappened entries → Leads first entries last → HasOneCopy last

-- as a new manager's does
abbrev pub FreshOneCopy : Type 0
FreshOneCopy =
    (name : List ℕ) (log_bytes : ℕ) (last : State) (entries : List Entry) → HaveHappened entries → Leads
    (fresh name log_bytes) entries last → HasOneCopy last

-- and that of one that was opened on a log's records
abbrev pub OpenedOneCopy : Type 0
OpenedOneCopy =
    (rs : List Record) (d : Durable) (name : List ℕ) (log_bytes : ℕ) (last : State)
    (entries : List Entry) → AllByRecursion IsRecord rs → fold rs ≡ Ok d
    → d.boot < MOST_BOOTS → length d.prepared + length d.decided ≤ most_known
    → HaveHappened entries → Leads (opening d name log_bytes (d.boot + 1)) entries last → HasOneCopy last

-- What comes of a state by events and openings, and by what branches at work walk over in between: just what their
-- timestamps read of a range, none of it another's that is undecided.
pub data ComesOf (first : State) : State → Type 0 where
  itself : ComesOf first first
  steps : {s : State} (happening : Happening) (outcome : Outcome) (a : Answer) → IsHappening happening
      → step s happening outcome ≡ Some a
      → ComesOf first s → ComesOf first a.after
  walks : {s : State} (range : Range) (found : List (List ℕ × List ℕ)) (sources : List (List ℕ × ℕ)) (xid : Triple)
      (b : Branch)
      → s.standing ≡ Up → known_of s.branches xid ≡ Some b → is_working b.phase ≡ true
      → Sees range found sources b.timestamp s.branches
      → ComesOf first s → ComesOf first (walked s range found sources xid b)

-- walks too find just what one copy has: no write that is accepted later falls into what was walked, of whichever key
abbrev pub WalksOneCopy : Type 0
WalksOneCopy =
    (first last : State) → IsRecoverable first → AllByRecursion (λ b. HasNoGet b.operations) first.branches
    → ComesOf first last → HasOneCopy last
