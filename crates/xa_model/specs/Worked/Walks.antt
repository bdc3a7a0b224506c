-- Worked rows of walks over ranges: which writes they make late, and which records are one copy.
use Rattle.std.specs.Prelude.{ℕ, ◌≡◌, true, false, Some, None, List, [], ◌∷◌}
use Rattle.xa_codes.specs.declared.codes.TheConstants.{XA_RBTRANSIENT}
use Rattle.xa_codes.specs.declared.detail.Detail.TheVariants as detail
use Rattle.xa_frame.specs.declared.request.Request.TheVariants.{Put}
use Rattle.xa_model.specs.declared.event.Event.TheVariants.{Call}
use Rattle.xa_model.specs.declared.outcome.Outcome.TheVariants.{Quiet}
use Rattle.xa_model.specs.Ranges.{Range, holds}
use Rattle.xa_model.specs.State.{State, Branch, Operation, Walked, Wrote, Keys, Read, new_work, new_branch}
use Rattle.xa_model.specs.Walking.{Ended, Full, Busy, Room, stopped, walk_over, range_by, has_walked}
use Rattle.xa_model.specs.Source.{is_late}
use Rattle.xa_model.specs.Answer.{detailed}
use Rattle.xa_model.specs.Data.{came_late}
use Rattle.xa_model.specs.Turn.{Asked}
use Rattle.xa_model.specs.Step.{step}
use Rattle.xa_model.specs.OneCopy.{IsOneCopy}
use Rattle.xa_model.specs.Worked.Scripts.{xid_a}
use Rattle.xa_model.specs.Worked.OneCopy.{branch_at, at_work}

abbrev b : List ℕ
b = 0x62 ∷ []

abbrev c : List ℕ
c = 0x63 ∷ []

abbrev d : List ℕ
d = 0x64 ∷ []

-- the keys from `b` on up to `d`
abbrev from_b_to_d : Range
from_b_to_d = record { from = b; to = Some d }

-- a beginning of a key is before it, and the end of a range isn't in it
abbrev pub Bounds : Type 0
Bounds =
    (holds from_b_to_d b ≡ true) × (holds from_b_to_d (0x62 ∷ 0 ∷ []) ≡ true) × (holds from_b_to_d (0x63 ∷ 0xff ∷ []) ≡ true)
    × (holds from_b_to_d d ≡ false) × (holds from_b_to_d (0x61 ∷ 0xff ∷ []) ≡ false) × (holds from_b_to_d [] ≡ false)
    × (holds (record { from = []; to = None }) [] ≡ true)

-- the branch at 7 has walked from `b` to `d`, where `c` alone had a source, at 4
abbrev read_at_7 : List Read
read_at_7 = record { reader = 7; over = Keys from_b_to_d ((c, 4) ∷ []) } ∷ []

-- no key may come into the range below the reader; above it one may
abbrev pub Phantom : Type 0
Phantom = (is_late b 6 read_at_7 ≡ true) × (is_late (0x62 ∷ 0 ∷ []) 1 read_at_7 ≡ true) × (is_late b 8 read_at_7 ≡ false)

-- below the source of a key that had one, a write is nothing to the walk
abbrev pub BelowSource : Type 0
BelowSource = (is_late c 5 read_at_7 ≡ true) × (is_late c 3 read_at_7 ≡ false)

-- nor is one outside the range
abbrev pub Outside : Type 0
Outside = (is_late d 6 read_at_7 ≡ false) × (is_late (0x61 ∷ 0xff ∷ []) 6 read_at_7 ≡ false)

-- session 1 works for a branch at 2, and a walk at 3 has passed over what it writes
abbrev walked_above : State
walked_above = at_work [] (record { reader = 3; over = Keys from_b_to_d [] } ∷ [])

abbrev pub PhantomPut : Type 0
PhantomPut =
    (step walked_above (Asked (Call 1 (Put b (0x76 ∷ [])))) Quiet ≡ Some (came_late walked_above xid_a))
    × ((came_late walked_above xid_a).reply ≡ detailed XA_RBTRANSIENT detail.Late)

-- Which records a walk finds

abbrev wrote : List ℕ → ℕ → Operation
wrote key byte = Wrote key (Some (byte ∷ []))

-- what was committed below it, and what its own branch had written
abbrev pub FindsRecords : Type 0
FindsRecords =
    IsOneCopy (
    branch_at 2 (Walked from_b_to_d ((c, 2 ∷ []) ∷ (b, 1 ∷ []) ∷ []) ∷ wrote c 2 ∷ [])
    ∷ branch_at 1 (wrote b 1 ∷ [])
    ∷ [])

-- a walk that passes over a record of its range isn't one copy's
abbrev pub MissesRecord : Type 0
MissesRecord = IsOneCopy (branch_at 2 (Walked from_b_to_d [] ∷ []) ∷ branch_at 1 (wrote c 1 ∷ []) ∷ []) → ⊥

-- nor is one that finds what was deleted
abbrev pub FindsDeleted : Type 0
FindsDeleted =
    IsOneCopy (branch_at 2 (Walked from_b_to_d ((c, 1 ∷ []) ∷ []) ∷ Wrote c None ∷ []) ∷ branch_at 1 (wrote c 1 ∷ []) ∷ []) → ⊥

-- What is found of the records of some branches: two are committed, and one at 3 is at work

abbrev all_keys : Range
all_keys = record { from = []; to = None }

abbrev first_two : List Branch
first_two = branch_at 4 (Wrote c None ∷ wrote d 3 ∷ []) ∷ branch_at 1 (wrote c 2 ∷ wrote b 1 ∷ []) ∷ []

abbrev with_work : List Branch
with_work = record (new_branch 3 xid_a (new_work 0 0)) { operations = wrote c 4 ∷ [] } ∷ branch_at 1 (wrote c 2 ∷ wrote b 1 ∷ []) ∷ []

-- room for this many records, of this many bytes: one here takes five
abbrev room_for : ℕ → ℕ → Room
room_for count bytes = record { count = count; bytes = bytes }

-- keys ascend, and a deleted one is passed over; the range ends though there is no room for more
abbrev pub WalksToEnd : Type 0
WalksToEnd =
    walk_over 6 first_two all_keys (room_for 2 10)
    ≡ record { found = (b, 1 ∷ []) ∷ (d, 3 ∷ []) ∷ []; sources = (b, 1) ∷ (c, 4) ∷ (d, 4) ∷ []; stop = Ended }

-- a walk below a write doesn't find it
abbrev pub WalksBelow : Type 0
WalksBelow =
    walk_over 2 first_two all_keys (room_for 256 65535)
    ≡ record { found = (b, 1 ∷ []) ∷ (c, 2 ∷ []) ∷ []; sources = (b, 1) ∷ (c, 1) ∷ (d, 0) ∷ []; stop = Ended }

-- two portions: the first ends with its last record, the second begins after that
abbrev pub TwoPortions : Type 0
TwoPortions =
    (walk_over 6 first_two all_keys (room_for 1 10)
    ≡ record { found = (b, 1 ∷ []) ∷ []; sources = (b, 1) ∷ (c, 4) ∷ []; stop = Full })
    × (walk_over 6 first_two all_keys (room_for 2 9)
    ≡ record { found = (b, 1 ∷ []) ∷ []; sources = (b, 1) ∷ (c, 4) ∷ []; stop = Full })
    × (range_by all_keys Full ((b, 1 ∷ []) ∷ []) ≡ record { from = []; to = Some (0x62 ∷ 0 ∷ []) })
    × (walk_over 6 first_two (record { from = 0x62 ∷ 0 ∷ []; to = None }) (room_for 1 10)
    ≡ record { found = (d, 3 ∷ []) ∷ []; sources = (c, 4) ∷ (d, 4) ∷ []; stop = Ended })

-- at another's write that is undecided the walk stops, before its first record too; the branch itself finds its own
abbrev pub StopsAtBusy : Type 0
StopsAtBusy =
    (walk_over 6 with_work all_keys (room_for 256 65535) ≡ record { found = (b, 1 ∷ []) ∷ []; sources = (b, 1) ∷ []; stop = Busy })
    × (walk_over 6 with_work (record { from = c; to = None }) (room_for 256 65535) ≡ stopped Busy)
    × (has_walked Busy [] ≡ false)
    × (walk_over 3 with_work all_keys (room_for 256 65535)
    ≡ record { found = (b, 1 ∷ []) ∷ (c, 4 ∷ []) ∷ []; sources = (b, 1) ∷ (c, 3) ∷ []; stop = Ended })
