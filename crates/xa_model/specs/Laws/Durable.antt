-- Laws on what lasts.
use Rattle.std.specs.Prelude.{ℕ, ◌≡◌, ◌+◌, ◌==◌, true, false, ◌<◌, ◌≤◌, ◌^◌, Ok, Err, List, [], ◌∷◌, ◌++◌, length, if◌then◌else◌}
use Rattle.std.specs.List.{AllByRecursion}
use Rattle.xa_record.specs.declared.record.Record.{Record}
use Rattle.xa_record.specs.Limits.{IsRecord}
use Rattle.xa_model.specs.State.{State, Operation}
use Rattle.xa_model.specs.Source.{write_of}
use Rattle.xa_model.specs.Invariants.Sound.{IsSound}
use Rattle.xa_model.specs.Durable.{Durable, CommittedBranch, IsDurable, IsByKey, HasSame, Pairwise, keys_before}
use Rattle.xa_model.specs.Durable.{is_past, boot_of, number_of, value_in, writes_of, last_write, last_writes, durable}
use Rattle.xa_model.specs.Fold.{Reading, apply, fits, fold, is_timely, is_used, reading, unread, snapshot, sizes}

-- what records come to is what was read of them
abbrev pub FoldReads : Type 0
FoldReads = (rs : List Record) (d : Durable) → fold rs ≡ Ok d → (reading unread rs).durable ≡ d

-- one more record does what it does to what the others come to, if it fits after them
abbrev pub OneMore : Type 0
OneMore =
    (rs : List Record) (r : Record) (d : Durable) → fold rs ≡ Ok d
    → fold (rs ++ r ∷ []) ≡ (if fits r (reading unread rs) then Ok (apply r d) else Err (length rs))

-- what stands after a record that is out of order doesn't matter
abbrev pub FirstFault : Type 0
FirstFault = (rs more : List Record) (i : ℕ) → fold rs ≡ Err i → fold (rs ++ more) ≡ Err i

-- a timestamp that the last boot gave comes in time, if no record has it: what is logged only of branches of that boot
-- is read as it always was
abbrev pub TakesOwnBoot : Type 0
TakesOwnBoot =
    (t : ℕ) (x : Reading) → 1 ≤ x.durable.boot → boot_of t ≡ x.durable.boot → (number_of t == 0) ≡ false
    → is_used t x.timestamps ≡ false → is_timely t x ≡ true

-- what records come to is in the one form
abbrev pub FoldIsDurable : Type 0
FoldIsDurable = (rs : List Record) (d : Durable) → fold rs ≡ Ok d → IsDurable d

-- one content has one value of this form
abbrev pub OneValue : Type 0
OneValue = (c d : Durable) → IsDurable c → IsDurable d → IsByKey c → IsByKey d → HasSame c d → c ≡ d

-- what is last left at a key is left there by the last writes
abbrev pub LastWritesStay : Type 0
LastWritesStay = (key : List ℕ) (bs : List CommittedBranch) → last_write key (last_writes bs) ≡ last_write key bs

-- records within their limits come to writes that ascend by key
abbrev pub FoldIsByKey : Type 0
FoldIsByKey = (rs : List Record) (d : Durable) → AllByRecursion IsRecord rs → fold rs ≡ Ok d → IsByKey d

-- a snapshot comes to what it was made of, with its own boot
abbrev pub SnapshotFolds : Type 0
SnapshotFolds =
    (d : Durable) (boot : ℕ) → IsDurable d → d.boot < boot → fold (snapshot d boot) ≡ Ok (record d { boot = boot })

-- a snapshot of what the log holds takes no more of a file than the log
abbrev pub SnapshotIsShort : Type 0
SnapshotIsShort =
    (rs : List Record) (d : Durable) (boot : ℕ) → 1 ≤ length rs → fold rs ≡ Ok d → sizes (snapshot d boot) ≤ sizes rs

-- and its records are within their limits
abbrev pub SnapshotIsWritten : Type 0
SnapshotIsWritten =
    (rs : List Record) (d : Durable) (boot : ℕ) → AllByRecursion IsRecord rs → fold rs ≡ Ok d → 1 ≤ boot → boot < 2 ^ 32
    → AllByRecursion IsRecord (snapshot d boot)

-- what a sound state would leave is of the form, if logged boots gave all its timestamps
abbrev pub LeavesDurable : Type 0
LeavesDurable =
    (s : State) → IsSound s → AllByRecursion (λ b. is_past (s.logged_boot + 1) b.timestamp ≡ true) s.branches
    → IsDurable (durable s)

-- the writes that a branch leaves ascend by key, and are its last of each key
abbrev pub WritesOf : Type 0
WritesOf =
    (ops : List Operation)
    → Pairwise keys_before (writes_of ops) × ((key : List ℕ) → value_in key (writes_of ops) ≡ write_of key ops)
