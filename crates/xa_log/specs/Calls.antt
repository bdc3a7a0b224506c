-- Which device calls a log makes. The counts of a disk say how many of each kind; they stop at their top.
use Rattle.std.specs.Prelude.{◌≡◌, ◌⊎◌, ℕ, zero, suc, ◌+◌, ◌*◌, ◌≤◌, ◌<◌, Bool, true, false, ◌&&◌, nat_le, nat_lt}
use Rattle.std.specs.Prelude.{if◌then◌else◌, List, length, take, drop, Option, None, Some, is_some, Result, Ok, Err, MatchResult}
use Rattle.xa_disk.specs.Counts.{plus, with_length, with_write, with_sync}
use Rattle.xa_disk.specs.Disk.{CountsFault}
use Rattle.xa_disk.specs.declared.counts.Counts.{Counts}
use Rattle.xa_disk.specs.declared.disk.Disk.{Ghosts}
use Rattle.xa_limits.specs.declared.TheConstants.{AROUND_BODY, FIRST_OFFSET, FORMAT_BYTES, LENGTH_BYTES}
use Rattle.xa_log.specs.Answers.{HasCause}
use Rattle.xa_log.specs.Believed.Chain.{most_body, format_of, format_in, size_at}
use Rattle.xa_log.specs.declared.found.Found.{Found}
use Rattle.xa_log.specs.declared.window.Span.{Span}
use Rattle.xa_log.specs.declared.appending.Appended.{Appended}
use Rattle.xa_log.specs.declared.appending.Appended.TheVariants.{Kept, Refused, Lost, Full}
use Rattle.xa_log.specs.declared.fault.OpenFault.{OpenFault}
use Rattle.xa_log.specs.declared.fault.OpenFault.TheVariants.{NotALog, TooNew, TooLong, Damaged, Device, Memory}
use Rattle.xa_log.specs.declared.record.TheConstants.{MOST_RECORD}
use Rattle.xa_log.specs.declared.window.TheConstants.{WINDOW, LEAST_READ}

-- this many more reads, of this many bytes together
abbrev pub with_reads : ℕ → ℕ → Counts → Counts
with_reads zero bytes c = c
with_reads (suc more) bytes c = record c { reads = plus c.reads (suc more); read_bytes = plus c.read_bytes bytes }

-- The first bytes of a file of this length were read up to an offset, each once, in pieces of at most WINDOW bytes; a
-- piece of less than LEAST_READ bytes reached the file's end.
pub record Fetched (len upto : ℕ) (first now : Counts) : Type 0 where
  pub reads : ℕ
  pub counts : now ≡ with_reads reads upto first
  pub within : upto ≤ len
  pub pieces : upto ≤ reads * WINDOW
  pub few : reads * LEAST_READ ≤ upto + LEAST_READ
  pub full : upto < len → reads * LEAST_READ ≤ upto

pub record FetchedSome (len : ℕ) (first now : Counts) : Type 0 where
  pub upto : ℕ
  pub fetched : Fetched len upto first now

-- up to a bound
pub record FetchedWithin (len most : ℕ) (first now : Counts) : Type 0 where
  pub upto : ℕ
  pub fetched : Fetched len upto first now
  pub bounded : upto ≤ most

-- up to where a window has the file, and no further than a bound
abbrev pub FetchedUpto : ℕ → ℕ → Counts → Counts → Span → Type 0
FetchedUpto len most first now span = Fetched len (span.from + span.have) first now × (span.from + span.have ≤ most)

-- if a record is found, up to there
abbrev pub FetchedNext : ℕ → ℕ → Counts → Counts → Option Found → Type 0
FetchedNext len most first now None = FetchedWithin len most first now
FetchedNext len most first now (Some found) = FetchedUpto len most first now found.span

-- If the first bytes of a file were read up to an offset, reading a record up to its end stays within a bound: no more
-- is read if they have it, and at most a window after it if they haven't.
abbrev pub ReachesTo : ℕ → ℕ → ℕ → Type 0
ReachesTo end upto most = (upto ≤ most) × (upto < end → end + WINDOW ≤ most)

-- The same of the record that begins at an offset, whose size isn't known yet, except that it is at most this: at most a
-- window is read to learn it.
abbrev pub Reaches : (ℕ → Type 0) → ℕ → ℕ → ℕ → ℕ → ℕ → Type 0
Reaches IsSize limit len at upto most =
    (upto ≤ most) × (at + AROUND_BODY ≤ len → upto < at + LENGTH_BYTES → at + WINDOW ≤ most)
    × ((size : ℕ) → IsSize size → size ≤ limit → at + (AROUND_BODY + size) ≤ len
    → ReachesTo (at + (AROUND_BODY + size)) upto most)

-- Reads of at most this many bytes together, and no other call: pieces of at most WINDOW bytes, and at most one of
-- them of less than LEAST_READ.
pub record OnlyReads (most : ℕ) (first now : Counts) : Type 0 where
  pub reads : ℕ
  pub bytes : ℕ
  pub counts : now ≡ with_reads reads bytes first
  pub once : bytes ≤ most
  pub pieces : bytes ≤ reads * WINDOW
  pub few : reads * LEAST_READ ≤ bytes + LEAST_READ

abbrev pub asked : Counts → Counts
asked c = with_length (with_sync c)

abbrev pub LooksAt : OpenFault → ℕ → Counts → Counts → Type 0
LooksAt Device most old new = (new ≡ with_sync old) ⊎ OnlyReads most (asked old) new
LooksAt Memory most old new = (new ≡ old) ⊎ OnlyReads most (asked old) new
LooksAt NotALog most old new = OnlyReads most (asked old) new
LooksAt TooNew most old new = OnlyReads most (asked old) new
LooksAt TooLong most old new = new ≡ asked old
LooksAt Damaged most old new = OnlyReads most (asked old) new

-- the calls of a look at a log: a sync, a length, and reads of at most this many bytes together
abbrev pub Looks : {T : Type 0} → Result T OpenFault → ℕ → Counts → Counts → Type 0
Looks result most old new = MatchResult result (λ _. OnlyReads most (asked old) new) (λ e. LooksAt e most old new)

-- the same of the second of two files: if a call to the first one failed it may have been asked nothing
abbrev pub LooksSecondAt : OpenFault → ℕ → Counts → Counts → Type 0
LooksSecondAt e most old new = ((e ≡ Device) × (new ≡ old)) ⊎ LooksAt e most old new

abbrev pub LooksSecond : {T : Type 0} → Result T OpenFault → ℕ → Counts → Counts → Type 0
LooksSecond result most old new =
    MatchResult result (λ _. OnlyReads most (asked old) new) (λ e. LooksSecondAt e most old new)

-- where the record ends that a file's first length tells of
abbrev pub first_end : List ℕ → ℕ
first_end file = FIRST_OFFSET + (AROUND_BODY + size_at (drop FORMAT_BYTES file))

-- that record may be one of its log, and a window of the file's first bytes doesn't hold it
abbrev pub begins_long : List ℕ → Bool
begins_long file =
    is_some (format_of (take FORMAT_BYTES file))
    && (nat_le (size_at (drop FORMAT_BYTES file)) (most_body (format_in file))
    && (nat_le (first_end file) (length file) && nat_lt WINDOW (first_end file)))

-- how many bytes of a file are read at most to tell its first record: a window, and that record if it is longer
abbrev pub brief : List ℕ → ℕ
brief file = if begins_long file then WINDOW + first_end file else WINDOW

-- the most that this is of any file
abbrev pub MOST_BRIEF : ℕ
MOST_BRIEF = WINDOW + (FORMAT_BYTES + MOST_RECORD)

-- A look at no more of a file than its first record, whatever its disk gives. An honest one gives what the file holds.
pub record LooksBriefly {D : Type 0} (disks : Ghosts D) (old new : D) : Type 0 where
  pub brief_at_all : OnlyReads MOST_BRIEF (asked (disks.counts old)) (disks.counts new)
  pub brief_as_is : disks.honest → OnlyReads (brief (disks.seen old)) (asked (disks.counts old)) (disks.counts new)

-- of the file that isn't the current one no more is read, whether the current one is the first or isn't
abbrev pub ReadsLittle : {D : Type 0} → Ghosts D → Bool → D → D → D → D → Type 0
ReadsLittle disks true first first_new second second_new = LooksBriefly disks second second_new
ReadsLittle disks false first first_new second second_new = LooksBriefly disks first first_new

-- a write and a sync, of which the first that failed is the last
abbrev pub PutCalls : {T E : Type 0} → Result T E → Counts → Counts → Type 0
PutCalls result old new =
    MatchResult result (λ _. new ≡ with_sync (with_write old))
    (λ _. (new ≡ with_write old) ⊎ (new ≡ with_sync (with_write old)))

-- If this many bytes more than those that count were tried: a write of all, or after one that failed a write of those
-- that count.
abbrev pub WritesAhead : {T E : Type 0} → ℕ → Result T E → ℕ → ℕ → Counts → Counts → Type 0
WritesAhead more result failures failures' old new =
    (CountsFault result failures failures' × (new ≡ with_write old))
    ⊎ ((1 ≤ more) × CountsFault result (plus failures 1) failures' × (new ≡ with_write (with_write old)))

-- The calls of an append that isn't answered from memory, if no write with zeros failed: a write and a sync; if one
-- of them failed the repair's write, and its sync unless that write failed.
abbrev pub AppendCalls : Appended → Counts → Counts → Type 0
AppendCalls Kept old new = new ≡ with_sync (with_write old)
AppendCalls Refused old new =
    (new ≡ with_sync (with_write (with_write old))) ⊎ (new ≡ with_sync (with_sync (with_write (with_write old))))
AppendCalls Lost old new =
    (new ≡ with_write (with_write old)) ⊎ (new ≡ with_sync (with_write (with_write old)))
    ⊎ (new ≡ with_sync (with_sync (with_write (with_write old))))
AppendCalls Full old new = new ≡ old

-- the failures and the calls of an append with this many zeros: those, or if there are any, those after a write with
-- them that failed
abbrev pub AppendsAhead : ℕ → Appended → ℕ → ℕ → Counts → Counts → Type 0
AppendsAhead more outcome failures failures' old new =
    (HasCause outcome failures failures' × AppendCalls outcome old new)
    ⊎ ((1 ≤ more) × HasCause outcome (plus failures 1) failures' × AppendCalls outcome (with_write old) new)

-- How many calls failed from a group's write, with this result, to what became of it: if the write failed, none
-- more, unless the repair failed too.
abbrev pub SettlesBy : {T E : Type 0} → Result T E → Appended → ℕ → ℕ → Type 0
SettlesBy (Ok _) outcome failures failures' = HasCause outcome failures failures'
SettlesBy (Err _) Refused failures failures' = failures' ≡ failures
SettlesBy (Err _) Lost failures failures' = HasCause Lost failures failures'
SettlesBy (Err _) Kept failures failures' = ⊥
SettlesBy (Err _) Full failures failures' = ⊥

-- this many more writes
abbrev pub with_writes : ℕ → Counts → Counts
with_writes zero c = c
with_writes (suc more) c = with_write (with_writes more c)

-- a write of each of this many records and a sync, of which the first that failed is the last
abbrev pub RecordsCalls : {T E : Type 0} → Result T E → ℕ → Counts → Counts → Type 0
RecordsCalls result n old new = MatchResult result (λ _. new ≡ with_sync (with_writes n old))
    (λ _. ((k : ℕ) × (1 ≤ k) × (k ≤ n) × (new ≡ with_writes k old)) ⊎ (new ≡ with_sync (with_writes n old)))

-- the calls of a checkpoint of this many records before its seal: the header's write and sync, the records' writes and
-- sync
abbrev pub readied : ℕ → Counts → Counts
readied n c = with_sync (with_writes n (with_sync (with_write c)))

-- those up to one of them that failed
abbrev pub StopsBefore : ℕ → Counts → Counts → Type 0
StopsBefore n old new =
    (new ≡ with_write old) ⊎ (new ≡ with_sync (with_write old))
    ⊎ ((k : ℕ) × (1 ≤ k) × (k ≤ n) × (new ≡ with_writes k (with_sync (with_write old)))) ⊎ (new ≡ readied n old)

-- The calls of a checkpoint of this many records on the disk that it writes: nothing is repaired before the seal, and the
-- seal is as an append.
abbrev pub CheckpointCalls : Appended → ℕ → Counts → Counts → Type 0
CheckpointCalls Kept n old new = AppendCalls Kept (readied n old) new
CheckpointCalls Refused n old new = StopsBefore n old new ⊎ AppendCalls Refused (readied n old) new
CheckpointCalls Lost n old new = AppendCalls Lost (readied n old) new
CheckpointCalls Full n old new = new ≡ old

abbrev pub MakesAt : OpenFault → Counts → Counts → Type 0
MakesAt Device old new =
    (new ≡ with_length old) ⊎ (new ≡ with_write (with_length old)) ⊎ (new ≡ with_sync (with_write (with_length old)))
MakesAt Memory old new = new ≡ old
MakesAt NotALog old new = new ≡ with_length old
MakesAt TooNew old new = ⊥
MakesAt TooLong old new = new ≡ old
MakesAt Damaged old new = ⊥

-- the calls that make a log on the first of two disks: a length, a write and a sync
abbrev pub Makes : {T : Type 0} → Result T OpenFault → Counts → Counts → Type 0
Makes result old new = MatchResult result (λ _. new ≡ with_sync (with_write (with_length old))) (λ e. MakesAt e old new)

abbrev pub MakesSecondAt : OpenFault → Counts → Counts → Type 0
MakesSecondAt Device old new = (new ≡ old) ⊎ (new ≡ with_length old) ⊎ (new ≡ with_sync (with_length old))
MakesSecondAt Memory old new = new ≡ old
MakesSecondAt NotALog old new = new ≡ with_length old
MakesSecondAt TooNew old new = ⊥
MakesSecondAt TooLong old new = new ≡ old
MakesSecondAt Damaged old new = ⊥

-- and on the second one: a length and a sync
abbrev pub MakesSecond : {T : Type 0} → Result T OpenFault → Counts → Counts → Type 0
MakesSecond result old new = MatchResult result (λ _. new ≡ with_sync (with_length old)) (λ e. MakesSecondAt e old new)
