-- What reading two files finds.
use Rattle.std.specs.Prelude.{◌≡◌, ◌≢◌, ℕ, ◌≤◌, min, Bool, true, false, ◌||◌, if◌then◌else◌, List, [], length, take}
use Rattle.std.specs.Prelude.{Option, Some, None, IfSome}
use Rattle.xa_disk.specs.Disk.{Only}
use Rattle.xa_disk.specs.declared.counts.Counts.{Counts}
use Rattle.xa_disk.specs.declared.disk.Disk.{Ghosts}
use Rattle.xa_log.specs.declared.looking.Front.{Front}
use Rattle.xa_log.specs.declared.heads.Head.{Head}
use Rattle.xa_log.specs.declared.found.Found.{Found}
use Rattle.xa_log.specs.declared.reading.Scan.{Scan}
use Rattle.xa_log.specs.Believed.Chain.{start, format_of}
use Rattle.xa_log.specs.Believed.Damage.{is_headless}
use Rattle.xa_log.specs.Calls.{FetchedWithin, FetchedNext, MOST_BRIEF, asked, brief}
use Rattle.xa_log.specs.Reading.{is_newer, Finds, Fits, IsScan}
use Rattle.xa_log.specs.Believed.Pair.{number_in, generation, is_nil, has_log, on_first}
use Rattle.xa_log.specs.Window.{Caches}
use Rattle.xa_limits.specs.declared.TheConstants.{FIRST_OFFSET, FORMAT_BYTES}
use Rattle.xa_log.specs.declared.window.TheConstants.{WINDOW}

-- lengths of two files that aren't too long
pub record AreShort (most : ℕ) (first second : List ℕ) (m n : ℕ) : Type 0 where
  pub first_is : m ≡ length first
  pub second_is : n ≡ length second
  pub first_fits : m ≤ most
  pub second_fits : n ≤ most

-- how a file begins, and that a window has it
pub record IsFront (file window : List ℕ) (front : Front) : Type 0 where
  pub format : front.format ≡ format_of (take FORMAT_BYTES file)
  pub newer : front.newer ≡ is_newer (take FORMAT_BYTES file)
  pub caches : Caches file window front.span

-- a window has the first bytes of a file of this length, as many as it can if they name a log's format
pub record HasFront (len : ℕ) (front : Front) : Type 0 where
  pub from : front.span.from ≡ 0
  pub held : front.span.have ≤ WINDOW
  pub inside : front.span.have ≤ len
  pub whole : front.format ≢ None → (front.span.have ≡ min len WINDOW) × (FORMAT_BYTES ≤ len)

-- one of two files is of a later format, or is a log
abbrev pub either_newer : List ℕ → List ℕ → Bool
either_newer first second = is_newer (take FORMAT_BYTES first) || is_newer (take FORMAT_BYTES second)

abbrev pub either_log : List ℕ → List ℕ → Bool
either_log first second = has_log first || has_log second

-- what a log's first record tells of it
abbrev pub Tells : List (List ℕ) → Option Found → Type 0
Tells bodies None = bodies ≡ []
Tells bodies (Some found) = (is_nil bodies ≡ false) × (generation bodies ≡ number_in found.body.items)

-- how a file begins that is a log, with what a window has of it by then; or that it is none
abbrev pub IsHead : List ℕ → List ℕ → Option Head → Type 0
IsHead file window None = format_of (take FORMAT_BYTES file) ≡ None
IsHead file window (Some head) =
    (format_of (take FORMAT_BYTES file) ≡ Some head.format)
    × Finds head.format (start head.format) file FIRST_OFFSET window head.first
    × (head.lost ≡ is_headless file)

-- that of a file of this length
abbrev pub HasHead : ℕ → Option Head → Type 0
HasHead len None = Unit {0}
HasHead len (Some head) = (FORMAT_BYTES ≤ len) × IfSome head.first (Fits head.format FIRST_OFFSET len WINDOW)

-- the first bytes that were read of a file, up to where a window has it after its first record
abbrev pub FetchedHead : ℕ → ℕ → Counts → Counts → Option Head → Type 0
FetchedHead len most first now None = FetchedWithin len most first now
FetchedHead len most first now (Some head) = FetchedNext len most first now head.first

-- of one of two files that was synced and measured, and of which no more was read: how long it is, and how it begins
pub record Began {D : Type 0} (disks : Ghosts D) (most : ℕ) (old new : D) (window : List ℕ) (len : ℕ) (head : Option Head)
    : Type 0 where
  pub fits : len ≤ most
  pub holds : HasHead len head
  pub whole : disks.honest → len ≡ length (disks.seen old)
  pub begins : disks.honest → IsHead (disks.seen old) window head
  pub durable : disks.honest → Only (disks.seen new) (disks.may_leave new)
  pub fetched : FetchedHead len MOST_BRIEF (asked (disks.counts old)) (disks.counts new) head
  pub little : disks.honest
      → FetchedHead len (brief (disks.seen old)) (asked (disks.counts old)) (disks.counts new) head

-- whether one of two files is a log, and which of them is the current one
abbrev pub Chooses : List ℕ → List ℕ → Option (Bool × Head) → Type 0
Chooses first second None = either_log first second ≡ false
Chooses first second (Some choice) = (either_log first second ≡ true) × (choice.0 ≡ on_first first second)

-- the current file's log, of two
pub record IsCurrent (first second : List ℕ) (is_first : Bool) (scan : Scan) : Type 0 where
  pub choice : is_first ≡ on_first first second
  pub scan_is : IsScan (if is_first then first else second) scan
