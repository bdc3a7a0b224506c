-- A key's versions: what they show, what each change leaves, and which history they stand for.
use Rattle.std.specs.Prelude.{◌≡◌, ℕ, zero, suc, ◌<◌, ◌≤◌, Bool, true, false, ◌&&◌, ◌||◌, not, ◌==◌, nat_lt, nat_le}
use Rattle.std.specs.Prelude.{max, List, [], ◌∷◌, Option, Some, None, map, filter, if◌then◌else◌}
use Rattle.std.specs.List.{list_any, AllByRecursion as Each}
use Rattle.mv_chain.specs.declared.fate.Fate.{Fate}
use Rattle.mv_chain.specs.declared.fate.Fate.TheVariants.{Committed, RolledBack}
use Rattle.mv_chain.specs.declared.version.Version.{Version}
use Rattle.mv_chain.specs.Accesses.{Written, Answered, Seen, seen_of, seen_without, nobody, is_late, has_undecided}

-- what a key has that nobody wrote: a committed version at 0, absent
abbrev pub base : Version
base = record { timestamp = 0; value = None; pending = false; mark = 0 }

abbrev pub fresh : List Version
fresh = base ∷ []

-- a version as the write that left it
abbrev pub as_written : Version → Written
as_written v =
    record { timestamp = v.timestamp; key = []; value = v.value; fate = if v.pending then None else Some Committed }

-- what the versions show at t, once the undecided branches in gone are rolled back
abbrev pub shows_without : (ℕ → Bool) → ℕ → List Version → Seen
shows_without gone t versions = seen_of (λ k. true) gone t (map as_written versions)

-- the source of a read at t
abbrev pub shows : ℕ → List Version → Seen
shows t versions = shows_without nobody t versions

-- a version below t has a read mark above t
abbrev pub is_marked : ℕ → List Version → Bool
is_marked t versions = list_any (λ v. nat_lt v.timestamp t && nat_lt t v.mark) versions

-- the version has the timestamp `from`, and `reader` may read it; a pending one is read by its own branch alone
abbrev pub may_read : ℕ → ℕ → Version → Bool
may_read from reader v = (v.timestamp == from) && (not v.pending || (from == reader))

-- the version of timestamp `from` was read at `reader`
abbrev pub raised : ℕ → ℕ → Version → Version
raised from reader v = record v { mark = if may_read from reader v then max v.mark reader else v.mark }

-- a read marks its source
abbrev pub marked : ℕ → ℕ → List Version → List Version
marked from reader versions =
    if (shows reader versions).from == from then map (raised from reader) versions else versions

-- a read at t marks what it sees
abbrev pub marked_at : ℕ → List Version → List Version
marked_at t versions = marked (shows t versions).from t versions

-- a write may be installed unless it is late, or its branch has committed
abbrev pub may_install : ℕ → List Version → Bool
may_install t versions =
    not (is_marked t versions) && not (list_any (λ v. (v.timestamp == t) && not v.pending) versions)

-- a version that no one has read
abbrev pub unread : ℕ → Option (List ℕ) → Version
unread t value = record { timestamp = t; value = value; pending = true; mark = 0 }

-- the version of timestamp t has this value; if there is none yet, it takes its place in the order
abbrev pub with_version : ℕ → Option (List ℕ) → List Version → List Version
with_version t value [] = unread t value ∷ []
with_version t value (v ∷ later) =
    if nat_lt t v.timestamp then unread t value ∷ v ∷ later
    else if v.timestamp == t then record v { value = value } ∷ later
    else v ∷ with_version t value later

abbrev pub installed : ℕ → Option (List ℕ) → List Version → List Version
installed t value versions = if may_install t versions then with_version t value versions else versions

abbrev pub committing : ℕ → Version → Version
committing t v = record v { pending = v.pending && not (v.timestamp == t) }

-- a committed branch's version stays, a rolled back one's goes, with its mark
abbrev pub settled : ℕ → Fate → List Version → List Version
settled t Committed versions = map (committing t) versions
settled t RolledBack versions = filter (λ v. not (v.pending && (v.timestamp == t))) versions

-- some committed version is at most low
abbrev pub has_base : ℕ → List Version → Bool
has_base low versions = list_any (λ v. nat_le v.timestamp low && not v.pending) versions

-- a committed version that no read from low on sees: another committed one above it is at most low
abbrev pub pruned : ℕ → List Version → List Version
pruned low [] = []
pruned low (v ∷ later) = if not v.pending && has_base low later then pruned low later else v ∷ pruned low later

-- From the timestamp low on, the versions of a key show what its writes and its answered reads say, whichever
-- undecided branches are rolled back later. An undecided branch is shown its own write also below low.
pub record StandsFor (key : List ℕ) (low : ℕ) (writes : List Written) (reads : List Answered) (versions : List Version)
    : Type 0 where
  pub seen : (gone : ℕ → Bool) (t : ℕ) → low ≤ t → shows_without gone t versions ≡ seen_without gone key t writes
  pub own : (gone : ℕ → Bool) (t : ℕ) → gone t ≡ false → has_undecided key t writes ≡ true
      → shows_without gone t versions ≡ seen_without gone key t writes
  pub late : (t : ℕ) → low ≤ t → is_marked t versions ≡ is_late key t reads
  pub based : has_base low versions ≡ true

-- w stands above v, and not between v and a reader of it
abbrev pub IsBefore : Version → Version → Type 0
IsBefore v w = (v.timestamp < w.timestamp) × (v.mark ≤ w.timestamp)

-- what is true of every chain: ascending by timestamp, no version stands between another and a reader of it, and a
-- pending one was read by its own branch alone. So the last version below t alone decides whether a write at t is late.
abbrev pub IsChain : List Version → Type 0
IsChain [] = Unit {0}
IsChain (v ∷ later) = Each (IsBefore v) later × (v.pending ≡ true → v.mark ≤ v.timestamp) × IsChain later

-- the first i versions have a timestamp of at most t, and the others a greater one
abbrev pub IsIndex : ℕ → ℕ → List Version → Type 0
IsIndex t zero [] = Unit {0}
IsIndex t (suc i) [] = ⊥
IsIndex t zero (v ∷ later) = (t < v.timestamp) × IsIndex t zero later
IsIndex t (suc i) (v ∷ later) = (v.timestamp ≤ t) × IsIndex t i later
