-- Worked rows: what is seen and what is late. Three branches begin in the first boot; the key is `k`.
use Rattle.std.specs.Prelude.{◌≡◌, ℕ, true, false, List, [], ◌∷◌, Option, None, Some}
use Rattle.mv_chain.specs.declared.fate.Fate.TheVariants.{Committed, RolledBack}
use Rattle.mv_chain.specs.Accesses.{Written, Seen, wrote, read_by, seen, seen_without, is_busy, is_late}
use Rattle.mv_chain.specs.Accesses.{decided, absent}
use Rattle.mv_chain.specs.Last.{everybody, stamped}

abbrev pub key : List ℕ
key = 0x6b ∷ []

abbrev pub first : ℕ
first = 4294967297

abbrev pub second : ℕ
second = 4294967298

abbrev pub third : ℕ
third = 4294967299

-- the key has this byte, as a branch of this timestamp wrote it
abbrev pub put_by : ℕ → ℕ → Written
put_by t byte = wrote t key (Some (byte ∷ []))

-- what is seen of it, once it is committed
abbrev pub value_by : ℕ → ℕ → Seen
value_by t byte = record { from = t; value = Some (byte ∷ []); pending = false }

-- the second branch has read the key as absent: the first may not write it, the third may
abbrev pub LateWrite : Type 0
LateWrite =
    (is_late key first (read_by second key 0 ∷ []) ≡ true)
    × (is_late key third (read_by second key 0 ∷ []) ≡ false)

-- the second branch writes 2 and commits, then the first writes 1 and commits: the third reads 2
abbrev pub BlindWrite : Type 0
BlindWrite =
    seen key third (decided first Committed (put_by first 0x31 ∷ decided second Committed (put_by second 0x32 ∷ [])))
    ≡ value_by second 0x32

-- the first branch has written and is undecided: the second may not read, the
-- first may; once it commits, the second reads
abbrev pub BusyUntilCommitted : Type 0
BusyUntilCommitted =
    (is_busy second (seen key second (put_by first 0x76 ∷ [])) ≡ true)
    × (is_busy first (seen key first (put_by first 0x76 ∷ [])) ≡ false)
    × (seen key second (decided first Committed (put_by first 0x76 ∷ [])) ≡ value_by first 0x76)

-- nobody reads what a later branch wrote, nor what was rolled back
abbrev pub NotSeen : Type 0
NotSeen =
    (seen key first (put_by second 0x76 ∷ []) ≡ absent)
    × (seen key second (decided first RolledBack (put_by first 0x76 ∷ [])) ≡ absent)

-- what is last committed of the key
abbrev pub last_of : List Written → Option (ℕ × Option (List ℕ))
last_of writes = stamped (seen_without everybody key third writes)

-- the first branch has written 1 and has committed
abbrev pub one_committed : List Written
one_committed = decided first Committed (put_by first 0x31 ∷ [])

-- the second branch writes 2 and commits, then the third writes 3: the last committed write is the second's, also if
-- it is a delete; if only the third has written there is none
abbrev pub LastCommitted : Type 0
LastCommitted =
    (last_of (put_by third 0x33 ∷ decided second Committed (put_by second 0x32 ∷ one_committed))
    ≡ Some (second, Some (0x32 ∷ [])))
    × (last_of (decided second Committed (wrote second key None ∷ one_committed)) ≡ Some (second, None))
    × (last_of (put_by third 0x33 ∷ []) ≡ None)
