-- A disk in memory, from what it held at first and the calls that it took.
use Rattle.std.specs.Prelude.{◌≡◌, ◌≤◌, ℕ, List, [], ◌∷◌, ◌++◌, length, take, Option, Some, None, Vec, refl}
use Rattle.std.specs.declared.alloc.Global.{Global}
use Rattle.xa_disk.specs.Disk.{put, Torn}
use Rattle.xa_disk.specs.declared.call.Call.{Call}
use Rattle.xa_disk.specs.declared.call.Call.TheVariants.{Write, Sync}

-- What a disk held at first: its bytes now, if no write has changed them.
abbrev pub first_of : Option (Vec ℕ Global) → List ℕ → List ℕ
first_of None bytes = bytes
first_of (Some first) bytes = first.items

-- where a disk in memory stands
pub record Now : Type 0 where
  -- what a read gives
  pub seen : List ℕ
  -- what the last sync made stable
  pub stable : List ℕ
  -- the ranges written since, the newest first
  pub pending : List (ℕ × ℕ)

abbrev pub after : Call → Now → Now
after (Write at bytes) s =
    record { seen = put s.seen at bytes.items; stable = s.stable; pending = (at, length bytes.items) ∷ s.pending }
after Sync s = record { seen = s.seen; stable = s.seen; pending = [] }

abbrev pub replay_from : Now → List Call → Now
replay_from s [] = s
replay_from s (call ∷ calls) = replay_from (after call s) calls

abbrev pub at_first : List ℕ → Now
at_first first = record { seen = first; stable = first; pending = [] }

-- the disk that held these bytes, all of them stable, after these calls
abbrev pub replay : List ℕ → List Call → Now
replay first calls = replay_from (at_first first) calls

-- from what is stable, through the writes since
abbrev pub Reaches : List ℕ → List (ℕ × ℕ) → List ℕ → Type 0
Reaches stable [] c = c ≡ stable
Reaches stable (range ∷ earlier) c = (d : List ℕ) × Reaches stable earlier d × Torn range.0 range.1 d c

-- a crash now may leave this
abbrev pub IsImage : Now → List ℕ → Type 0
IsImage s c = Reaches s.stable s.pending c

-- a crash after some of the calls, from the t-th on, might have left this
abbrev pub LeftSince : List ℕ → List Call → ℕ → List ℕ → Type 0
LeftSince first calls t c = (k : ℕ) × (t ≤ k) × (k ≤ length calls) × IsImage (replay first (take k calls)) c

-- law: one more call
pub replay_more : (s : Now) (calls : List Call) (call : Call)
    → replay_from s (calls ++ call ∷ []) ≡ after call (replay_from s calls)
replay_more s [] call = refl
replay_more s (c ∷ calls) call = replay_more (after c s) calls call
