-- What a walk over a range finds: its first records, ascending by key.
use Rattle.std.specs.Prelude.{ℕ, ◌≡◌, ◌+◌, ◌-◌, Bool, true, not, ◌&&◌, Option, Some, None, List, [], ◌∷◌, ◌++◌}
use Rattle.std.specs.Prelude.{bytes_eq, filter, length, nat_le, if◌then◌else◌}
use Rattle.xa_model.specs.Ranges.{Range, holds, is_before}
use Rattle.xa_model.specs.State.{Operation, Got, Walked, Wrote, Branch}
use Rattle.xa_model.specs.Source.{Version, source, is_busy}
use Rattle.xa_model.specs.Data.{Sees}
use Rattle.xa_model.specs.Fold.{is_empty}

-- a key takes its place, if it isn't there yet
abbrev pub put_key : List ℕ → List (List ℕ) → List (List ℕ)
put_key key [] = key ∷ []
put_key key (k ∷ ks) =
    if bytes_eq k key then k ∷ ks else if is_before k key then k ∷ put_key key ks else key ∷ k ∷ ks

abbrev pub keys_by : List Operation → List (List ℕ) → List (List ℕ)
keys_by [] keys = keys
keys_by (Got key answer source ∷ older) keys = keys_by older keys
keys_by (Walked range found ∷ older) keys = keys_by older keys
keys_by (Wrote key value ∷ older) keys = put_key key (keys_by older keys)

-- the keys that the branches have written, each once, ascending
abbrev pub keys_in : List Branch → List (List ℕ)
keys_in [] = []
keys_in (b ∷ bs) = keys_by b.operations (keys_in bs)

-- A walk ends with its range; or it stops at a record that there is no room for, or at a key whose source is another
-- branch's that is undecided.
pub data Stop : Type 0 where
  Ended : Stop
  Full : Stop
  Busy : Stop

-- the records that were found, the sources of the keys that were passed, and why the walk stopped
pub record Walk : Type 0 where
  pub found : List (List ℕ × List ℕ)
  pub sources : List (List ℕ × ℕ)
  pub stop : Stop

-- how many further records there is room for, and of how many bytes in all
pub record Room : Type 0 where
  pub count : ℕ
  pub bytes : ℕ

-- a record takes its key after a length of one byte, and its value after one of two
abbrev pub record_bytes : List ℕ → List ℕ → ℕ
record_bytes key value = 3 + length key + length value

abbrev pub takes : Room → List ℕ → List ℕ → Bool
takes room key value = nat_le 1 room.count && nat_le (record_bytes key value) room.bytes

abbrev pub less : Room → List ℕ → List ℕ → Room
less room key value = record { count = room.count - 1; bytes = room.bytes - record_bytes key value }

abbrev pub stopped : Stop → Walk
stopped stop = record { found = []; sources = []; stop = stop }

abbrev pub having_passed : List ℕ → ℕ → Walk → Walk
having_passed key from rest = record rest { sources = (key, from) ∷ rest.sources }

abbrev pub having_found : List ℕ → List ℕ → Walk → Walk
having_found key value rest = record rest { found = (key, value) ∷ rest.found }

-- deleted keys are passed over, as absent ones are
abbrev pub pass : List ℕ → ℕ → Option (List ℕ) → Room → (Room → Walk) → Walk
pass key from None room later = having_passed key from (later room)
pass key from (Some value) room later =
    if takes room key value then having_passed key from (having_found key value (later (less room key value)))
    else stopped Full

abbrev pub walk_at : ℕ → List ℕ → Version → Room → (Room → Walk) → Walk
walk_at t key v room later = if is_busy t v then stopped Busy else pass key v.timestamp v.value room later

-- what the timestamp finds at these keys
abbrev pub walk : ℕ → List Branch → List (List ℕ) → Room → Walk
walk t branches [] room = stopped Ended
walk t branches (key ∷ keys) room = walk_at t key (source key t branches) room (walk t branches keys)

abbrev pub walk_over : ℕ → List Branch → Range → Room → Walk
walk_over t branches range room = walk t branches (filter (holds range) (keys_in branches)) room

-- the key of the last record
abbrev pub last_key : List (List ℕ × List ℕ) → List ℕ
last_key [] = []
last_key (r ∷ []) = r.0
last_key (r ∷ s ∷ rest) = last_key (s ∷ rest)

-- the keys up to this one, it included
abbrev pub through : Range → List ℕ → Range
through range key = record range { to = Some (key ++ 0 ∷ []) }

-- what was walked: the range, or its keys up to the last record that was found
abbrev pub range_by : Range → Stop → List (List ℕ × List ℕ) → Range
range_by range Ended found = range
range_by range Full found = through range (last_key found)
range_by range Busy found = through range (last_key found)

-- whether anything was walked: not if it stopped before its first record
abbrev pub has_walked : Stop → List (List ℕ × List ℕ) → Bool
has_walked Ended found = true
has_walked Full found = not (is_empty found)
has_walked Busy found = not (is_empty found)

-- what a walk says of the keys that it walked is what its timestamp reads
abbrev pub WalkSees : Type 0
WalkSees =
    (t : ℕ) (branches : List Branch) (range : Range) (room : Room)
    → has_walked (walk_over t branches range room).stop (walk_over t branches range room).found ≡ true
    → Sees
    (range_by range (walk_over t branches range room).stop (walk_over t branches range room).found)
    (walk_over t branches range room).found (walk_over t branches range room).sources t branches
