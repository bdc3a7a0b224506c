-- Multiversion timestamp ordering (Bernstein, Hadzilacos and Goodman, 5.3): which version of a key a timestamp reads,
-- and which write comes too late.
use Rattle.std.specs.Prelude.{ℕ, ◌+◌, ◌==◌, Bool, true, false, not, ◌&&◌, Option, Some, None, List, [], ◌∷◌, fold, filter_map}
use Rattle.std.specs.Prelude.{option_map, bytes_eq, is_some, nat_le, nat_lt, if◌then◌else◌}
use Rattle.std.specs.List.{list_any}
use Rattle.xa_model.specs.Ranges.{holds}
use Rattle.xa_model.specs.State.{Operation, Got, Walked, Wrote, Branch, Extent, Key, Keys, Read, is_committed}

-- what a branch left at a key
pub record Version : Type 0 where
  pub timestamp : ℕ
  pub committed : Bool
  pub value : Option (List ℕ)

-- the value of the last put or delete of the key; None if there is none
abbrev pub write_of : List ℕ → List Operation → Option (Option (List ℕ))
write_of key [] = None
write_of key (Got k answer source ∷ older) = write_of key older
write_of key (Walked range found ∷ older) = write_of key older
write_of key (Wrote k value ∷ older) = if bytes_eq k key then Some value else write_of key older

-- how many keys the operations wrote
abbrev pub written_keys : List Operation → ℕ
written_keys [] = 0
written_keys (Got key answer source ∷ older) = written_keys older
written_keys (Walked range found ∷ older) = written_keys older
written_keys (Wrote key value ∷ older) =
    if is_some (write_of key older) then written_keys older else written_keys older + 1

abbrev pub version_by : List ℕ → Branch → Option Version
version_by key b =
    option_map (λ v. record { timestamp = b.timestamp; committed = is_committed b.phase; value = v })
    (write_of key b.operations)

-- the versions of a key, by the committed branches and the undecided ones
abbrev pub versions_of : List ℕ → List Branch → List Version
versions_of key branches = filter_map (version_by key) branches

-- absent, before all branches
abbrev pub absent : Version
absent = record { timestamp = 0; committed = true; value = None }

abbrev pub later : ℕ → Version → Version → Version
later t best v = if nat_le v.timestamp t && nat_lt best.timestamp v.timestamp then v else best

-- of the versions with a timestamp at most t, the one with the greatest
abbrev pub newest : ℕ → List Version → Version
newest t versions = fold (later t) absent versions

-- what the timestamp t reads of the key
abbrev pub source : List ℕ → ℕ → List Branch → Version
source key t branches = newest t (versions_of key branches)

-- the source is another branch's that is undecided
abbrev pub is_busy : ℕ → Version → Bool
is_busy t v = not v.committed && not (v.timestamp == t)

-- the timestamp that the list has of a key, 0 if it has none
abbrev pub source_among : List ℕ → List (List ℕ × ℕ) → ℕ
source_among key [] = 0
source_among key (s ∷ rest) = if bytes_eq s.0 key then s.1 else source_among key rest

-- the timestamp of the source that was read of a key; None if the key wasn't read
abbrev pub source_read : List ℕ → Extent → Option ℕ
source_read key (Key k source) = if bytes_eq k key then Some source else None
source_read key (Keys range sources) = if holds range key then Some (source_among key sources) else None

-- t is above a source, if there is one, and below the reader
abbrev pub is_between : ℕ → ℕ → Option ℕ → Bool
is_between t reader None = false
is_between t reader (Some source) = nat_lt source t && nat_lt t reader

-- some answered read of the key has its source below t and its reader above
abbrev pub passes_over : List ℕ → ℕ → Read → Bool
passes_over key t r = is_between t r.reader (source_read key r.over)

abbrev pub is_late : List ℕ → ℕ → List Read → Bool
is_late key t reads = list_any (passes_over key t) reads
