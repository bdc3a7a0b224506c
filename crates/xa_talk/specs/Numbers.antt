-- The connections of a script by their numbers, from 1 on: a list that has none where a number is free.
use Rattle.std.specs.Prelude.{ℕ, ◌+◌, ◌-◌, ◌==◌, nat_lt, List, [], ◌∷◌, ◌++◌, length, Option, Some, None, if◌then◌else◌, option_and_then, slice_get, slice_set}

-- the least free index, counted from 0
abbrev pub free_index : {C : Type 0} → List (Option C) → ℕ
free_index [] = 0
free_index (None ∷ numbered) = 0
free_index (Some c ∷ numbered) = free_index numbered + 1

-- a connection more, at the least free index
abbrev pub with_new : {C : Type 0} → C → List (Option C) → List (Option C)
with_new c numbered =
    if nat_lt (free_index numbered) (length numbered) then slice_set numbered (free_index numbered) (Some c)
    else numbered ++ Some c ∷ []

-- the index of a number
abbrev pub index_of : ℕ → Option ℕ
index_of n = if n == 0 then None else Some (n - 1)

-- what is at an index, if there is such an index
abbrev pub there : {C : Type 0} → List (Option C) → ℕ → Option C
there numbered index = option_and_then (λ c. c) (slice_get numbered index)

abbrev pub connection_at : {C : Type 0} → ℕ → List (Option C) → Option C
connection_at n numbered = option_and_then (λ index. there numbered index) (index_of n)

-- another connection at the index of a number, or none
abbrev pub with_at : {C : Type 0} → Option ℕ → Option C → List (Option C) → List (Option C)
with_at None c numbered = numbered
with_at (Some index) c numbered = slice_set numbered index c
