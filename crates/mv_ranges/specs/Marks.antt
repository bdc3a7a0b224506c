-- What becomes of the boundaries: how one is put, dropped and raised.
use Rattle.std.specs.Prelude.{◌≡◌, ◌⊎◌, ⊤, ℕ, ◌≤◌, Bool, max, nat_lt, false, if◌then◌else◌, bytes_eq}
use Rattle.std.specs.Prelude.{List, [], ◌∷◌, ◌++◌, map, Option, Some, None, IsSome, Vec}
use Rattle.std.specs.List.{filter, fold}
use Rattle.std.specs.BTreeMap.{BTreeMap, IsOrdered, get_by}
use Rattle.std.specs.Cmp.Lexicographic.{slice_cmp}
use Rattle.std.specs.Ordering.{nat_cmp, is_le, is_gt}
use Rattle.std.specs.declared.alloc.Global.{Global}
use Rattle.mv_ranges.specs.Ranges.{Boundaries, last_mark}

abbrev pub Marks : Type 0
Marks = BTreeMap (Vec ℕ Global) ℕ

-- the boundaries ascend, as a map's keys do
abbrev pub IsAscending : Marks → Type 0
IsAscending marks = IsOrdered (λ a b. slice_cmp nat_cmp a.items b.items) marks

abbrev pub mark_in : List ℕ → Marks → ℕ
mark_in key marks = last_mark 0 key marks.entries

-- the mark of the last boundary below the key, `mark` if there is none
abbrev pub last_mark_below : ℕ → List ℕ → Boundaries → ℕ
last_mark_below mark key [] = mark
last_mark_below mark key (b ∷ later) =
    if is_le (slice_cmp nat_cmp key b.0.items) then mark else last_mark_below b.1 key later

abbrev pub mark_below : List ℕ → Marks → ℕ
mark_below key marks = last_mark_below 0 key marks.entries

-- over no key the mark changes
abbrev pub SameMarks : Marks → Marks → Type 0
SameMarks old new = (key : List ℕ) → mark_in key new ≡ mark_in key old

-- above the low water no mark changes
abbrev pub SameAbove : ℕ → Marks → Marks → Type 0
SameAbove low old new = (key : List ℕ) → max low (mark_in key new) ≡ max low (mark_in key old)

abbrev pub IsBoundary : List ℕ → Marks → Type 0
IsBoundary key marks = IsSome (get_by (λ k. slice_cmp nat_cmp key k.items) marks)

-- every boundary stays one
abbrev pub KeepsBoundaries : Marks → Marks → Type 0
KeepsBoundaries old new = (key : List ℕ) → IsBoundary key old → IsBoundary key new

-- a range of the reader may begin at the key: it is a boundary, or it needn't be one
abbrev pub MayBegin : ℕ → List ℕ → Marks → Type 0
MayBegin reader key marks = IsBoundary key marks ⊎ (reader ≤ mark_in key marks)

-- a range of the reader may end at the key
abbrev pub MayEnd : ℕ → Option (List ℕ) → Marks → Type 0
MayEnd reader None marks = ⊤
MayEnd reader (Some key) marks = IsBoundary key marks ⊎ (reader ≤ mark_below key marks)

-- the range doesn't run backwards
abbrev pub IsForward : List ℕ → Option (List ℕ) → Type 0
IsForward from None = ⊤
IsForward from (Some to) = is_gt (slice_cmp nat_cmp from to) ≡ false

-- the boundaries with a mark below the reader
abbrev pub keys_below : ℕ → Boundaries → List (List ℕ)
keys_below reader boundaries = map (λ b. b.0.items) (filter (λ b. nat_lt b.1 reader) boundaries)

-- those that pass the test
abbrev pub lower_keys : (List ℕ → Bool) → ℕ → Boundaries → List (List ℕ)
lower_keys passes reader boundaries = keys_below reader (filter (λ b. passes b.0.items) boundaries)

-- a boundary once that at the key is raised
abbrev pub raised_at : ℕ → List ℕ → Vec ℕ Global × ℕ → Vec ℕ Global × ℕ
raised_at reader key b = (b.0, if bytes_eq key b.0.items then max b.1 reader else b.1)

-- the boundaries once those at each of the keys are raised
abbrev pub raised_each : ℕ → List (Vec ℕ Global) → Boundaries → Boundaries
raised_each reader keys boundaries = fold (λ bs k. map (raised_at reader k.items) bs) boundaries keys

-- a boundary once the reader has walked the keys that pass the test
abbrev pub raised : (List ℕ → Bool) → ℕ → Vec ℕ Global × ℕ → Vec ℕ Global × ℕ
raised passes reader b = (b.0, if passes b.0.items then max b.1 reader else b.1)

-- the key that comes right after this one
abbrev pub after : List ℕ → List ℕ
after key = key ++ 0 ∷ []

-- the range of the key alone has both of its boundaries
abbrev pub IsApart : Marks → List ℕ → Type 0
IsApart marks key = IsBoundary key marks × IsBoundary (after key) marks
