-- Which mark stands over each key.
use Rattle.std.specs.Prelude.{ℕ, Bool, not, ◌&&◌, if◌then◌else◌, bytes_eq, max, List, [], ◌∷◌, Vec}
use Rattle.std.specs.List.{list_any}
use Rattle.std.specs.declared.alloc.Global.{Global}
pub use Rattle.xa_model.specs.Ranges.{Range, is_before, holds}
use Rattle.mv_ranges.specs.declared.ranges.Ranges.{Ranges}

-- the boundaries, ascending, each with the mark of the keys from it on
abbrev pub Boundaries : Type 0
Boundaries = List (Vec ℕ Global × ℕ)

-- the mark of the last boundary that isn't above the key, `mark` if there is none
abbrev pub last_mark : ℕ → List ℕ → Boundaries → ℕ
last_mark mark key [] = mark
last_mark mark key (b ∷ later) = if is_before key b.0.items then mark else last_mark b.1 key later

-- the greatest timestamp of a scan that walked the key; 0 if there was none
abbrev pub mark_over : List ℕ → Ranges → ℕ
mark_over key ranges = last_mark 0 key ranges.marks.entries

-- the key is one of these
abbrev pub is_one : List ℕ → List (List ℕ) → Bool
is_one key keys = list_any (λ k. bytes_eq k key) keys

-- the range holds the key, and it is none of these
abbrev pub holds_but : Range → List (List ℕ) → List ℕ → Bool
holds_but range but key = holds range key && not (is_one key but)

-- the mark over a key once a reader has walked a range, but for these keys
abbrev pub walked : Range → List (List ℕ) → ℕ → List ℕ → ℕ → ℕ
walked range but reader key mark = if holds_but range but key then max mark reader else mark
