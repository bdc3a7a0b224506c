-- The low water: a timestamp below which no known branch stands, and none will. And one below which none works, and none
-- will.
use Rattle.std.specs.Prelude.{ℕ, ◌==◌, Bool, ◌&&◌, Option, Some, None, List, [], ◌∷◌, min, is_some, unwrap_or}
use Rattle.std.specs.Prelude.{if◌then◌else◌}
use Rattle.std.specs.List.{list_any}
use Rattle.xa_model.specs.State.{State, Branch, name_of, is_working, timestamp_of}

-- a branch that is known is at work or prepared: committed ones and those that the operator completed aren't
abbrev pub is_known : Branch → Bool
is_known b = is_some (name_of b.phase)

-- some known branch has this timestamp
abbrev pub is_known_at : ℕ → List Branch → Bool
is_known_at t bs = list_any (λ b. is_known b && (b.timestamp == t)) bs

-- the lesser of a timestamp and of another, if there is one
abbrev pub lesser : ℕ → Option ℕ → ℕ
lesser t None = t
lesser t (Some u) = min t u

-- the least timestamp of the known branches, if there are any
abbrev pub least_known : List Branch → Option ℕ
least_known [] = None
least_known (b ∷ bs) = if is_known b then Some (lesser b.timestamp (least_known bs)) else least_known bs

-- the least timestamp of a known branch, or, if there is none, the last that this boot gave: before its first the
-- boot's number times 2^32
abbrev pub low_water : State → ℕ
low_water s = unwrap_or (least_known s.branches) (timestamp_of s.boot s.given)

-- the least timestamp of the branches at work, if there are any
abbrev pub least_working : List Branch → Option ℕ
least_working [] = None
least_working (b ∷ bs) = if is_working b.phase then Some (lesser b.timestamp (least_working bs)) else least_working bs

-- The lesser of the boot's 0th timestamp and of the least at work, which an earlier boot may have given. The low water
-- may be above it, and below it: it is that of a prepared branch too.
abbrev pub work_floor : State → ℕ
work_floor s = lesser (timestamp_of s.boot 0) (least_working s.branches)
