-- How long the answer to a login that failed waits.
use Rattle.std.specs.Prelude.{ℕ, ◌*◌, ◌-◌, ◌^◌, nat_le, if◌then◌else◌}

-- by how many came from there lately: an eighth of a second, each time twice as long, and 8 seconds at most, in milliseconds
abbrev pub pause_of : ℕ → ℕ
pause_of count = if nat_le 7 count then 8000 else 125 * 2 ^ (count - 1)
