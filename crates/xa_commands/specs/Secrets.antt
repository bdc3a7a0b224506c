-- Which line is a secret.
use Rattle.std.specs.Io.BufRead.{first_piece, strip_last}
use Rattle.std.specs.Prelude.{ℕ, ◌≡◌, ◌<◌, ◌≤◌, List, [], length, take}
use Rattle.xa_commands.specs.declared.secret.TheConstants.{MOST_LINE, MOST_SECRET}
use Rattle.xa_commands.specs.declared.secret_fault.SecretFault.{SecretFault}
use Rattle.xa_commands.specs.declared.secret_fault.SecretFault.TheVariants.{Empty, Shared, TooLong}

-- A text's first line, of which no more is read than the longest may have: without the line feed, and then the carriage return,
-- that end it.
abbrev pub line_of : List ℕ → List ℕ
line_of text = strip_last 13 (first_piece 10 (take MOST_LINE text))

abbrev pub IsSecret : List ℕ → Type 0
IsSecret line = (1 ≤ length line) × (length line ≤ MOST_SECRET)

-- by the fault that tells so: others than these two say nothing of the line
abbrev pub IsNoSecret : List ℕ → SecretFault → Type 0
IsNoSecret line Empty = line ≡ []
IsNoSecret line TooLong = MOST_SECRET < length line
IsNoSecret line Shared = ⊥
IsNoSecret line fault = Unit {0}
