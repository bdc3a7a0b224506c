-- Where two files, of which one has the log, show that they were damaged.
use Rattle.std.specs.Prelude.{ℕ, ◌+◌, Bool, true, false, if◌then◌else◌, List, length, Option, Some, None}
use Rattle.xa_limits.specs.declared.TheConstants.{FIRST_OFFSET}
use Rattle.xa_log.specs.Believed.Chain.{format_in, logged, text}
use Rattle.xa_log.specs.Believed.Damage.{is_headless}
use Rattle.xa_log.specs.Believed.Pair.{on_first, current_of, is_broken}
use Rattle.xa_log.specs.declared.finding.Damage.{Damage}

-- at a file's first record
abbrev pub at_first : Bool → Damage
at_first first = record { on_first = first; number = 1; at = FIRST_OFFSET }

-- after the records of a file's log
abbrev pub behind_last : Bool → List ℕ → Damage
behind_last first file = record {
  on_first = first;
  number = length (logged file) + 1;
  at = length (text (format_in file) (logged file));
}

-- where a damaged pair breaks off: before a first record that is shown, in the first file before the second; otherwise
-- after the current file's records
abbrev pub place_of : List ℕ → List ℕ → Damage
place_of first second =
    if is_headless first then at_first true
    else (if is_headless second then at_first false
    else behind_last (on_first first second) (current_of first second))

abbrev pub damage_of : List ℕ → List ℕ → Option Damage
damage_of first second = if is_broken first second then Some (place_of first second) else None
