use Rattle.std.proofs.Common.{◌≡◌, length}
use Rattle.std.specs.Option.{option_copied}
use Rattle.xa_script.specs.Flags.{joined_from}
use Rattle.xa_script.specs.Parts.{parts, parts_behind}
use Rattle.xa_script.proofs.flags.read_names.Given as goal

-- the flags so far, with those of the names that are left
abbrev pub invariant-loop-rest : goal.invariant-loop-rest
invariant-loop-rest l = joined_from 0 (parts 124 l.word) ≡ joined_from l.flags (parts_behind 124 (option_copied l.rest))

abbrev pub decreases-loop-rest : goal.decreases-loop-rest
decreases-loop-rest l = length (parts_behind 124 (option_copied l.rest))
