-- Which arguments the words themselves give, so that their values aren't defaults.
use Rattle.std.specs.Prelude.{Bool, true, false, List, Option, Some, bytes_eq, find, option_and_then}
use Rattle.clap.specs.Walk.{Row, Text}
use Rattle.clap.specs.declared.parser.matches.ValueSource.{ValueSource}
use Rattle.clap.specs.declared.parser.matches.ValueSource.TheVariants.{CommandLine}

-- where the value of an argument is from
abbrev pub source_in : Text → List Row → Option ValueSource
source_in id rows = option_and_then (λ r. r.source) (find (λ r. bytes_eq r.id id) rows)

abbrev pub is_words : Option ValueSource → Bool
is_words (Some CommandLine) = true
is_words _ = false

-- the words give the argument
abbrev pub is_given : Text → List Row → Bool
is_given id rows = is_words (source_in id rows)
