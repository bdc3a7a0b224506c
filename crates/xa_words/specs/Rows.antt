-- The arguments of a command, as `clap` found them.
use Rattle.std.specs.Prelude.{◌≡◌, ℕ, Bool, true, false, List, Option, Some, None, codes, if◌then◌else◌, unwrap_or}
use Rattle.std.specs.Option.{option_map_or}
use Rattle.std.specs.Str.Parse.{digits_value, without_leading_plus}
use Rattle.clap.specs.ValueTests.{is_unsigned_in}
use Rattle.clap.specs.Walk.{Row, Text, first_of, one_of}

-- the text of an argument, or the one that stands for none
abbrev pub text_in : List Row → Text → Text → Text
text_in rows id absent = unwrap_or (first_of id rows) absent

-- the number that a text spells, if it is at most `most`, or the one that stands for none
abbrev pub number_or : ℕ → ℕ → Text → ℕ
number_or most absent text =
    if is_unsigned_in 0 most text then digits_value 10 (without_leading_plus text) else absent

-- the greatest numbers of 16 and of 64 bits
abbrev pub most_16 : ℕ
most_16 = 65535

abbrev pub most_64 : ℕ
most_64 = 18446744073709551615

-- the number of an argument, or the one that stands for none
abbrev pub number_in : List Row → Text → ℕ → ℕ → ℕ
number_in rows id most absent = option_map_or (number_or most absent) (one_of id rows) absent

-- a flag is set
pub record IsSet (text : Option Text) (flag : Bool) : Type 0 where
  pub absent : text ≡ None → flag ≡ false
  pub set : text ≡ Some (codes "true") → flag ≡ true
  pub unset : text ≡ Some (codes "false") → flag ≡ false

-- no path is given, and this port is, which is 0 if none is
abbrev pub IsPort : List Row → ℕ → Type 0
IsPort rows port = (first_of (codes "socket") rows ≡ None) × (port ≡ number_in rows (codes "port") most_16 0)
