use Rattle.std.proofs.Common.{◌≡◌, List, Option, Some, None, IsSomeAnd, option_map, subst}
use Rattle.std.specs.Box.{box_value}
use Rattle.clap.specs.Matches.{found_of}
use Rattle.clap.specs.Walk.{Row, Text, rows_of}
use Rattle.clap.specs.declared.parser.matches.ArgMatches.TheViews.{out-ArgMatches, out-SubCommand}
use Rattle.xa_words.specs.Asks.{AsksBy, AsksOf, IsCommand}
use Rattle.xa_words.specs.declared.asked.Asked.{Asked}
use Rattle.xa_words.proofs.words.read_matches.Goals as goal

-- what holds of the name that is found holds of the name
named_first : {B R : Type 0} (P : Text → Type 0) (name_of : B → Text) (rest_of : B → R) (o : Option B) (name : Text)
    → Some name ≡ option_map name_of o → IsSomeAnd {T = Text × R} (option_map (λ b. (name_of b, rest_of b)) o) (λ found. P found.0) → P name
named_first P name_of rest_of None name is found = absurd (cc is)
named_first P name_of rest_of (Some b) name is found =
    let same : name_of b ≡ name = cc in
    subst P same found

-- what is asked by the name and the rows that are found
asks_first : {B : Type 0} (name_of : B → Text) (rest_of : B → List Row) (o : Option B) (name : Text) (rows : List Row) (asked : Asked)
    → Some name ≡ option_map name_of o → Some rows ≡ option_map (λ (p : Text × List Row). p.1) (option_map (λ b. (name_of b, rest_of b)) o)
    → AsksBy name rows asked → AsksOf (option_map (λ b. (name_of b, rest_of b)) o) asked
asks_first name_of rest_of None name rows asked named has asks = absurd (cc named)
asks_first name_of rest_of (Some b) name rows asked named has asks =
    let same : name ≡ name_of b = cc in
    let these : rows ≡ rest_of b = cc in
    subst (λ n. AsksBy n (rest_of b) asked) same (subst (λ r. AsksBy name r asked) these asks)

pub read_command-requires : goal.read_command-requires
read_command-requires c =
    named_first IsCommand (λ b. (out-SubCommand (box_value b)).name.now) (λ b. rows_of (found_of (out-SubCommand (box_value b)).matches))
    (out-ArgMatches c.args.matches.now).subcommand c.in-Some.command.now c.in-Some.ensures.name c.requires

pub returns-in-Some : goal.returns-in-Some
returns-in-Some c =
    asks_first (λ b. (out-SubCommand (box_value b)).name.now) (λ b. rows_of (found_of (out-SubCommand (box_value b)).matches))
    (out-ArgMatches c.args.matches.now).subcommand c.in-Some.command.now (rows_of (found_of c.in-Some.found.now)) c.read_command.result
    c.in-Some.ensures.name c.in-Some.ensures.rows c.read_command.ensures
