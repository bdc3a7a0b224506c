use Rattle.std.proofs.Common.{Err, ℕ, ◌≡◌, ◌∙◌, [], ap, map, refl, string_bytes, subst, sym, true, IsSomeAnd}
use Rattle.clap.specs.Faults.{fault_of, is_simple_and_free}
use Rattle.clap.specs.Kinds.{FailsBy}
use Rattle.clap.specs.Simple.{is_simple, subcommand_of, subcommand_rows_of}
use Rattle.xa_words.specs.Asks.{AsksOf, IsCommand}
use Rattle.xa_words.specs.Line.{xarm}
use Rattle.xa_words.proofs.Commands.{names_a_command}
use Rattle.xa_words.proofs.words.read_words.Goals as goal

is_plain : is_simple xarm ≡ true
is_plain = refl

is_free : is_simple_and_free xarm ≡ true
is_free = refl

pub returns-in-Ok-clause-fails : goal.returns-in-Ok-clause-fails
returns-in-Ok-clause-fails c =
    let app = c.in_ok-command_line.ensures.app_is in
    subst (λ a. fault_of a (map string_bytes c.args.words.now) ≡ []) app
    (c.in-Ok.ensures.kinds (ap is_simple_and_free app ∙ is_free))

pub read_matches-requires : goal.read_matches-requires
read_matches-requires c =
    let app = c.in_ok-command_line.ensures.app_is in
    let words = map string_bytes c.args.words.now in
    let none : fault_of xarm words ≡ [] =
    subst (λ a. fault_of a words ≡ []) app (c.in-Ok.ensures.kinds (ap is_simple_and_free app ∙ is_free)) in
    let rows : subcommand_rows_of c.in-Ok.matches ≡ subcommand_of xarm words =
    (c.in-Ok.ensures.matches (ap is_simple app ∙ is_plain)).1 ∙ ap (λ a. subcommand_of a words) app in
    subst (λ o. IsSomeAnd o (λ found. IsCommand found.0)) (sym rows) (names_a_command words none)

pub returns-in-Ok-clause-asks : goal.returns-in-Ok-clause-asks
returns-in-Ok-clause-asks c =
    let app = c.in_ok-command_line.ensures.app_is in
    let words = map string_bytes c.args.words.now in
    let rows : subcommand_rows_of c.in-Ok.matches ≡ subcommand_of xarm words =
    (c.in-Ok.ensures.matches (ap is_simple app ∙ is_plain)).1 ∙ ap (λ a. subcommand_of a words) app in
    subst (λ o. AsksOf o c.read_matches.result) rows c.read_matches.ensures

pub returns-in-Err-clause-fails : goal.returns-in-Err-clause-fails
returns-in-Err-clause-fails c =
    let app = c.in_ok-command_line.ensures.app_is in
    subst (λ a. FailsBy {T = ℕ} (fault_of a (map string_bytes c.args.words.now)) (Err c.in-Err.fault)) app (c.in-Err.ensures.kinds (ap is_simple_and_free app ∙ is_free))
