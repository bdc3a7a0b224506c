use Rattle.std.proofs.Common.{◌≡◌, Some, ap, sym, ◌∙◌}
use Rattle.std.specs.Prelude.{unwrap_or}
use Rattle.std.specs.Option.{option_copied}
use Rattle.xa_script.specs.declared.line.Line.TheVariants.{Unknown}
use Rattle.xa_script.specs.Words.{alone, words_behind}
use Rattle.xa_script.proofs.Places.{not_alone}
use Rattle.xa_script.proofs.line.read_bare.Goals as goal

pub returns-in-Some-clause-value : goal.returns-in-Some-clause-value
returns-in-Some-clause-value c =
    let some : option_copied c.args.words ≡ Some c.in-Some.field-0.now = ap option_copied c.in-Some.is in
    sym (ap (λ line. unwrap_or line Unknown) (ap (λ rest. alone c.args.said (words_behind rest)) some ∙ not_alone c.args.said c.in-Some.field-0.now))
