use Rattle.std.proofs.Common.{◌≡◌, sym, Some}
use Rattle.xa_script.proofs.Places.{not_one}
use Rattle.xa_script.proofs.words.only_word.Goals as goal

-- with a rest there are two words or more
pub returns-in-Some : goal.returns-in-Some
returns-in-Some c =
    let line : c.args.line ≡ Some c.in_ok-line.field-0 = c.in_ok-line.was in
    sym (rw (line, c.first_word.ensures, c.in-Some.is) (not_one c.first_word.result.0.now c.in-Some.field-0.now))
