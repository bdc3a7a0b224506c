use Rattle.std.proofs.Common.{sym, ap, rules}
use Rattle.std.specs.Option.{option_map}
use Rattle.xa_words.specs.Verbs.{named_verbs}
use Rattle.xa_script.proofs.Tables.{DiffersFromEach, find_absent}
use Rattle.xa_words.proofs.verb.read_verb.Goals as goal

pub returns-in_default : goal.returns-in_default
returns-in_default c =
    let differs : DiffersFromEach c.args.word.now named_verbs =
    (search rules, (search rules, (search rules, (search rules, (search rules, (search rules, (search rules, (search rules, (search rules, (search rules, (search rules, (search rules, tt)))))))))))) in
    ap (option_map (λ entry. entry.1)) (sym (find_absent c.args.word.now named_verbs differs))
