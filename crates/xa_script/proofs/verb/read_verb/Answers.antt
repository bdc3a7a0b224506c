use Rattle.std.proofs.Common.{sym, ap, refl, codes, rules}
use Rattle.std.specs.Option.{option_map}
use Rattle.xa_script.specs.Requests.{named_verbs}
use Rattle.xa_script.proofs.Tables.{AllTexts, DiffersFromEach, find_absent, no_text_differs}
use Rattle.xa_script.proofs.verb.read_verb.Goals as goal
use lib.Utf8.{encode}

-- a word that is no text is in no table of texts
pub returns-in_default : goal.returns-in_default
unfolding encode
returns-in_default c =
    let texts : AllTexts named_verbs =
    ((codes "open", (refl, refl)), ((codes "close", (refl, refl)), ((codes "start", (refl, refl)), ((codes "end", (refl, refl)), ((codes "prepare", (refl, refl)), ((codes "commit", (refl, refl)), ((codes "rollback", (refl, refl)), ((codes "forget", (refl, refl)), ((codes "recover", (refl, refl)), ((codes "get", (refl, refl)), ((codes "put", (refl, refl)), ((codes "delete", (refl, refl)), ((codes "decide", (refl, refl)), ((codes "doom", (refl, refl)), ((codes "restart", (refl, refl)), ((codes "timeout", (refl, refl)), ((codes "tick", (refl, refl)), ((codes "trim", (refl, refl)), ((codes "branches", (refl, refl)), tt))))))))))))))))))) in
    let differs = no_text_differs c.args.word.now named_verbs c.in_default.ensures.cases.0 texts in
    ap (option_map (λ entry. entry.1)) (sym (find_absent c.args.word.now named_verbs differs))

pub returns-in_default-word : goal.returns-in_default-word
returns-in_default-word c =
    let differs : DiffersFromEach c.args.word.now named_verbs =
    (search rules, (search rules, (search rules, (search rules, (search rules, (search rules, (search rules, (search rules, (search rules, (search rules, (search rules, (search rules, (search rules, (search rules, (search rules, (search rules, (search rules, (search rules, (search rules, tt))))))))))))))))))) in
    ap (option_map (λ entry. entry.1)) (sym (find_absent c.args.word.now named_verbs differs))
