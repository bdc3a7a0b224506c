use Rattle.std.proofs.Common.{sym, ap, refl, codes, rules}
use Rattle.std.specs.Option.{option_map}
use Rattle.xa_script.specs.Flags.{named_flags}
use Rattle.xa_script.proofs.Tables.{AllTexts, DiffersFromEach, find_absent, no_text_differs}
use Rattle.xa_script.proofs.flags.read_flag.Goals as goal
use lib.Utf8.{encode}

-- a word that is no text is in no table of texts
pub returns-in_default : goal.returns-in_default
unfolding encode
returns-in_default c =
    let texts : AllTexts named_flags =
    ((codes "TMASYNC", (refl, refl)), ((codes "TMONEPHASE", (refl, refl)), ((codes "TMFAIL", (refl, refl)), ((codes "TMNOWAIT", (refl, refl)), ((codes "TMRESUME", (refl, refl)), ((codes "TMSUCCESS", (refl, refl)), ((codes "TMSUSPEND", (refl, refl)), ((codes "TMSTARTRSCAN", (refl, refl)), ((codes "TMENDRSCAN", (refl, refl)), ((codes "TMMULTIPLE", (refl, refl)), ((codes "TMJOIN", (refl, refl)), ((codes "TMMIGRATE", (refl, refl)), tt)))))))))))) in
    let differs = no_text_differs c.args.name.now named_flags c.in_default.ensures.cases.0 texts in
    ap (option_map (λ entry. entry.1)) (sym (find_absent c.args.name.now named_flags differs))

pub returns-in_default-name : goal.returns-in_default-name
returns-in_default-name c =
    let differs : DiffersFromEach c.args.name.now named_flags =
    (search rules, (search rules, (search rules, (search rules, (search rules, (search rules, (search rules, (search rules, (search rules, (search rules, (search rules, (search rules, tt)))))))))))) in
    ap (option_map (λ entry. entry.1)) (sym (find_absent c.args.name.now named_flags differs))
