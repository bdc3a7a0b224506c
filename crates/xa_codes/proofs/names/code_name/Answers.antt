use Rattle.std.proofs.Common.{sym, ap, rules, unwrap_or, codes}
use Rattle.std.specs.Option.{option_map}
use Rattle.xa_codes.specs.Names.{named}
use Rattle.xa_codes.proofs.Absent.{DiffersFromEach, find_absent}
use Rattle.xa_codes.proofs.names.code_name.Goals as goal

-- the number differs from each code of the table
pub returns-in_default : goal.returns-in_default
returns-in_default c =
    let differs : DiffersFromEach c.args.code named =
    (search rules, (search rules, (search rules, (search rules, (search rules, (search rules, (search rules, (search rules, (search rules, (search rules, (search rules, (search rules, (search rules, (search rules, (search rules, (search rules, (search rules, (search rules, (search rules, (search rules, (search rules, (search rules, (search rules, (search rules, tt)))))))))))))))))))))))) in
    ap (λ found. unwrap_or (option_map (λ entry. entry.1) found) (codes "?")) (sym (find_absent c.args.code named differs))
