use Rattle.xa_words.specs.Line.{open_to_all_rule, users_rule}
use Rattle.xa_words.proofs.Building.{adds_rule, gives_rule}
use Rattle.xa_words.proofs.line.with_logins.Goals as goal

pub returns : goal.returns
returns c app builds =
    let one = adds_rule c.args.command c.users.result c.in_ok-arg.field-0 app users_rule builds c.users.ensures c.in_ok-arg.ensures in
    gives_rule c.in_ok-arg.field-0 c.open_to_all.result c.arg-2.result _ open_to_all_rule one c.open_to_all.ensures c.arg-2.ensures
