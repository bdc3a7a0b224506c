use Rattle.xa_words.proofs.Building.{adds_rule, gives_rule}
use Rattle.xa_words.proofs.line.with_two.Goals as goal

pub returns : goal.returns
returns c app first second builds is_first is_second =
    let one = adds_rule c.args.command c.args.one c.in_ok-arg.field-0 app first builds is_first c.in_ok-arg.ensures in
    gives_rule c.in_ok-arg.field-0 c.args.two c.arg-2.result _ second one is_second c.arg-2.ensures
