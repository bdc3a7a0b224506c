use Rattle.xa_control.proofs.Spelled.{only_first}
use Rattle.xa_control.proofs.control.first_message.Goals as goal

pub returns-clause-only : goal.returns-clause-only
returns-clause-only c k h =
    let m = only_first c.args.message.now k h in
    cc (c.in_ok-message_of.ensures.only m.0 m.2 m.3, m.1)
