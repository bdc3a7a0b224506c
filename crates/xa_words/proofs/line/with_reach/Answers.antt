use Rattle.xa_words.specs.Line.{host_rule, port_rule, socket_rule, user_rule}
use Rattle.xa_words.proofs.line.with_reach.Goals as goal

pub returns : goal.returns
returns c app builds =
    let one = c.in_ok-command.ensures app port_rule host_rule builds c.port.ensures c.host.ensures in
    c.with_two-2.ensures _ socket_rule user_rule one c.socket.ensures c.user.ensures
