use Rattle.xa_words.specs.Line.{listen_rule, socket_group_rule, socket_mode_rule, socket_rule}
use Rattle.xa_words.proofs.line.with_places.Goals as goal

pub returns : goal.returns
returns c app builds =
    let one = c.in_ok-command.ensures app listen_rule socket_rule builds c.listen.ensures c.serve_socket.ensures in
    c.with_two-2.ensures _ socket_mode_rule socket_group_rule one c.socket_mode.ensures c.socket_group.ensures
