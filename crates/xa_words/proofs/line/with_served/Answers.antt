use Rattle.xa_words.specs.Line.{log_rule, name_rule, port_rule, serve_log_bytes_rule}
use Rattle.xa_words.proofs.line.with_served.Goals as goal

pub returns : goal.returns
returns c app builds =
    let one = c.in_ok-command.ensures app log_rule name_rule builds c.log.ensures c.name.ensures in
    c.with_two-2.ensures _ port_rule serve_log_bytes_rule one c.port.ensures c.serve_log_bytes.ensures
