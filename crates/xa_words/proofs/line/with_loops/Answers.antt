use Rattle.xa_words.specs.Line.{audit_rule, connections_rule, loops_rule, workers_rule}
use Rattle.xa_words.proofs.line.with_loops.Goals as goal

pub returns : goal.returns
returns c app builds =
    let one = c.in_ok-command.ensures app workers_rule audit_rule builds c.workers.ensures c.audit.ensures in
    c.with_two-2.ensures _ connections_rule loops_rule one c.connections.ensures c.loops.ensures
