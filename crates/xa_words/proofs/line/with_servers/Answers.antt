use Rattle.xa_words.specs.Line.{serve_shape, shutdown_shape, talk_shape, tick_shape}
use Rattle.xa_words.proofs.line.with_servers.Goals as goal

pub returns : goal.returns
returns c app builds =
    let one = c.in_ok-line.ensures app serve_shape builds c.serve_command.ensures in
    let two = c.in_ok-line-2.ensures _ shutdown_shape one c.shutdown_command.ensures in
    let three = c.in_ok-line-3.ensures _ talk_shape two c.talk_command.ensures in
    c.with_command-4.ensures _ tick_shape three c.tick_command.ensures
