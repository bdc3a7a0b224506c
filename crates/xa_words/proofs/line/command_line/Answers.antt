use Rattle.xa_words.specs.Line.{bare, file_shapes, server_shapes, with_commands}
use Rattle.xa_words.proofs.line.command_line.Goals as goal

pub returns : goal.returns
returns c =
    let one = c.in_ok-line.ensures bare c.bare_line.ensures in
    let two = c.in_ok-line-2.ensures (with_commands bare file_shapes) one in
    let three = c.in_ok-line-3.ensures (with_commands (with_commands bare file_shapes) server_shapes) two in
    let four = c.in_ok-line-4.ensures _ three in
    c.with_orders.ensures _ four
