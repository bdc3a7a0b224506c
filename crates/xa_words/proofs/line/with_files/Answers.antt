use Rattle.xa_words.specs.Line.{check_shape, copy_shape, play_shape, scan_shape, user_shape}
use Rattle.xa_words.proofs.line.with_files.Goals as goal

pub returns : goal.returns
returns c app builds =
    let one = c.in_ok-line.ensures app check_shape builds c.check_command.ensures in
    let two = c.in_ok-line-2.ensures _ copy_shape one c.copy_command.ensures in
    let three = c.in_ok-line-3.ensures _ play_shape two c.play_command.ensures in
    let four = c.in_ok-line-4.ensures _ scan_shape three c.scan_command.ensures in
    c.with_command-5.ensures _ user_shape four c.user_command.ensures
