use Rattle.std.proofs.Common.{◌<◌, arith}
use Rattle.xa_script.proofs.Digits.{fits_eight}
use Rattle.xa_script.proofs.flags.read_bits.Goals as goal

pub overflow_mul-bits : goal.overflow_mul-bits
overflow_mul-bits c =
    omega (arith, fits_eight c.loop-byte.byte-index c.loop-byte.bits 0 (omega arith) c.loop-byte.invariant.bound (omega arith))

pub overflow_add-bits : goal.overflow_add-bits
overflow_add-bits c =
    let digit : c.in_ok-read_digit.field-0 < 16 = c.in_ok-read_digit.ensures.small in
    omega (arith, fits_eight c.loop-byte.byte-index c.loop-byte.bits c.in_ok-read_digit.field-0 (omega arith) c.loop-byte.invariant.bound digit)
