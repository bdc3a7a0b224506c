use Rattle.std.proofs.Common.{◌≡◌, ◌<◌, ◌^◌, drop}
use Rattle.xa_script.specs.Flags.{bits_from}
use Rattle.xa_script.proofs.flags.read_bits.Given as goal

-- the bits so far, with the digits that are left
abbrev pub invariant-loop-byte : goal.invariant-loop-byte
invariant-loop-byte l = record {
  value : bits_from 0 l.digits ≡ bits_from l.bits (drop l.byte-index l.digits);
  bound : l.bits < 16 ^ l.byte-index;
}
