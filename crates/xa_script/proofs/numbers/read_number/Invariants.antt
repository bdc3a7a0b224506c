use Rattle.std.proofs.Common.{◌≡◌, ◌<◌, ◌^◌, drop}
use Rattle.xa_script.specs.Numbers.{below_limit, value_from}
use Rattle.xa_script.proofs.numbers.read_number.Given as goal

-- the number so far, with the digits that are left
abbrev pub invariant-loop-byte : goal.invariant-loop-byte
invariant-loop-byte l = record {
  same : below_limit (value_from 0 l.word) ≡ below_limit (value_from l.number (drop l.byte-index l.word));
  fits : l.number < 2 ^ 64;
}
