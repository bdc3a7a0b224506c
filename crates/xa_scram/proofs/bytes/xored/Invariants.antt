use Rattle.std.proofs.Common.{◌≡◌, ℕ, ◌<◌, length, get_or}
use Rattle.std.specs.Prelude.{bit_xor}
use Rattle.xa_scram.proofs.bytes.xored.Given as goal

abbrev pub invariant-loop-i : goal.invariant-loop-i
invariant-loop-i l = record {
  len : length l.all ≡ 32;
  front : (k : ℕ) → k < l.i → get_or l.all k 0 ≡ bit_xor (get_or l.left k 0) (get_or l.right k 0);
}
