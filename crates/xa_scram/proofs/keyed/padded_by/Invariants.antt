use Rattle.std.proofs.Common.{◌≡◌, ℕ, ◌<◌, ◌≤◌, length, get_or}
use Rattle.std.specs.Prelude.{bit_xor}
use Rattle.xa_scram.proofs.keyed.padded_by.Given as goal

abbrev pub invariant-loop-i : goal.invariant-loop-i
invariant-loop-i l = record {
  len : length l.block ≡ 64;
  front : (k : ℕ) → k < l.i → get_or l.block k 0 ≡ bit_xor (get_or l.key k 0) l.byte;
  back : (k : ℕ) → l.i ≤ k → k < 64 → get_or l.block k 0 ≡ l.byte;
}
