use Rattle.std.proofs.Common.{◌≡◌, ◌*◌, ◌-◌, ◌<◌, ◌^◌, ◌++◌, length, All}
use Rattle.std.specs.Int.{to_be_bytes, w64}
use Rattle.std.specs.List.{flat_map}
use Rattle.xa_control.proofs.answer_reader.numbers_of.Given as goal

abbrev pub invariant-loop : goal.invariant-loop
invariant-loop l = record {
  parts : l.bytes ≡ flat_map (to_be_bytes w64) l.numbers.items ++ l.rest;
  count : length l.numbers.items ≡ l.counter;
  left : length l.rest ≡ 8 * (l.count - l.counter);
  holds : All (λ n. n < 2 ^ 64) l.numbers.items;
}
