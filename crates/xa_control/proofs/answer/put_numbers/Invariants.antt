use Rattle.std.proofs.Common.{◌≡◌, ◌<◌, ◌^◌, ◌++◌, take, All}
use Rattle.std.specs.Int.{to_be_bytes, w64}
use Rattle.std.specs.List.{flat_map}
use Rattle.xa_control.proofs.answer.put_numbers.Given as goal

abbrev pub invariant-loop-number : goal.invariant-loop-number
invariant-loop-number l = record {
  bytes : l.out.items ≡ l.initial.out.items ++ flat_map (to_be_bytes w64) (take l.number-index l.numbers);
  holds : All (λ n. n < 2 ^ 64) (take l.number-index l.numbers);
}
