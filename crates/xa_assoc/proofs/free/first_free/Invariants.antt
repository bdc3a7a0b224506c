use Rattle.std.proofs.Common.{◌≡◌, ℕ, ◌*◌, ◌<◌, false, List}
use Rattle.xa_assoc.specs.Free.{is_free}
use Rattle.xa_assoc.proofs.free.first_free.Given as goal

pub record Passed (free : List ℕ) (before index : ℕ) : Type 0 where
  pub counted : before ≡ 64 * index
  pub none : (k : ℕ) → k < before → is_free free k ≡ false

abbrev pub invariant-loop-word : goal.invariant-loop-word
invariant-loop-word l = Passed l.free l.before l.word-index
