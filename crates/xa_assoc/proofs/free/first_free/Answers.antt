use Rattle.std.proofs.Common.{◌≡◌, ℕ, ◌+◌, ◌<◌, ◌^◌, true, false, get_or, arith, rules, w64}
use Rattle.std.specs.Int.{trailing_zeros}
use Rattle.xa_assoc.specs.Free.{is_free}
use Rattle.xa_assoc.proofs.Bits.{first_index}
use Rattle.xa_assoc.proofs.free.first_free.Goals as goal

first : (c : goal.After-from) → (is_free c.args.free.now (c.loop-word.before + trailing_zeros w64 (get_or c.args.free.now c.loop-word.word-index 0)) ≡ true)
    × ((k : ℕ) → k < c.loop-word.before + trailing_zeros w64 (get_or c.args.free.now c.loop-word.word-index 0) → is_free c.args.free.now k ≡ false)
first c =
    let low : 0 < get_or c.args.free.now c.loop-word.word-index 0 = omega arith in
    let small : get_or c.args.free.now c.loop-word.word-index 0 < 2 ^ 64 = search rules in
    rw c.loop-word.invariant.counted (first_index c.args.free.now c.loop-word.word-index low small (rw (← c.loop-word.invariant.counted) c.loop-word.invariant.none))

pub returns-then-word-ne0-clause-free : goal.returns-then-word-ne0-clause-free
returns-then-word-ne0-clause-free c = rw c.from.ensures (first c).0

pub returns-then-word-ne0-clause-least : goal.returns-then-word-ne0-clause-least
returns-then-word-ne0-clause-least c = rw c.from.ensures (first c).1
