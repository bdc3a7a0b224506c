use Rattle.std.proofs.Common.{arith, get_or, ◌≡◌, ◌<◌, ◌^◌, ℕ}
use Rattle.std.specs.Int.{to_be_bytes, w64}
use Rattle.std.proofs.lemmas.List.{get_or_default}
use Rattle.std.proofs.lemmas.List.Elements.{All-more}
use Rattle.xa_frame.proofs.Lists.{put_more}
use Rattle.xa_control.proofs.answer.put_numbers.Goals as goal

pub loop-number-preserved : goal.loop-number-preserved
loop-number-preserved c =
    let l = c.loop-number in
    let xs = c.args.numbers.now in
    let x : ℕ = get_or xs l.number-index 0 in
    let here : x ≡ get_or xs l.number-index x = get_or_default xs l.number-index 0 x c.loop-number-test.true in
    record {
      bytes = put_more (to_be_bytes w64) xs l.number-index x c.args.out.now.items l.out.items c.put_u64.new.out.items c.loop-number-test.true here l.invariant.bytes c.in_ok-put_u64.ensures;
      holds = All-more (λ n. n < 2 ^ 64) xs l.number-index 0 c.loop-number-test.true l.invariant.holds (omega (arith, c.type_inv.numbers l.number-index));
    }
