use Rattle.std.proofs.Common.{◌≡◌, ℕ, List, length, take, drop, sym, ◌∙◌, ap, arith, true, false, nat_le}
use Rattle.std.specs.Int.{w32, from_be_bytes}
use Rattle.std.proofs.lemmas.Bool.{cond-true, cond-false}
use Rattle.std.proofs.lemmas.Bool.Decides.{nat_tests}
use Rattle.std.proofs.lemmas.List.{take-take}
use Rattle.xa_log.specs.Believed.Chain.{size_at}
use Rattle.xa_log.specs.Believed.Generation.{number_in}
use Rattle.xa_copy.proofs.record.number_of.Goals as goal

pub returns-then-body-lt-NUMBER_END : goal.returns-then-body-lt-NUMBER_END
unfolding number_in
returns-then-body-lt-NUMBER_END c =
    let short : nat_le 5 (length c.args.body.now) ≡ false = grind (arith, nat_tests) in
    sym (cond-false (nat_le 5 (length c.args.body.now)) (from_be_bytes w32 (take 4 (drop 1 c.args.body.now))) 0 short)

pub returns : goal.returns
unfolding number_in size_at
returns c =
    let long : nat_le 5 (length c.args.body.now) ≡ true = grind (arith, nat_tests) in
    c.size_of.ensures.value ∙ ap (λ (l : List ℕ). from_be_bytes w32 l) (take-take 4 4 (drop 1 c.args.body.now) (omega arith))
    ∙ sym (cond-true (nat_le 5 (length c.args.body.now)) (from_be_bytes w32 (take 4 (drop 1 c.args.body.now))) 0 long)
