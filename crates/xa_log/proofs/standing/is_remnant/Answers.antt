use Rattle.std.proofs.Common.{◌≡◌, ◌∙◌, Bool, ◌||◌, sym, ap, arith, false, nat_le}
use Rattle.std.proofs.lemmas.Bool.{or_left}
use Rattle.std.proofs.lemmas.Bool.Decides.{nat_tests}
use Rattle.std.proofs.lemmas.List.{take_all}
use Rattle.xa_log.specs.Believed.Chain.{preamble}
use Rattle.xa_log.specs.declared.format.Format.TheVariants.{One, Two}
use Rattle.xa_log.specs.Believed.Standing.{is_part_of}
use Rattle.xa_log.proofs.Standings.{remnant_long}
use Rattle.xa_log.proofs.standing.is_remnant.Goals as goal

pub returns-then-is_part : goal.returns-then-is_part
returns-then-is_part c file len front =
    let whole : c.args.front.now ≡ file = front ∙ take_all 12 file (omega (arith, len, c.if-len.true)) in
    let one : c.is_part.result ≡ is_part_of (preamble One) file = c.is_part.ensures ∙ (λ i. is_part_of (c.preamble.ensures i) (whole i)) in
    c.if-is_part.true ∙ sym (or_left (is_part_of (preamble One) file) (is_part_of (preamble Two) file) (sym one ∙ c.if-is_part.true))

pub returns-else-is_part : goal.returns-else-is_part
returns-else-is_part c file len front =
    let whole : c.args.front.now ≡ file = front ∙ take_all 12 file (omega (arith, len, c.if-len.true)) in
    let one : c.is_part.result ≡ is_part_of (preamble One) file = c.is_part.ensures ∙ (λ i. is_part_of (c.preamble.ensures i) (whole i)) in
    let two : c.is_part-else-is_part.result ≡ is_part_of (preamble Two) file =
    c.is_part-else-is_part.ensures ∙ (λ i. is_part_of (c.preamble-else-is_part.ensures i) (whole i)) in
    two ∙ sym (ap (λ (t : Bool). t || is_part_of (preamble Two) file) (sym one ∙ c.if-is_part.false))

pub returns-else-len : goal.returns-else-len
returns-else-len c file len front =
    let long : nat_le c.args.len 12 ≡ false = grind (arith, nat_tests) in
    long ∙ sym (remnant_long file (omega (arith, len)))
