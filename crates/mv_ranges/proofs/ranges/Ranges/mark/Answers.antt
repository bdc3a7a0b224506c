use Rattle.std.proofs.Common.{◌≡◌, true, false, ap, ◌∙◌, sym, refl, Some}
use Rattle.std.specs.Prelude.{option_map}
use Rattle.std.specs.Ordering.{is_le, is_some_and}
use Rattle.mv_ranges.specs.Ranges.{is_before, holds}
use Rattle.xa_model.proofs.KeyOrder.{cmp, le_not_before}
use Rattle.mv_ranges.proofs.Written.{agree, backwards, not_gt}
use Rattle.mv_ranges.proofs.ranges.Ranges.mark.Goals as goal

pub returns-then-le-clause-marked : goal.returns-then-le-clause-marked
returns-then-le-clause-marked c =
    λ q.
    let from = c.in_ok-from.from.items in
    let to = c.in_ok-to.to.items in
    let le : is_le (cmp to from) ≡ true = ap (is_some_and is_le) (sym (agree to from)) ∙ (sym c.le.ensures ∙ c.if-le.true) in
    let copied : from ≡ c.args.from.now = c.in_ok-from.ensures in
    let end : to ≡ c.in-Some.to.now = c.in_ok-to.ensures in
    let back : is_before c.args.from.now c.in-Some.to.now ≡ false = ap (λ x. is_before x c.in-Some.to.now) (sym copied) ∙ (ap (is_before from) (sym end) ∙ le_not_before to from true le) in
    let none : holds (record { from = c.args.from.now; to = Some c.in-Some.to.now }) q ≡ false = backwards c.args.from.now c.in-Some.to.now q back in
    let out : holds (record { from = c.args.from.now; to = option_map (λ t. t.now) c.args.to }) q ≡ false = rw c.in-Some.is none in
    rw out refl

pub mark_between-requires-2 : goal.mark_between-requires-2
mark_between-requires-2 c =
    let from = c.in_ok-from.from.items in
    let to = c.in_ok-to.to.items in
    let gt : is_le (cmp to from) ≡ false = ap (is_some_and is_le) (sym (agree to from)) ∙ (sym c.le.ensures ∙ c.if-le.false) in
    not_gt from to gt
