use Rattle.std.proofs.Common.{◌≡◌, ℕ, List, ap, ◌∙◌, map, not, Some, None}
use Rattle.std.specs.Prelude.{option_map}
use Rattle.std.specs.List.{filter}
use Rattle.mv_ranges.specs.Ranges.{Range, Boundaries, holds, holds_but, is_one}
use Rattle.mv_ranges.specs.Marks.{keys_below, lower_keys}
use Rattle.mv_ranges.proofs.Written.{held_to, held_from, alike_filter, filter_both, ok_along}
use Rattle.mv_ranges.proofs.marks.lower.Goals as goal

-- those of the range that are none of some keys
both : (r : Range) (but : List (List ℕ)) (n : ℕ) (bs xs : Boundaries) → xs ≡ filter (λ b. holds r b.0.items) bs
    → lower_keys (λ k. not (is_one k but)) n xs ≡ lower_keys (holds_but r but) n bs
both r but n bs xs e =
    ap (lower_keys (λ k. not (is_one k but)) n) e
    ∙ ap (keys_below n) (filter_both (λ b. holds r b.0.items) (λ b. not (is_one b.0.items but)) bs)

pub returns-in-Some : goal.returns-in-Some
returns-in-Some c =
    let from = c.args.from.now.items in
    let to = c.in-Some.to.now.items in
    let but = map (λ k. k.items) c.args.but.now in
    let bs = c.args.marks.now.entries in
    let found : lower_keys (λ k. not (is_one k but)) c.args.reader c.range.result ≡ lower_keys (holds_but (record { from = from; to = Some to }) but) c.args.reader bs =
    both (record { from = from; to = Some to }) but c.args.reader bs c.range.result (c.range.ensures.between tt ∙ alike_filter _ _ bs (λ b. held_to from to b.0.items)) in
    let all : lower_keys (λ k. not (is_one k but)) c.args.reader c.range.result ≡ lower_keys (holds_but (record { from = from; to = option_map (λ t. t.now.items) c.args.to }) but) c.args.reader bs = rw c.in-Some.is found in
    ok_along c.copies.result (λ v. map (λ k. k.items) v.items) _ _ all c.copies.ensures

pub returns-in-None : goal.returns-in-None
returns-in-None c =
    let from = c.args.from.now.items in
    let but = map (λ k. k.items) c.args.but.now in
    let bs = c.args.marks.now.entries in
    let found : lower_keys (λ k. not (is_one k but)) c.args.reader c.range-in-None.result ≡ lower_keys (holds_but (record { from = from; to = None }) but) c.args.reader bs =
    both (record { from = from; to = None }) but c.args.reader bs c.range-in-None.result (c.range-in-None.ensures.between tt ∙ alike_filter _ _ bs (λ b. held_from from b.0.items)) in
    let all : lower_keys (λ k. not (is_one k but)) c.args.reader c.range-in-None.result ≡ lower_keys (holds_but (record { from = from; to = option_map (λ t. t.now.items) c.args.to }) but) c.args.reader bs = rw c.in-None.is found in
    ok_along c.copies-in-None.result (λ v. map (λ k. k.items) v.items) _ _ all c.copies-in-None.ensures
