use Rattle.std.proofs.Common.{◌≡◌, ℕ, ◌||◌, false, List, [], ◌∷◌, map, take, refl, sym, ap, ◌∙◌, Vec, Global, arith}
use Rattle.std.specs.Prelude.{bytes_eq, get_or}
use Rattle.std.specs.List.{list_any}
use Rattle.std.proofs.Math.Seq.{take_all}
use Rattle.std.proofs.lemmas.List.Folds.{list_any_at, list_any_more}
use Rattle.mv_ranges.specs.Ranges.{is_one}
use Rattle.mv_ranges.proofs.marks.is_one.Goals as goal

among : (key : List ℕ) (ks : List (Vec ℕ Global)) → is_one key (map (λ k. k.items) ks) ≡ list_any (λ k. bytes_eq k.items key) ks
among key [] = refl
among key (k ∷ ks) = ap (λ b. bytes_eq k.items key || b) (among key ks)

pub loop-one-init : goal.loop-one-init
loop-one-init c = refl

pub returns-then-eq : goal.returns-then-eq
returns-then-eq c =
    let key = c.args.key.now.items in
    let here = ap (λ k. bytes_eq k.items key) (sym c.one-item.is) ∙ sym c.eq.ensures ∙ c.if-eq.true in
    sym (among key c.args.keys.now ∙ list_any_at (λ k. bytes_eq k.items key) c.args.keys.now c.loop-one.one-index c.one-item.result c.loop-one-test.true here)

pub loop-one-preserved : goal.loop-one-preserved
loop-one-preserved c =
    let key = c.args.key.now.items in
    let here : bytes_eq (get_or c.args.keys.now c.loop-one.one-index c.one-item.result).items key ≡ false =
    ap (λ k. bytes_eq k.items key) (sym c.one-item.is) ∙ sym c.eq.ensures ∙ c.if-eq.false in
    list_any_more (λ k. bytes_eq k.items key) c.args.keys.now c.loop-one.one-index c.one-item.result c.loop-one-test.true
    ∙ (ap (λ b. b || bytes_eq (get_or c.args.keys.now c.loop-one.one-index c.one-item.result).items key) c.loop-one.invariant ∙ here)

pub returns : goal.returns
returns c =
    let key = c.args.key.now.items in
    let whole : take c.loop-one.one-index c.args.keys.now ≡ c.args.keys.now = take_all c.loop-one.one-index c.args.keys.now (omega (arith, c.loop-one-test.false)) in
    sym (among key c.args.keys.now ∙ ap (list_any (λ k. bytes_eq k.items key)) (sym whole) ∙ c.loop-one.invariant)
