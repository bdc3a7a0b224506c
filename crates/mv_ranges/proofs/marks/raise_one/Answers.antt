use Rattle.std.proofs.Common.{◌≡◌, ◌∙◌, ap, sym, None, Some}
use Rattle.std.specs.BTreeMap.{is_at}
use Rattle.std.specs.Map.{lookup, set_value}
use Rattle.mv_ranges.specs.Marks.{Marks}
use Rattle.mv_ranges.proofs.Boundaries.{query}
use Rattle.mv_ranges.proofs.Written.{raised_found, raised_none}
use Rattle.mv_ranges.proofs.marks.raise_one.Goals as goal

pub returns-in-Some : goal.returns-in-Some
returns-in-Some c =
    let key = c.args.key.now.items in
    let bs = c.args.marks.now.entries in
    let here : lookup (is_at (query key)) bs ≡ Some c.in-Some.mark.now = sym c.in-Some.ensures.value in
    (c.get_mut.follows.holds c.max.result).0
    ∙ (ap (λ v. set_value (is_at (query key)) bs v) c.max.ensures ∙ raised_found c.args.reader key c.in-Some.mark.now bs c.in-Some.ensures.ordered here)

pub returns-in_default : goal.returns-in_default
returns-in_default c =
    let key = c.args.key.now.items in
    let bs = c.args.marks.now.entries in
    let none : lookup (is_at (query key)) bs ≡ None = sym c.in_default.ensures.value in
    ap (λ (m : Marks). m.entries) c.get_mut.follows.holds-at-none ∙ raised_none c.args.reader key bs none
