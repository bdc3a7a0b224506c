use Rattle.std.proofs.Common.{◌∙◌, ◌==◌, ℕ, ap, sym}
use Rattle.xa_operate.specs.Families.{family_heading, samples}
use Rattle.xa_operate.proofs.Counting.{with_heading}
use Rattle.xa_operate.proofs.family.push_family.Goals as goal

pub returns : goal.returns
returns c =
    with_heading c.extend_from_slice.result (family_heading c.args.family) c.as_slice.result.now (samples c.args.family c.args.numbers.now)
    c.args.text.now.items c.push_front.new.text.items c.extend_from_slice.new.self.items
    (c.if-is_empty.ensures ∙ ap (λ (n : ℕ). n == 0) (sym c.as_slice.ensures.len)) (c.as_slice.ensures.value ∙ c.in_ok-samples.ensures)
    c.in_ok-push_front.ensures c.extend_from_slice.ensures.items
