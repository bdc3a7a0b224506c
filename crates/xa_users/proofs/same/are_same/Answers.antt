use Rattle.std.proofs.Common.{rules, ◌≡◌, ap, sym, ◌∙◌}
use Rattle.std.specs.Prelude.{◌↔◌, IsTrue}
use Rattle.xa_scram.specs.Believed.Messages.{text_of}
use Rattle.xa_users.proofs.Texts.{one_text}
use Rattle.xa_users.proofs.same.are_same.Goals as goal

pub returns : goal.returns
returns c =
    let told : IsTrue c.eq.result ↔ (c.as_slice.result.now ≡ c.as_slice-2.result.now) = search rules in
    let left = c.as_slice.ensures.value ∙ c.text_of.ensures in
    let right = c.as_slice-2.ensures.value ∙ c.text_of-2.ensures in (
      λ t. one_text c.args.left.now c.args.right.now c.hold.ensures c.hold-2.ensures (sym left ∙ told.0 t ∙ right),
      λ e. told.1 (left ∙ ap text_of e ∙ sym right),
    )
