use Rattle.std.proofs.Common.{ℕ, List, [], ◌∷◌, ◌++◌, ap, ◌∙◌, arith, rules}
use Rattle.std.proofs.lemmas.Grind.{common_steps}
use Rattle.std.specs.Int.{w64, to_be_bytes}
use Rattle.xa_frame.specs.Spelling.{body_bytes, code_bytes, detail_bytes}
use Rattle.xa_frame.proofs.Lists.{on_ok, put_five}
use Rattle.xa_frame.proofs.encode.put_reply.Goals as goal

pub returns-clause-bytes : goal.returns-clause-bytes
returns-clause-bytes c =
    let r = c.args.reply.now in
    on_ok c.put_body.result _ _
    (λ body.
    put_five c.args.out.now.items c.push.new.self.items c.extend_from_slice.new.self.items c.push-2.new.self.items c.put_u64.new.out.items c.put_body.new.out.items
    (1 ∷ []) (code_bytes r.code) (detail_bytes r.detail) (to_be_bytes w64 r.place) (body_bytes r.body)
    (c.in_ok-push.ensures.items ∙ ap (λ (xs : List ℕ). xs ++ 1 ∷ []) c.reserve.ensures.items)
    (first_of (search rules, grind (arith, common_steps)))
    (c.in_ok-push-2.ensures.items ∙ ap (λ n. c.extend_from_slice.new.self.items ++ n ∷ []) c.detail_number.ensures)
    c.in_ok-put_u64.ensures body)
    c.put_body.ensures.bytes
