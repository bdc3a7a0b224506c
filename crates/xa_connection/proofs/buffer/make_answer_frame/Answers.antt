use Rattle.std.proofs.Common.{◌≡◌, ◌≤◌, ◌+◌, ◌-◌, ◌∙◌, ℕ, List, ◌++◌, ap, arith, length, refl, Fits}
use Rattle.std.proofs.lemmas.List.{length-append}
use Rattle.std.specs.Int.{to_be_bytes, w32}
use Rattle.xa_limits.specs.declared.TheConstants.{MOST_CONTENT}
use Rattle.xa_control.specs.Answers.{bytes_of_answer}
use Rattle.xa_control.proofs.Spelled.{one_answer}
use Rattle.xa_connection.proofs.buffer.make_answer_frame.Goals as goal

-- four bytes, and no more than a content has
fits : (n : ℕ) (items front content : List ℕ) → n ≡ length items → items ≡ front ++ content → length front ≡ 4
    → length content ≤ MOST_CONTENT → Fits w32 (n - 4)
fits n items front content is whole four short =
    let parts : length items ≡ length front + length content = ap (λ (xs : List ℕ). length xs) whole ∙ length-append front content in
    omega (arith, is, parts, four, short)

pub overflow_cast-count : goal.overflow_cast-count
overflow_cast-count c =
    let a = c.args.answer.now in
    let front : c.put_u32.new.out.items ≡ to_be_bytes w32 0 =
    c.in_ok-put_u32.ensures ∙ ap (λ (xs : List ℕ). xs ++ to_be_bytes w32 0) c.clear.ensures.items in
    fits c.len.result c.put_answer.new.out.items (to_be_bytes w32 0) (bytes_of_answer a) (c.len.ensures ∙ c.put_answer.new.out.ok.0)
    (c.in_ok-put_answer.ensures.bytes ∙ ap (λ (xs : List ℕ). xs ++ bytes_of_answer a) front) refl
    (one_answer.short (bytes_of_answer a) a (record { limits = c.requires; holds = c.in_ok-put_answer.ensures.holds; bytes_are = refl }))
