use Rattle.std.proofs.Common.{◌≡◌, ◌≤◌, ◌+◌, ◌-◌, ◌∙◌, ℕ, List, ◌++◌, ap, arith, length, refl, Fits}
use Rattle.std.proofs.lemmas.List.{length-append}
use Rattle.std.specs.Int.{to_be_bytes, w32}
use Rattle.xa_limits.specs.declared.TheConstants.{MOST_CONTENT}
use Rattle.xa_frame.specs.Spelling.{bytes_of_reply}
use Rattle.xa_frame.proofs.Replies.{reply_short}
use Rattle.xa_desk.proofs.connection.make_frame.Goals as goal

-- four bytes, and no more than a content has
fits : (n : ℕ) (items front content : List ℕ) → n ≡ length items → items ≡ front ++ content → length front ≡ 4
    → length content ≤ MOST_CONTENT → Fits w32 (n - 4)
fits n items front content is whole four short =
    let parts : length items ≡ length front + length content = ap (λ (xs : List ℕ). length xs) whole ∙ length-append front content in
    omega (arith, is, parts, four, short)

pub overflow_cast-count : goal.overflow_cast-count
overflow_cast-count c =
    let r = c.args.reply.now in
    let front : c.put_u32.new.out.items ≡ to_be_bytes w32 0 =
    c.in_ok-put_u32.ensures ∙ ap (λ (xs : List ℕ). xs ++ to_be_bytes w32 0) c.clear.ensures.items in
    fits c.len.result c.put_reply.new.out.items (to_be_bytes w32 0) (bytes_of_reply r) (c.len.ensures ∙ c.put_reply.new.out.ok.0)
    (c.in_ok-put_reply.ensures.bytes ∙ ap (λ (xs : List ℕ). xs ++ bytes_of_reply r) front) refl
    (reply_short r c.requires c.in_ok-put_reply.ensures.holds)
