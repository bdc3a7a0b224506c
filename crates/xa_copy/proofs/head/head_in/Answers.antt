use Rattle.std.proofs.Common.{◌≡◌, ◌+◌, ◌-◌, ◌∙◌, inr, sym, refl, ap, List, ℕ, take, drop, arith}
use Rattle.xa_log.specs.Believed.Chain.{is_record, size_at, start}
use Rattle.xa_log.specs.Believed.Generation.{number_in}
use Rattle.xa_copy.proofs.Choosing.{chains_sliced, heads_by, name_by, none_by_record, number_by, sliced}
use Rattle.xa_copy.proofs.head.head_in.Goals as goal

pub returns-in-Some : goal.returns-in-Some
returns-in-Some c file read =
    let front : List ℕ = c.args.front.items in
    let named = name_by c.deref.result.now front c.args.format c.deref.ensures.value (sym c.is_named.ensures ∙ c.if-not-is_named.false) in
    let ch = chains_sliced c.args.size c.first_digest.result (start c.args.format) c.deref-2.result.now front c.in-Some.field-0 c.first_digest.ensures c.deref-2.ensures.value c.in-Some.ensures.chains in
    heads_by c.args.format file front c.args.size c.requires.long read named c.in-Some.field-0 ch c.requires.some c.requires.small c.args.front refl c.number_of-generation.result
    (c.number_of-generation.ensures ∙ ap (λ (l : List ℕ). number_in (take (12 + c.args.size - 12) (drop 12 l))) c.deref-in-Some.ensures.value
    ∙ ap number_in (number_by c.args.format file front c.args.size c.requires.long read named c.in-Some.field-0 ch 12 (12 + c.args.size - 12) refl (omega arith)))

pub returns-in_ok-unchained-in-None : goal.returns-in_ok-unchained-in-None
returns-in_ok-unchained-in-None c file read =
    let front : List ℕ = c.args.front.items in
    let format = c.args.format in
    let named = name_by c.deref.result.now front format c.deref.ensures.value (sym c.is_named.ensures ∙ c.if-not-is_named.false) in
    let d : List ℕ = c.deref-2.result.now in
    let is : size_at (drop 8 front) ≡ c.args.size = ap (λ (l : List ℕ). size_at (drop 8 l)) (sym c.deref-in-None.ensures.value) ∙ c.in_ok-unchained-in-None.ensures in
    let spelled = sliced d front c.deref-2.ensures.value in
    let none = c.in-None.ensures.none refl (ap size_at spelled ∙ is) format in
    inr (none_by_record format file front c.args.size c.requires.long read named
    ((λ i. is_record format (sym c.first_digest.ensures i) (sym spelled i)) ∙ none) is)
