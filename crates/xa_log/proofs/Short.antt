-- Where a log doesn't stop short.
use Rattle.std.proofs.Common.{◌≡◌, inl, inr, ℕ, zero, suc, ◌+◌, ◌≤◌, Bool, true, false, ◌&&◌, ◌||◌, cond, List, [], ◌∷◌, ◌++◌, length, take, drop, refl, ◌∙◌, ap, arith, nat_le, length-append}
use Rattle.std.specs.Prelude.{slice_index, ◌==◌}
use Rattle.std.proofs.lemmas.Bool.{cases_Bool, and_left, and_right, and_from}
use Rattle.std.proofs.lemmas.Bool.Decides.{nat_tests}
use Rattle.std.proofs.lemmas.List.{drop-drop}
use Rattle.xa_log.specs.Believed.Chain.{start, last, text, bodies_from, body_at, digest_at, is_record, records, rest_at, size_at}
use Rattle.xa_log.specs.Believed.Generation.{generation}
use Rattle.xa_log.specs.Believed.Group.{group_bytes}
use Rattle.xa_log.specs.Believed.Laws.{NoOwn, TailLaw}
use Rattle.xa_log.specs.Believed.LeftOut.{bodies_left, boot_in, digest_left, has_own, is_own, shows_record, stamp_at, stops_short, written_behind}
use Rattle.xa_log.specs.declared.format.Format.{Format}
use Rattle.xa_log.specs.declared.left_out.TheConstants.{BOOT_BYTES, COMMITTED, MOST_GROUP, PREPARED}
use Rattle.xa_log.proofs.Grouped.{text_group}
use Rattle.xa_log.proofs.Mend.{rest_written}
use Rattle.xa_log.proofs.Pair.{length-body}

far_own : (x y : Bool) → (x ≡ true → y ≡ false) → (x && y) ≡ false
far_own true y is = is refl
far_own false y is = refl

no_own : (x y : Bool) → x ≡ false → y ≡ false → (x || y) ≡ false
no_own true y a b = absurd (cc a)
no_own false y a b = b

module _ (format : Format) (number end from : ℕ) (file : List ℕ) (none : NoOwn format number from file) (near : from ≤ end + MOST_GROUP) where
  -- of the records that chain from a place on, none is an own one far enough after the bodies' end
  none_own : (most at : ℕ) (prev : List ℕ) → has_own number at (bodies_from format most prev (drop (end + at) file)) ≡ false
  none_own zero at prev = refl
  none_own (suc most) at prev = elim (cases_Bool (is_record format prev x)) [
    | inl there ↦
        let size : length (body_at x) ≡ size_at x = length-body format prev x there in
        let place : end + at + (36 + size_at x) ≡ end + (at + (36 + length (body_at x))) = omega (arith, size) in
        let rest : rest_at x ≡ drop (end + (at + (36 + length (body_at x)))) file = drop-drop (36 + size_at x) (end + at) file ∙ ap (λ (n : ℕ). drop n file) place in
        ap (λ (b : Bool). has_own number at (cond b (body_at x ∷ bodies_from format most (digest_at prev x) (rest_at x)) [])) there
        ∙ no_own (nat_le MOST_GROUP at && is_own number (body_at x)) _
        (far_own (nat_le MOST_GROUP at) (is_own number (body_at x)) (λ far. none (end + at) prev (grind (arith, nat_tests, near, far)) there))
        (ap (λ (l : List ℕ). has_own number (at + (36 + length (body_at x))) (bodies_from format most (digest_at prev x) l)) rest
        ∙ none_own most (at + (36 + length (body_at x))) (digest_at prev x))
    | inr other ↦ ap (λ (b : Bool). has_own number at (cond b (body_at x ∷ bodies_from format most (digest_at prev x) (rest_at x)) [])) other
  ]
    where
      x : List ℕ
      x = drop (end + at) file

  -- so none of those that are left out, with whichever length
  none_left_own : (prev x : List ℕ) → rest_at x ≡ drop (36 + size_at x) (drop end file) → has_own number (36 + size_at x) (bodies_left format prev x) ≡ false
  none_left_own prev x behind = elim (cases_Bool (shows_record format x)) [
    | inl shown ↦
        let rest : rest_at x ≡ drop (end + (36 + size_at x)) file = behind ∙ drop-drop (36 + size_at x) end file in
        ap (λ (b : Bool). has_own number (36 + size_at x) (cond b (bodies_from format (length x) (digest_left format prev x) (rest_at x)) [])) shown
        ∙ ap (λ (l : List ℕ). has_own number (36 + size_at x) (bodies_from format (length x) (digest_left format prev x) l)) rest
        ∙ none_own (length x) (36 + size_at x) (digest_left format prev x)
    | inr hidden ↦ ap (λ (b : Bool). has_own number (36 + size_at x) (cond b (bodies_from format (length x) (digest_left format prev x) (rest_at x)) [])) hidden
  ]

-- what isn't a log's own where any boot may be isn't where it is to be a later one
own_any : (number : ℕ) (body : List ℕ) → is_own 0 body ≡ false → is_own number body ≡ false
own_any number body none = elim (cases_Bool kind) [
  | inl is ↦ elim (cases_Bool long) [
    | inl whole ↦
        let any : nat_le 0 (boot_in body) ≡ true = grind (arith, nat_tests) in
        absurd (cc (none, and_from kind _ is (and_from long _ whole any)))
    | inr cut ↦ and_right kind _ (and_left long _ cut)
  ]
  | inr other ↦ and_left kind _ other
]
  where
    kind : Bool
    kind = slice_index body 0 == PREPARED || slice_index body 0 == COMMITTED

    long : Bool
    long = nat_le (stamp_at body + BOOT_BYTES) (length body)

none_more : (format : Format) (bodies more : List (List ℕ)) (from : ℕ) (file : List ℕ) → NoOwn format (generation bodies) from file → NoOwn format (generation (bodies ++ more)) from file
none_more format [] more from file none = λ at prev le is. own_any (generation more) (body_at (drop at file)) (none at prev le is)
none_more format (body ∷ bodies) more from file none = none

none_short : (format : Format) (bodies : List (List ℕ)) (from : ℕ) (file : List ℕ) → NoOwn format (generation bodies) from file → from ≤ length (text format bodies) + MOST_GROUP → stops_short format bodies file ≡ false
unfolding stops_short
none_short format [] from file none near = refl
none_short format (body ∷ bodies) from file none near =
    let end : ℕ = length (text format (body ∷ bodies)) in
    let prev : List ℕ = last (start format) (body ∷ bodies) in
    none_left_own format (generation (body ∷ bodies)) end from file none near prev (written_behind format (body ∷ bodies) file) (rest_written format prev (drop end file))

pub tail_law : TailLaw
tail_law format bodies group many file bound none =
    let part : List ℕ = records (last (start format) bodies) (take many group) in
    none_short format (bodies ++ take many group) (length (text format bodies) + (group_bytes group + 4)) file (none_more format bodies (take many group) _ file none)
    (omega (arith, bound, ap length (text_group format bodies (take many group)), length-append (text format bodies) part))
