-- Where a log that ends in a closing length doesn't break off.
use Rattle.std.proofs.Common.{◌≡◌, inl, inr, ℕ, ◌+◌, ◌≤◌, ◌<◌, Bool, true, false, not, ◌&&◌, ◌||◌, get_or, List, [], ◌∷◌, ◌++◌, length, take, drop, refl, sym, ◌∙◌, ap, arith, nat_lt, nat_le, nat_eq}
use Rattle.std.proofs.lemmas.Bool.{and_from, and_left, and_right, cases_Bool, or_left, or_right}
use Rattle.std.proofs.lemmas.Bool.Decides.{nat_tests}
use Rattle.std.proofs.lemmas.List.{get_or-drop, get_or-take, take-take}
use Rattle.xa_log.specs.Believed.Chain.{behind_text, closing, digest, record_of, size_at, text}
use Rattle.xa_log.specs.Believed.Damage.{breaks_off, goes_on, is_appended, is_cut, is_snapshot}
use Rattle.xa_log.specs.Believed.Generation.{generation}
use Rattle.xa_log.specs.Believed.LeftOut.{stops_short}
use Rattle.xa_log.specs.declared.format.Format.{Format}
use Rattle.xa_log.specs.declared.format.Format.TheVariants.{One, Two}
use Rattle.xa_log.proofs.Front.{size_take}
use Rattle.xa_log.proofs.Records.{body_headed}
use Rattle.xa_log.proofs.Whole.{none_shown, not_short, zeros_size}
use Rattle.xa_copy.specs.Progress.{GoesOn, Has}
use Rattle.xa_copy.specs.declared.copying.Copying.{Copying}

uncut : (format : Format) (bodies : List (List ℕ)) (file : List ℕ)
    → (format ≡ Two → is_snapshot bodies ≡ true → goes_on (behind_text Two bodies file) ≡ true) → is_cut format bodies file ≡ false
unfolding is_cut
uncut One bodies file on = refl
uncut Two bodies file on = elim (cases_Bool (is_snapshot bodies)) [
  | inl held ↦ and_right (nat_lt 1 (generation bodies)) _ (and_right (is_snapshot bodies) _ (ap not (on refl held)))
  | inr other ↦ and_right (nat_lt 1 (generation bodies)) _ (and_left (is_snapshot bodies) _ other)
]

unbroken : (format : Format) (bodies : List (List ℕ)) (file : List ℕ) → size_at (behind_text format bodies file) ≡ 0
    → (format ≡ Two → is_snapshot bodies ≡ true → goes_on (behind_text Two bodies file) ≡ true) → breaks_off format bodies file ≡ false
unfolding breaks_off
unbroken format [] file closed on = none_shown format (take 41 (behind_text format [] file)) (size_take 41 (behind_text format [] file) (omega arith) ∙ closed)
unbroken format (body ∷ bodies) file closed on =
    ap (λ (cut : Bool). cut || stops_short format (body ∷ bodies) file) (uncut format (body ∷ bodies) file on) ∙ not_short format (body ∷ bodies) file closed

pub whole_by : (copying : Copying) (bodies : List (List ℕ)) (file : List ℕ) (at : ℕ) → Has bodies copying → at ≡ length (text copying.format bodies)
    → take 4 (drop at file) ≡ closing → GoesOn copying (drop at file) → breaks_off copying.format bodies file ≡ false
whole_by copying bodies file at has at_is zeros on =
    let tail : drop at file ≡ behind_text copying.format bodies file = ap (λ (n : ℕ). drop n file) at_is in
    unbroken copying.format bodies file (ap size_at (sym tail) ∙ zeros_size 0 (drop at file) zeros)
    (λ two snapshot.
    ap (λ (f : Format). goes_on (behind_text f bodies file)) (sym two) ∙ ap goes_on (sym tail) ∙ on two (has.snapshot ∙ snapshot))

-- ---- the bytes that were read there

pub front_by : (front tail : List ℕ) (have : ℕ) → 4 ≤ have → take have front ≡ take have tail → take 4 tail ≡ take 4 front
front_by front tail have enough read =
    sym (take-take 4 have tail enough) ∙ ap (λ (l : List ℕ). take 4 l) (sym read) ∙ take-take 4 have front enough

-- as many as a length has
pub few_on : (tail : List ℕ) → length tail ≡ 4 → goes_on tail ≡ true
few_on tail long =
    let a : nat_le 4 (length tail) ≡ true = grind (arith, nat_tests) in
    let b : nat_le (length tail) 4 ≡ true = grind (arith, nat_tests) in
    and_from (nat_le 4 (length tail)) _ a (or_left (nat_le (length tail) 4) _ b)

-- and one more, which may follow
pub more_on : (front tail : List ℕ) (have : ℕ) → 5 ≤ have → 5 ≤ length tail → take have front ≡ take have tail
    → (nat_eq (get_or front 4 0) 0 || is_appended (get_or front 4 0)) ≡ true → goes_on tail ≡ true
more_on front tail have enough long read may =
    let a : nat_le 4 (length tail) ≡ true = grind (arith, nat_tests) in
    let same : get_or tail 4 0 ≡ get_or front 4 0 =
    sym (get_or-take have tail 4 0 (omega (arith, enough))) ∙ ap (λ (l : List ℕ). get_or l 4 0) (sym read) ∙ get_or-take have front 4 0 (omega (arith, enough)) in
    and_from (nat_le 4 (length tail)) _ a
    (or_right (nat_le (length tail) 4) _ (ap (λ (b : ℕ). nat_eq b 0 || is_appended b) same ∙ may))

-- ---- a record's first byte

pub kind_is : (items : List ℕ) (begin n : ℕ) (prev body : List ℕ) → take n (drop begin items) ≡ record_of prev body → 1 ≤ length body → 4 < n
    → get_or items (begin + 4) 0 ≡ get_or body 0 0
kind_is items begin n prev body read some long =
    let r : List ℕ = record_of prev body in
    sym (get_or-drop begin items 4 0) ∙ sym (get_or-take n (drop begin items) 4 0 long) ∙ ap (λ (l : List ℕ). get_or l 4 0) read
    ∙ sym (get_or-drop 4 r 0 0) ∙ sym (get_or-take (length body) (drop 4 r) 0 0 (omega (arith, some)))
    ∙ ap (λ (l : List ℕ). get_or l 0 0) (body_headed body (digest prev body))

and_assoc : (a b c : Bool) → (a && (b && c)) ≡ ((a && b) && c)
and_assoc true b c = refl
and_assoc false b c = refl

and_true : (a : Bool) → (a && true) ≡ a
and_true true = refl
and_true false = refl

pub snapshot_more : (bodies : List (List ℕ)) (body : List ℕ) → is_snapshot (bodies ++ body ∷ []) ≡ (is_snapshot bodies && not (is_appended (get_or body 0 0)))
snapshot_more [] body = and_true (not (is_appended (get_or body 0 0)))
snapshot_more (b ∷ bodies) body =
    ap (λ (t : Bool). not (is_appended (get_or b 0 0)) && t) (snapshot_more bodies body)
    ∙ and_assoc (not (is_appended (get_or b 0 0))) (is_snapshot bodies) (not (is_appended (get_or body 0 0)))

pub not_back : (a : Bool) → not a ≡ false → a ≡ true
not_back true is = refl
not_back false is = absurd (cc is)
