-- Numbers in bytes, one after another, and how they are read.
use Rattle.std.proofs.Common.{◌≡◌, ℕ, ◌+◌, ◌*◌, ◌^◌, ◌<◌, ◌≤◌, List, [], ◌∷◌, ◌++◌, length, drop, All, Option, Some, None, refl, sym, ap, ◌∙◌, append-nil, append_assoc, arith, subst}
use Rattle.std.specs.Int.{w16, w32, w64, to_be_bytes}
use Rattle.std.specs.Prelude.{IfSome, IsSome}
use Rattle.std.specs.List.{flat_map}
use Rattle.std.proofs.lemmas.List.{drop_at, length-append}
use Rattle.std.proofs.lemmas.List.Concat.{flat_map-append}
use Rattle.std.proofs.lemmas.List.Elements.{All-append, All-cons, All-head, All-nil, All-tail}
use Rattle.xa_bytes.specs.Numbers.{number_at, AreBytes, ReadsBack}
use Rattle.xa_bytes.proofs.Digits.{IsBytes-drop, reads_back, wide16, wide32, wide64}
use Rattle.xa_frame.specs.Spelling.{counted_bytes}
use Rattle.xa_control.specs.Answers.{IsCounted}

pub two : ReadsBack w16 (2 ^ 16)
two = reads_back w16 (2 ^ 16) wide16

pub four : ReadsBack w32 (2 ^ 32)
four = reads_back w32 (2 ^ 32) wide32

pub eight : ReadsBack w64 (2 ^ 64)
eight = reads_back w64 (2 ^ 64) wide64

both : {A : Type 0} (x y : A) → Some x ≡ Some y → x ≡ y
both x y e = cc

abbrev pub spell : List ℕ → List ℕ
spell ns = flat_map (to_be_bytes w64) ns

pub long : (ns : List ℕ) → length (spell ns) ≡ 8 * length ns
long [] = refl
long (n ∷ ns) = omega (arith, length-append (to_be_bytes w64 n) (spell ns), long ns)

same_front : (m n : ℕ) (x y : List ℕ) → m < 2 ^ 64 → n < 2 ^ 64 → to_be_bytes w64 m ++ x ≡ to_be_bytes w64 n ++ y → (m ≡ n) × (x ≡ y)
same_front m n x y a b e =
    let pair : (m, x) ≡ (n, y) = both (m, x) (n, y) (sym (eight.again m x a) ∙ ap (λ (bs : List ℕ). number_at w64 bs) e ∙ eight.again n y b) in
    (ap (λ (q : ℕ × List ℕ). q.0) pair, ap (λ (q : ℕ × List ℕ). q.1) pair)

abbrev Small : ℕ → Type 0
Small n = n < 2 ^ 64

pub same_numbers : (ms ns : List ℕ) → All Small ms → All Small ns → spell ms ≡ spell ns → ms ≡ ns
same_numbers [] [] a b e = refl
same_numbers [] (n ∷ ns) a b e = absurd (omega (arith, ap (λ (bs : List ℕ). length bs) e, long (n ∷ ns)))
same_numbers (m ∷ ms) [] a b e = absurd (omega (arith, ap (λ (bs : List ℕ). length bs) e, long (m ∷ ms)))
same_numbers (m ∷ ms) (n ∷ ns) a b e =
    let p = same_front m n (spell ms) (spell ns) (All-head Small m ms a) (All-head Small n ns b) e in
    let rest : ms ≡ ns = same_numbers ms ns (All-tail Small m ms a) (All-tail Small n ns b) p.1 in
    cc (p.0, rest)

-- a count that was read, and the numbers after it
pub counted : (bytes : List ℕ) (count : ℕ) (rest ns : List ℕ) → length ns ≤ 1024 → number_at w16 bytes ≡ Some (count, rest)
    → bytes ≡ counted_bytes (to_be_bytes w64) ns → (count ≡ length ns) × (rest ≡ spell ns)
counted bytes count rest ns few e is =
    let pair : (count, rest) ≡ (length ns, spell ns) =
    both (count, rest) (length ns, spell ns) (sym e ∙ ap (λ (bs : List ℕ). number_at w16 bs) is ∙ two.again (length ns) (spell ns) (omega (arith, few))) in
    (ap (λ (q : ℕ × List ℕ). q.0) pair, ap (λ (q : ℕ × List ℕ). q.1) pair)

never : {A : Type 0} (x : A) → None ≡ Some x → ⊥
never x e = absurd (cc e)

pub uncounted : (bytes ns : List ℕ) → length ns ≤ 1024 → number_at w16 bytes ≡ None → bytes ≡ counted_bytes (to_be_bytes w64) ns → ⊥
uncounted bytes ns few none is =
    never (length ns, spell ns) (sym none ∙ ap (λ (bs : List ℕ). number_at w16 bs) is ∙ two.again (length ns) (spell ns) (omega (arith, few)))

-- a number that is all of some bytes
pub eight_alone : (bytes : List ℕ) (n : ℕ) (rest : List ℕ) → AreBytes bytes → number_at w64 bytes ≡ Some (n, rest) → rest ≡ []
    → (bytes ≡ to_be_bytes w64 n) × (n < 2 ^ 64)
eight_alone bytes n rest are e none =
    let p = eight.found bytes n rest are e in
    (p.0 ∙ ap (λ (bs : List ℕ). to_be_bytes w64 n ++ bs) none ∙ append-nil (to_be_bytes w64 n), p.1)

-- a number, and what stands after it
pub four_front : (bytes : List ℕ) (n : ℕ) (rest more : List ℕ) → AreBytes bytes → number_at w32 bytes ≡ Some (n, rest) → rest ≡ more
    → (bytes ≡ to_be_bytes w32 n ++ more) × (n < 2 ^ 32)
four_front bytes n rest more are e is =
    let p = four.found bytes n rest are e in
    (p.0 ∙ ap (λ (bs : List ℕ). to_be_bytes w32 n ++ bs) is, p.1)

-- what is spelled in four and in eight bytes
pub same_four : (m n : ℕ) (x y : List ℕ) → m < 2 ^ 32 → n < 2 ^ 32 → to_be_bytes w32 m ++ x ≡ to_be_bytes w32 n ++ y → (m ≡ n) × (x ≡ y)
same_four m n x y a b e =
    let pair : (m, x) ≡ (n, y) = both (m, x) (n, y) (sym (four.again m x a) ∙ ap (λ (bs : List ℕ). number_at w32 bs) e ∙ four.again n y b) in
    (ap (λ (q : ℕ × List ℕ). q.0) pair, ap (λ (q : ℕ × List ℕ). q.1) pair)

pub same_eight : (m n : ℕ) → m < 2 ^ 64 → n < 2 ^ 64 → to_be_bytes w64 m ≡ to_be_bytes w64 n → m ≡ n
same_eight m n a b e =
    (same_front m n [] [] a b (append-nil (to_be_bytes w64 m) ∙ e ∙ sym (append-nil (to_be_bytes w64 n)))).0

-- one number more is read of bytes
pub one_more : (bytes ns rest : List ℕ) (n : ℕ) (after more : List ℕ) → AreBytes bytes → bytes ≡ spell ns ++ rest → All Small ns → number_at w64 rest ≡ Some (n, after)
    → more ≡ ns ++ n ∷ [] → (bytes ≡ spell more ++ after) × All Small more × (length more ≡ length ns + 1) × (length rest ≡ 8 + length after)
one_more bytes ns rest n after more are parts holds e is =
    let p = eight.found rest n after (behind bytes (spell ns) rest are parts) e in
    let spelled : spell more ≡ spell ns ++ to_be_bytes w64 n = ap spell is ∙ flat_map-append (to_be_bytes w64) ns (n ∷ []) ∙ ap (λ (bs : List ℕ). spell ns ++ bs) (append-nil (to_be_bytes w64 n)) in (
      parts ∙ ap (λ (bs : List ℕ). spell ns ++ bs) p.0 ∙ sym (append_assoc (spell ns) (to_be_bytes w64 n) after) ∙ ap (λ (bs : List ℕ). bs ++ after) (sym spelled),
      subst (λ (xs : List ℕ). All Small xs) (sym is) (All-append Small ns (n ∷ []) holds (All-cons Small n [] p.1 (All-nil Small))),
      omega (arith, ap (λ (xs : List ℕ). length xs) is, length-append ns (n ∷ [])),
      omega (arith, ap (λ (bs : List ℕ). length bs) p.0, length-append (to_be_bytes w64 n) after),
    )
  where
    behind : (bytes front rest : List ℕ) → AreBytes bytes → bytes ≡ front ++ rest → AreBytes rest
    behind bytes front rest are is =
        let dropped : drop (length front) bytes ≡ rest = ap (λ (bs : List ℕ). drop (length front) bs) is ∙ drop_at front rest (length front) refl in
        subst AreBytes dropped (IsBytes-drop (length front) bytes are)

-- a count that was read, and numbers that aren't as many
pub miscounted : (bytes : List ℕ) (count : ℕ) (rest ns : List ℕ) → number_at w16 bytes ≡ Some (count, rest) → IsCounted bytes ns → length rest ≡ 8 * count
miscounted bytes count rest ns e h =
    let p = counted bytes count rest ns h.few e h.bytes_are in
    omega (arith, p.0, ap (λ (bs : List ℕ). length bs) p.1, long ns)

pub is_counted : (bytes : List ℕ) (count : ℕ) (rest ms : List ℕ) → AreBytes bytes → number_at w16 bytes ≡ Some (count, rest) → rest ≡ spell ms → All Small ms
    → length ms ≡ count → count ≤ 1024 → IsCounted bytes ms
is_counted bytes count rest ms are e is holds len few =
    let p = two.found bytes count rest are e in
    record {
      few = omega (arith, len, few);
      holds = holds;
      bytes_are = p.0 ∙ ap (λ (n : ℕ). to_be_bytes w16 n ++ rest) (sym len) ∙ ap (λ (bs : List ℕ). to_be_bytes w16 (length ms) ++ bs) is;
    }

pub one_list : (bytes ms ns : List ℕ) → IsCounted bytes ms → IsCounted bytes ns → ms ≡ ns
one_list bytes ms ns h k =
    let e : counted_bytes (to_be_bytes w64) ms ≡ counted_bytes (to_be_bytes w64) ns = sym h.bytes_are ∙ k.bytes_are in
    same_numbers ms ns h.holds k.holds (ap (λ (bs : List ℕ). drop 2 bs) e)

pub found_so : (o : Option (List ℕ)) (bytes ms : List ℕ) → IsCounted bytes ms → IfSome o (λ m. m ≡ ms) → IfSome o (IsCounted bytes)
found_so None bytes ms h k = tt
found_so (Some m) bytes ms h k = subst (λ (xs : List ℕ). IsCounted bytes xs) (sym k) h

pub only_so : (o : Option (List ℕ)) (bytes ms ns : List ℕ) → IsCounted bytes ms → IsCounted bytes ns → IsSome o → IfSome o (λ m. m ≡ ms) → o ≡ Some ns
only_so None bytes ms ns h k some is = absurd (cc some)
only_so (Some m) bytes ms ns h k some is = ap (λ (xs : List ℕ). Some xs) (is ∙ one_list bytes ms ns h k)
