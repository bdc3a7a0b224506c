-- A frame that is whole isn't cut, nor is a length that is too great.
use Rattle.std.proofs.Common.{◌≡◌, ℕ, ◌+◌, ◌^◌, ◌<◌, ◌≤◌, ◌∙◌, inl, inr, List, ◌++◌, length, Some, sym, ap, arith, subst}
use Rattle.std.specs.Int.{w32, to_be_bytes}
use Rattle.std.proofs.lemmas.List.{length-append}
use Rattle.xa_bytes.specs.Numbers.{number_at}
use Rattle.xa_limits.specs.declared.TheConstants.{MOST_CONTENT}
use Rattle.xa_desk.specs.Believed.Serving.{IsCut}
use Rattle.xa_connection.proofs.Fronts.{Reads, law}

both : {A : Type 0} (x y : A) → Some x ≡ Some y → x ≡ y
both x y e = cc

-- bytes begin with one number
same_number : (bytes : List ℕ) (n : ℕ) (part : List ℕ) (count : ℕ) (rest : List ℕ) → n < 2 ^ 32 → bytes ≡ to_be_bytes w32 n ++ part
    → Reads bytes count rest → (n ≡ count) × (part ≡ rest)
same_number bytes n part count rest fits is r =
    let one : number_at w32 bytes ≡ Some (n, part) = subst (λ (bs : List ℕ). number_at w32 bs ≡ Some (n, part)) (sym is) (law.again n part fits) in
    let other : number_at w32 bytes ≡ Some (count, rest) = subst (λ (bs : List ℕ). number_at w32 bs ≡ Some (count, rest)) (sym r.parts) (law.again count rest r.fits) in
    let pair : (n, part) ≡ (count, rest) = both (n, part) (count, rest) (sym one ∙ other) in
    (ap (λ (q : ℕ × List ℕ). q.0) pair, ap (λ (q : ℕ × List ℕ). q.1) pair)

long : (bytes : List ℕ) (count : ℕ) (rest : List ℕ) → Reads bytes count rest → 4 ≤ length bytes
long bytes count rest r =
    let len : length bytes ≡ 4 + length rest = ap (λ (bs : List ℕ). length bs) r.parts ∙ length-append (to_be_bytes w32 count) rest in
    omega (arith, len)

pub long_not_cut : (bytes : List ℕ) (count : ℕ) (rest : List ℕ) → Reads bytes count rest → MOST_CONTENT < count → IsCut bytes → ⊥
long_not_cut bytes count rest r more (inl few) = omega (arith, few, long bytes count rest r)
long_not_cut bytes count rest r more (inr cut) =
    let same = same_number bytes cut.0 cut.1 count rest (omega (arith, cut.2)) cut.4 r in
    omega (arith, more, cut.2, same.0)

pub whole_not_cut : (bytes : List ℕ) (count : ℕ) (rest : List ℕ) → Reads bytes count rest → count ≤ length rest → IsCut bytes → ⊥
whole_not_cut bytes count rest r fits (inl few) = omega (arith, few, long bytes count rest r)
whole_not_cut bytes count rest r fits (inr cut) =
    let same = same_number bytes cut.0 cut.1 count rest (omega (arith, cut.2)) cut.4 r in
    omega (arith, fits, cut.3, same.0, ap (λ (bs : List ℕ). length bs) same.1)
