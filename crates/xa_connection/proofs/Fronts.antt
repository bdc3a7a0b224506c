-- What is at the front of bytes, once the number of their first four was read.
use Rattle.std.proofs.Common.{◌≡◌, ℕ, ◌+◌, ◌^◌, ◌<◌, ◌≤◌, inr, List, ◌++◌, length, take, drop, Some, refl, sym, ap, ◌∙◌, append_assoc, arith}
use Rattle.std.specs.Int.{w32, to_be_bytes}
use Rattle.std.proofs.lemmas.List.{drop_at, drop-drop, take-append-drop, length-append, length-take, length-take-le}
use Rattle.xa_bytes.specs.Numbers.{number_at, AreBytes, ReadsBack}
use Rattle.xa_bytes.proofs.Digits.{reads_back, wide32}
use Rattle.xa_limits.specs.declared.TheConstants.{MOST_CONTENT}
use Rattle.xa_desk.specs.Believed.Serving.{IsCut, IsShort}
use Rattle.xa_connection.specs.Fronts.{BeginsWhole, BeginsTooLong}

-- the number was read, and these are the bytes after it
pub record Reads (bytes : List ℕ) (count : ℕ) (rest : List ℕ) : Type 0 where
  pub parts : bytes ≡ to_be_bytes w32 count ++ rest
  pub fits : count < 2 ^ 32

-- what is read is spelled there, and what is spelled is read
pub law : ReadsBack w32 (2 ^ 32)
law = reads_back w32 (2 ^ 32) wide32

pub reads : (bytes : List ℕ) (count : ℕ) (rest : List ℕ) → AreBytes bytes → number_at w32 bytes ≡ Some (count, rest)
    → Reads bytes count rest
reads bytes count rest are e = let p = law.found bytes count rest are e in record { parts = p.0; fits = p.1 }

pub whole : (bytes : List ℕ) (count : ℕ) (rest : List ℕ) → Reads bytes count rest → count ≤ MOST_CONTENT → count ≤ length rest → BeginsWhole bytes count
whole bytes count rest r short fits =
    let spelled : List ℕ = to_be_bytes w32 count in
    let behind : drop 4 bytes ≡ rest = ap (λ (bs : List ℕ). drop 4 bs) r.parts ∙ drop_at spelled rest 4 refl in
    let len : length bytes ≡ 4 + length rest = ap (λ (bs : List ℕ). length bs) r.parts ∙ length-append spelled rest in
    let so_long : length (take count (drop 4 bytes)) ≡ count = ap (λ (bs : List ℕ). length (take count bs)) behind ∙ length-take-le count rest fits in
    let after : drop (4 + count) bytes ≡ drop count rest = sym (drop-drop count 4 bytes) ∙ ap (λ (bs : List ℕ). drop count bs) behind in
    let joined : take count (drop 4 bytes) ++ drop (4 + count) bytes ≡ rest =
    (λ i. take count (behind i) ++ after i) ∙ take-append-drop count rest in
    record {
      short = short;
      fits = omega (arith, len);
      parts = r.parts ∙ ap (λ (bs : List ℕ). spelled ++ bs) (sym joined)
          ∙ sym (append_assoc spelled (take count (drop 4 bytes)) (drop (4 + count) bytes))
          ∙ ap (λ (n : ℕ). (to_be_bytes w32 n ++ take count (drop 4 bytes)) ++ drop (4 + count) bytes) (sym so_long);
    }

pub cut : (bytes : List ℕ) (count : ℕ) (rest : List ℕ) → Reads bytes count rest → count ≤ MOST_CONTENT → length rest < count → IsCut bytes
cut bytes count rest r short few = inr (count, rest, short, few, r.parts)

pub too_long : (bytes : List ℕ) (count : ℕ) (rest : List ℕ) → Reads bytes count rest → MOST_CONTENT < count → BeginsTooLong bytes
too_long bytes count rest r more = (to_be_bytes w32 count, rest, (count, more, r.fits, refl), r.parts)

-- the content at the front is short
pub begins_short : (bytes : List ℕ) (count : ℕ) → BeginsWhole bytes count → IsShort (take count (drop 4 bytes))
begins_short bytes count b = omega (arith, length-take count (drop 4 bytes), b.short)
