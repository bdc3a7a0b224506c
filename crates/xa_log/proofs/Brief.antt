-- How much of a file is read to tell its first record.
use Rattle.std.proofs.Common.{◌≡◌, inl, inr, ℕ, ◌+◌, ◌≤◌, ◌<◌, Bool, true, List, length, take, drop, ◌∙◌, ap, arith, cond, nat_le, nat_lt, min, Option, Some}
use Rattle.std.specs.Prelude.{is_some}
use Rattle.std.proofs.lemmas.Bool.{cases_Bool, and_from}
use Rattle.std.proofs.lemmas.Bool.Decides.{nat_tests}
use Rattle.xa_log.specs.declared.format.Format.{Format}
use Rattle.xa_log.specs.Believed.Chain.{format_of, format_in, most_body, size_at}
use Rattle.xa_log.specs.Calls.{Reaches, first_end, begins_long, brief, MOST_BRIEF}
use Rattle.xa_log.proofs.Choosing.{own_format}
use Rattle.xa_log.proofs.Records.{limit}

pub brief_least : (file : List ℕ) → 1048576 ≤ brief file
brief_least file = elim (cases_Bool (begins_long file)) [
  | inl long ↦ omega (arith, ap (λ (b : Bool). cond b (1048576 + first_end file) 1048576) long)
  | inr short ↦ omega (arith, ap (λ (b : Bool). cond b (1048576 + first_end file) 1048576) short)
]

brief_long : (file : List ℕ) (format : Format) → format_of (take 8 file) ≡ Some format → size_at (drop 8 file) ≤ most_body format → first_end file ≤ length file → 1048576 < first_end file
    → brief file ≡ 1048576 + first_end file
brief_long file format is small fits long =
    let own : format_in file ≡ format = own_format file format is in
    let a : is_some (format_of (take 8 file)) ≡ true = ap (λ (o : Option Format). is_some o) is in
    let b : nat_le (size_at (drop 8 file)) (most_body (format_in file)) ≡ true =
    ap (λ (f : Format). nat_le (size_at (drop 8 file)) (most_body f)) own ∙ grind (arith, nat_tests, small) in
    let c : nat_le (first_end file) (length file) ≡ true = grind (arith, nat_tests, fits) in
    let d : nat_lt 1048576 (first_end file) ≡ true = grind (arith, nat_tests, long) in
    ap (λ (t : Bool). cond t (1048576 + first_end file) 1048576) (and_from _ _ a (and_from _ _ b (and_from _ _ c d)))

-- where a window of the file's first bytes was read
module _ (format : Format) (len upto : ℕ) (have : upto ≡ min len 1048576) where
  pub reaches_most : (IsSize : ℕ → Type 0) → Reaches IsSize (most_body format) len 8 upto MOST_BRIEF
  reaches_most IsSize = (omega (arith, have), (λ fits short. omega (arith, have, fits, short)), λ size is small fits. (omega (arith, have), λ short. omega (arith, small, limit format)))

  pub reaches_brief : (file : List ℕ) (IsSize : ℕ → Type 0) → len ≡ length file → format_of (take 8 file) ≡ Some format → ((size : ℕ) → IsSize size → size ≡ size_at (drop 8 file))
      → Reaches IsSize (most_body format) len 8 upto (brief file)
  reaches_brief file IsSize whole names tells = (
    omega (arith, have, brief_least file),
    (λ fits short. omega (arith, have, fits, short)),
    λ size is small fits. (
      omega (arith, have, brief_least file),
      λ short.
          let same : size ≡ size_at (drop 8 file) = tells size is in
          let long : 1048576 < first_end file = omega (arith, same, short, have, fits) in
          omega (arith, same, brief_long file format names (omega (arith, same, small)) (omega (arith, same, fits, whole)) long),
    ),
  )
