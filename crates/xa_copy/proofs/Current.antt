-- The current one of two files, by their first records.
use Rattle.std.proofs.Common.{◌≡◌, inl, inr, ℕ, ◌+◌, true, false, List, [], ◌∷◌, ◌++◌, length, take, refl, sym, ◌∙◌, ap, arith, Option, Some, None}
use Rattle.std.specs.Prelude.{nat_eq, nat_le, nat_lt, ◌||◌, ◌&&◌, not, is_some, IsSome}
use Rattle.std.proofs.lemmas.Bool.{and_from, and_left, and_right, cases_lt, eq-eqb, ne_eqb, or_from, or_left, or_right}
use Rattle.std.proofs.lemmas.Bool.Decides.{nat_tests}
use Rattle.std.proofs.lemmas.List.{take_at}
use Rattle.std.proofs.Common.{append_assoc}
use Rattle.xa_log.specs.Believed.Chain.{bodies_from, format_of, last, logged, magic, records, start}
use Rattle.xa_log.specs.Believed.Generation.{number_in}
use Rattle.xa_log.specs.Believed.Pair.{beats, has_log, on_first}
use Rattle.xa_log.specs.declared.format.Format.{Format}
use Rattle.xa_log.proofs.Pair.{beats_nil}
use Rattle.xa_log.proofs.Records.{format_magic, length-magic, logged_text}
use Rattle.xa_copy.specs.Heads.{Heads, IsHead, is_first}
use Rattle.xa_copy.specs.declared.head.Head.{Head}

-- what a first record says of its file
record Begun (file : List ℕ) (generation : ℕ) : Type 0 where
  body : List ℕ
  more : List (List ℕ)
  named : has_log file ≡ true
  is : logged file ≡ body ∷ more
  number : generation ≡ number_in body

begun : (file : List ℕ) (head : Head) → Heads file head → Begun file head.generation
begun file head h =
    let format : Format = head.format in
    let rest : List ℕ = records (start format) (h.body ∷ []) ++ h.log.rest in
    let front : take 8 file ≡ magic format =
    ap (λ (l : List ℕ). take 8 l) (h.log.split ∙ append_assoc (magic format) (records (start format) (h.body ∷ [])) h.log.rest)
    ∙ take_at (magic format) rest 8 (length-magic format) in
    let it = logged_text format (h.body ∷ []) h.log.rest h.log.sizes in
    record {
      body = h.body;
      more = bodies_from format (length h.log.rest + it.0) (last (start format) (h.body ∷ [])) h.log.rest;
      named = ap (λ (l : List ℕ). is_some (format_of l)) front ∙ ap (λ (o : Option Format). is_some o) (format_magic format);
      is = ap logged h.log.split ∙ it.1;
      number = h.number;
    }

-- whichever wins of two that have records
both : (b b' : List ℕ) (more more' : List (List ℕ)) → beats true (b ∷ more) (b' ∷ more') ≡ nat_le (number_in b') (number_in b)
both b b' more more' = elim (cases_lt (number_in b') (number_in b)) [
  | inl lt ↦
      let a : nat_lt (number_in b') (number_in b) ≡ true = grind (arith, nat_tests) in
      let d : nat_le (number_in b') (number_in b) ≡ true = grind (arith, nat_tests) in
      or_left (nat_lt (number_in b') (number_in b)) (nat_eq (number_in b') (number_in b) && true) a ∙ sym d
  | inr ge ↦ elim (cases_lt (number_in b) (number_in b')) [
    | inl lt ↦
        let a : nat_lt (number_in b') (number_in b) ≡ false = grind (arith, nat_tests) in
        let d : nat_le (number_in b') (number_in b) ≡ false = grind (arith, nat_tests) in
        let e : nat_eq (number_in b') (number_in b) ≡ false = ne_eqb (number_in b') (number_in b) (λ is. omega (arith, is, lt)) in
        or_from (nat_lt (number_in b') (number_in b)) (nat_eq (number_in b') (number_in b) && true) a (and_left (nat_eq (number_in b') (number_in b)) true e) ∙ sym d
    | inr ge' ↦
        let d : nat_le (number_in b') (number_in b) ≡ true = grind (arith, nat_tests) in
        let e : nat_eq (number_in b') (number_in b) ≡ true = eq-eqb (number_in b') (number_in b) (omega (arith, ge, ge')) in
        or_right (nat_lt (number_in b') (number_in b)) (nat_eq (number_in b') (number_in b) && true) (and_from (nat_eq (number_in b') (number_in b)) true e refl) ∙ sym d
  ]
]

nil_loses : (b : List ℕ) (more : List (List ℕ)) → beats true [] (b ∷ more) ≡ false
nil_loses b more =
    let a : nat_lt (number_in b) 0 ≡ false = grind (arith, nat_tests) in
    or_from (nat_lt (number_in b) 0) (nat_eq (number_in b) 0 && false) a (and_right (nat_eq (number_in b) 0) false refl)

pub chosen : (first second : List ℕ) (head other : Option Head) → IsHead first head → IsHead second other
    → (is_some head || is_some other) ≡ true → is_first head other ≡ on_first first second
chosen first second None None a b some = absurd (cc some)
chosen first second (Some head) None a (inl none) some =
    let f = begun first head a in
    sym (λ i. f.named i && (not (none i) || beats true (logged first) (logged second)))
chosen first second (Some head) None a (inr none) some =
    let f = begun first head a in
    sym ((λ i. f.named i && (not (has_log second) || beats true (logged first) (none i)))
    ∙ or_right (not (has_log second)) (beats true (logged first) []) (beats_nil true (logged first)))
chosen first second None (Some other) (inl none) b some = sym (and_left (has_log first) _ none)
chosen first second None (Some other) (inr none) b some =
    let s = begun second other b in
    sym ((λ i. has_log first && (not (s.named i) || beats true (none i) (s.is i))) ∙ and_right (has_log first) _ (nil_loses s.body s.more))
chosen first second (Some head) (Some other) a b some =
    let f = begun first head a in
    let s = begun second other b in
    (λ i. nat_le (s.number i) (f.number i)) ∙ sym (both f.body s.body f.more s.more)
    ∙ sym (λ i. f.named i && (not (s.named i) || beats true (f.is i) (s.is i)))

-- the one that is copied has a record
pub first_some : (head other : Option Head) → IsSome head → (is_some head || is_some other) ≡ true
first_some None other some = absurd (cc some)
first_some (Some head) other some = refl

pub second_some : (head other : Option Head) → IsSome other → (is_some head || is_some other) ≡ true
second_some head None some = absurd (cc some)
second_some head (Some other) some = or_right (is_some head) true refl
