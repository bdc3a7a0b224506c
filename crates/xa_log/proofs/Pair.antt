-- Which of two files has the log.
use Rattle.std.proofs.Common.{◌≡◌, ◌⊎◌, inl, inr, ⊎_elim, ℕ, zero, suc, ◌+◌, ◌≤◌, ◌<◌, Bool, true, false, not, ◌||◌, List, [], ◌∷◌, ◌++◌, length, take, drop, refl, sym, ◌∙◌, ap, subst, arith, cond, nat_lt, nat_eq, Some, None, length-drop}
use Rattle.std.proofs.lemmas.Bool.{cases_Bool, or_from, or_left, or_right, or_cases, and_from, and_left, and_parts, cases_order, ltb-true, eqb-true}
use Rattle.std.proofs.lemmas.Bool.Decides.{nat_tests}
use Rattle.std.proofs.lemmas.List.{drop-drop, length-take-le, ext_get_or, get_or-drop}
use Rattle.xa_disk.specs.Disk.{Torn, AllOrNone}
use Rattle.xa_log.specs.declared.fault.OpenFault.TheVariants.{NotALog, Damaged}
use Rattle.xa_log.specs.declared.format.Format.{Format}
use Rattle.xa_log.specs.Believed.Chain.{start, preamble, format_in, size_at, body_at, rest_at, digest_at, is_record, bodies_from, begins, logged}
use Rattle.xa_log.specs.Reading.{is_newer}
use Rattle.xa_log.specs.Believed.Damage.{is_damaged, is_headless}
use Rattle.xa_log.specs.Believed.Pair.{generation, beats, has_log, on_first, current_of, is_broken, logged_of, fault_pair, IsCalm, Behind, AllOrNoBodies, CalmTears}
use Rattle.xa_log.proofs.Records.{record_to, bodies_closed, closed_zeros}
use Rattle.xa_log.proofs.Torn.{torn_then}
use Rattle.xa_log.proofs.Whole.{closed_headed, damaged_headed, none_damaged, zero_size}
use Rattle.xa_log.proofs.Header.{header_magic, header_closed, magic_known, put_header}

tie : (x y : List (List ℕ)) → beats true x y ≡ true → beats false y x ≡ true → x ≡ y
tie [] [] p q = refl
tie [] (b ∷ bs) p q = absurd (⊎_elim (λ lt. omega (arith, ltb-true (generation (b ∷ bs)) 0 lt))
    (λ both. cc ((and_parts (nat_eq (generation (b ∷ bs)) 0) false both).1)) (or_cases (nat_lt (generation (b ∷ bs)) 0) _ p))
tie (b ∷ bs) [] p q = absurd (⊎_elim (λ lt. omega (arith, ltb-true (generation (b ∷ bs)) 0 lt))
    (λ both. cc ((and_parts (nat_eq (generation (b ∷ bs)) 0) false both).1)) (or_cases (nat_lt (generation (b ∷ bs)) 0) _ q))
tie (b ∷ bs) (d ∷ ds) p q =
    let x = generation (b ∷ bs) in
    let y = generation (d ∷ ds) in
    let less : x < y = ⊎_elim (λ lt. ltb-true x y lt) (λ both. absurd (cc ((and_parts (nat_eq x y) false both).1))) (or_cases (nat_lt x y) _ q) in
    absurd (⊎_elim (λ lt. omega (arith, ltb-true y x lt)) (λ both. omega (arith, eqb-true y x (and_parts (nat_eq y x) _ both).0)) (or_cases (nat_lt y x) _ p))

tie_none : (x y : List (List ℕ)) → beats true x y ≡ true → beats false y x ≡ true → x ≡ []
tie_none [] y p q = refl
tie_none (b ∷ bs) [] p q = cc (tie (b ∷ bs) [] p q)
tie_none (b ∷ bs) (d ∷ ds) p q =
    let x = generation (b ∷ bs) in
    let y = generation (d ∷ ds) in
    let less : x < y = ⊎_elim (λ lt. ltb-true x y lt) (λ both. absurd (cc ((and_parts (nat_eq x y) false both).1))) (or_cases (nat_lt x y) _ q) in
    absurd (⊎_elim (λ lt. omega (arith, ltb-true y x lt)) (λ both. omega (arith, eqb-true y x (and_parts (nat_eq y x) _ both).0)) (or_cases (nat_lt y x) _ p))

-- the one of the two that is the current one, where the first given is the first file or isn't
abbrev pub taken : Bool → List ℕ → List ℕ → List ℕ
taken first current other = cond first (current_of current other) (current_of other current)

unbroken : (a b : List ℕ) → is_headless a ≡ false → is_headless b ≡ false → is_damaged (current_of a b) ≡ false → is_broken a b ≡ false
unbroken a b one two whole = or_from (is_headless a) _ one (or_from (is_headless b) _ two whole)

-- a log without records comes before none
pub beats_nil : (first : Bool) (bodies : List (List ℕ)) → beats first bodies [] ≡ true
beats_nil first bodies = elim (cases_order 0 (generation bodies)) [
  | inl same ↦ let a : nat_eq 0 (generation bodies) ≡ true = grind (arith, nat_tests) in or_right (nat_lt 0 (generation bodies)) _ (and_from _ true a refl)
  | inr (inl lt) ↦ let b : nat_lt 0 (generation bodies) ≡ true = grind (arith, nat_tests) in or_left _ _ b
  | inr (inr gt) ↦ absurd (omega arith)
]

-- a greater generation comes before
pub beats_above : (first : Bool) (mine other : List (List ℕ)) → generation other < generation mine → beats first mine other ≡ true
beats_above first mine other lt =
    let b : nat_lt (generation other) (generation mine) ≡ true = grind (arith, nat_tests) in
    or_left _ _ b

module _ (most : ℕ) (bodies : List (List ℕ)) (current other : List ℕ) (log : has_log current ≡ true) (old : is_newer (take 8 current) ≡ false)
    (fits : length current ≤ most) (is : logged current ≡ bodies) (short : length other ≤ most) (known : is_newer (take 8 other) ≡ false) where
  a : nat_lt most (length current) ≡ false
  a = grind (arith, nat_tests, fits)

  b : nat_lt most (length other) ≡ false
  b = grind (arith, nat_tests, short)

  -- two files of which one is a log, none is too long or too new, and none is broken, have a log
  pub no_pair_fault : (first : Bool) → is_headless current ≡ false → is_headless other ≡ false → is_damaged (taken first current other) ≡ false → fault_pair most first current other ≡ None
  no_pair_fault true mine its whole =
      rw (a, b, old, known) (ap (λ (x : Bool). cond (x || has_log other) (cond (is_broken current other) (Some Damaged) None) (Some NotALog)) log
      ∙ ap (λ (x : Bool). cond x (Some Damaged) None) (unbroken current other mine its whole))
  no_pair_fault false mine its whole =
      rw (a, b, old, known) (ap (λ (x : Bool). cond (has_log other || x) (cond (is_broken other current) (Some Damaged) None) (Some NotALog)) log
      ∙ ap (λ (x : Bool). cond x (cond (is_broken other current) (Some Damaged) None) (Some NotALog)) (or_right (has_log other) true refl)
      ∙ ap (λ (x : Bool). cond x (Some Damaged) None) (unbroken other current its mine whole))

  module _ (headed : is_headless other ≡ false) (whole : is_damaged current ≡ false) where
    -- the current one is taken, where the other doesn't come before it, or one that has nothing either
    pub taken_whole : (first : Bool) → beats first bodies (logged other) ≡ true → is_damaged (taken first current other) ≡ false
    taken_whole true wins =
        let on : on_first current other ≡ true =
        and_from (has_log current) _ log (or_right (not (has_log other)) _ (ap (λ (l : List (List ℕ)). beats true l (logged other)) is ∙ wins)) in
        ap (λ (x : Bool). is_damaged (cond x current other)) on ∙ whole
    taken_whole false wins = elim (cases_Bool (on_first other current)) [
      | inl on ↦
          let parts = and_parts (has_log other) _ on in
          let more : beats true (logged other) (logged current) ≡ true =
          ⊎_elim (λ absent. absurd (cc (absent, ap not log))) (λ wins. wins) (or_cases (not (has_log current)) _ parts.1) in
          ap (λ (x : Bool). is_damaged (cond x other current)) on
          ∙ none_damaged other parts.0 headed (tie_none (logged other) bodies (ap (λ (l : List (List ℕ)). beats true (logged other) l) (sym is) ∙ more) wins)
      | inr off ↦ ap (λ (x : Bool). is_damaged (cond x other current)) off ∙ whole
    ]

    pub wins_no_fault : (first : Bool) → beats first bodies (logged other) ≡ true → fault_pair most first current other ≡ None
    wins_no_fault first wins = no_pair_fault first (damaged_headed current whole) headed (taken_whole first wins)

    -- nor where the other one is no log
    pub alone_no_fault : (first : Bool) → has_log other ≡ false → fault_pair most first current other ≡ None
    alone_no_fault true none =
        let on : on_first current other ≡ true = and_from (has_log current) _ log (or_left (not (has_log other)) _ (ap not none)) in
        no_pair_fault true (damaged_headed current whole) headed (ap (λ (x : Bool). is_damaged (cond x current other)) on ∙ whole)
    alone_no_fault false none =
        let off : on_first other current ≡ false = and_left (has_log other) _ none in
        no_pair_fault false (damaged_headed current whole) headed (ap (λ (x : Bool). is_damaged (cond x other current)) off ∙ whole)

  -- and it is the current one's, where the other doesn't come before it
  pub pair_log : (first : Bool) → beats first bodies (logged other) ≡ true → logged_of first current other ≡ bodies
  pair_log true wins =
      let on : on_first current other ≡ true =
      and_from (has_log current) _ log (or_right (not (has_log other)) _ (ap (λ (l : List (List ℕ)). beats true l (logged other)) is ∙ wins)) in
      ap (λ (x : Bool). cond x (logged current) (logged other)) on ∙ is
  pair_log false wins = elim (cases_Bool (on_first other current)) [
    | inl on ↦
        let parts = and_parts (has_log other) _ on in
        let more : beats true (logged other) (logged current) ≡ true =
        ⊎_elim (λ absent. absurd (cc (absent, ap not log))) (λ wins. wins) (or_cases (not (has_log current)) _ parts.1) in
        ap (λ (x : Bool). cond x (logged other) (logged current)) on
        ∙ tie (logged other) bodies (ap (λ (l : List (List ℕ)). beats true (logged other) l) (sym is) ∙ more) wins
    | inr off ↦ ap (λ (x : Bool). cond x (logged other) (logged current)) off ∙ is
  ]

-- ---- what the other file stands for

-- what stands first
record First (format : Format) (m : ℕ) (prev x body : List ℕ) : Type 0 where
  pub is : is_record format prev x ≡ true
  pub body_is : body_at x ≡ body
  pub some : 1 ≤ m

whole_from : (format : Format) (m : ℕ) (prev x : List ℕ) → is_record format prev x ≡ true → bodies_from format (suc m) prev x ≡ body_at x ∷ bodies_from format m (digest_at prev x) (rest_at x)
whole_from format m prev x is = ap (λ (b : Bool). cond b (body_at x ∷ bodies_from format m (digest_at prev x) (rest_at x)) []) is

first_of : (format : Format) (m : ℕ) (prev x body : List ℕ) → take 1 (bodies_from format m prev x) ≡ body ∷ [] → First format m prev x body
first_of format zero prev x body is = absurd (cc is)
first_of format (suc m) prev x body is = elim (cases_Bool (is_record format prev x)) [
  | inl stands ↦
      let one : body_at x ∷ [] ≡ body ∷ [] = sym (ap (λ (l : List (List ℕ)). take 1 l) (whole_from format m prev x stands)) ∙ is in
      record { is = stands; body_is = cc one; some = omega arith }
  | inr other ↦
      let none : bodies_from format (suc m) prev x ≡ [] = bodies_closed format (suc m) prev x other in
      absurd (cc (sym (ap (λ (l : List (List ℕ)). take 1 l) none) ∙ is))
]

-- a record's body is as long as its length says
pub length-body : (format : Format) (prev x : List ℕ) → is_record format prev x ≡ true → length (body_at x) ≡ size_at x
length-body format prev x is = let r = record_to format prev x is in length-take-le (size_at x) (drop 4 x) (omega (arith, r.whole, length-drop 4 x))

-- by the limits of two formats the same bodies chain, where as many do
same_many : (f g : Format) (m : ℕ) (prev x : List ℕ) → length (bodies_from f m prev x) ≡ length (bodies_from g m prev x) → bodies_from f m prev x ≡ bodies_from g m prev x
same_many f g zero prev x same = refl
same_many f g (suc m) prev x same = by (λ n. same_many f g m (digest_at prev x) (rest_at x) n) (cases_Bool (is_record f prev x)) (cases_Bool (is_record g prev x))
  where
    by : (length (bodies_from f m (digest_at prev x) (rest_at x)) ≡ length (bodies_from g m (digest_at prev x) (rest_at x)) → bodies_from f m (digest_at prev x) (rest_at x) ≡ bodies_from g m (digest_at prev x) (rest_at x))
        → (is_record f prev x ≡ true) ⊎ (is_record f prev x ≡ false) → (is_record g prev x ≡ true) ⊎ (is_record g prev x ≡ false) → bodies_from f (suc m) prev x ≡ bodies_from g (suc m) prev x
    by more (inl p) (inl q) =
        let a = whole_from f m prev x p in
        let b = whole_from g m prev x q in
        let n : length (bodies_from f m (digest_at prev x) (rest_at x)) ≡ length (bodies_from g m (digest_at prev x) (rest_at x)) =
        omega (arith, same, ap (λ (l : List (List ℕ)). length l) a, ap (λ (l : List (List ℕ)). length l) b) in
        a ∙ ap (λ (l : List (List ℕ)). body_at x ∷ l) (more n) ∙ sym b
    by more (inl p) (inr q) = absurd (omega (arith, same, ap (λ (l : List (List ℕ)). length l) (whole_from f m prev x p), ap (λ (l : List (List ℕ)). length l) (bodies_closed g (suc m) prev x q)))
    by more (inr p) (inl q) = absurd (omega (arith, same, ap (λ (l : List (List ℕ)). length l) (bodies_closed f (suc m) prev x p), ap (λ (l : List (List ℕ)). length l) (whole_from g m prev x q)))
    by more (inr p) (inr q) = bodies_closed f (suc m) prev x p ∙ sym (bodies_closed g (suc m) prev x q)

-- two files that differ in what is before the first body alone, and have one first body, have one log, where they have as
-- many records
same_first : (f g : Format) (m : ℕ) (prev other x y : List ℕ) → drop 4 x ≡ drop 4 y → is_record f prev x ≡ true → is_record g other y ≡ true → body_at x ≡ body_at y
    → length (bodies_from f m prev x) ≡ length (bodies_from g m other y) → bodies_from f m prev x ≡ bodies_from g m other y
same_first f g zero prev other x y tail p q same many = refl
same_first f g (suc m) prev other x y tail p q same many =
    let n : size_at x ≡ size_at y = sym (length-body f prev x p) ∙ ap (λ (l : List ℕ). length l) same ∙ length-body g other y q in
    let k : 4 + (32 + size_at x) ≡ 36 + size_at x = omega arith in
    let j : 4 + (32 + size_at y) ≡ 36 + size_at y = omega arith in
    let digest : digest_at prev x ≡ digest_at other y =
    sym (record_to f prev x p).chains
    ∙ ap (λ (l : List ℕ). take 32 l) (sym (drop-drop (size_at x) 4 x) ∙ ap (λ (l : List ℕ). drop (size_at x) l) tail ∙ ap (λ (i : ℕ). drop i (drop 4 y)) n ∙ drop-drop (size_at y) 4 y)
    ∙ (record_to g other y q).chains in
    let rest : rest_at x ≡ rest_at y =
    ap (λ (i : ℕ). drop i x) (sym k) ∙ sym (drop-drop (32 + size_at x) 4 x) ∙ ap (λ (l : List ℕ). drop (32 + size_at x) l) tail
    ∙ ap (λ (i : ℕ). drop (32 + i) (drop 4 y)) n ∙ drop-drop (32 + size_at y) 4 y ∙ ap (λ (i : ℕ). drop i y) j in
    let a = whole_from f m prev x p in
    let b = whole_from g m other y q in
    let mid : bodies_from f m (digest_at prev x) (rest_at x) ≡ bodies_from f m (digest_at other y) (rest_at y) = λ i. bodies_from f m (digest i) (rest i) in
    let lens : length (bodies_from f m (digest_at other y) (rest_at y)) ≡ length (bodies_from g m (digest_at other y) (rest_at y)) =
    omega (arith, many, ap (λ (l : List (List ℕ)). length l) a, ap (λ (l : List (List ℕ)). length l) b, ap (λ (l : List (List ℕ)). length l) mid) in
    let behind : bodies_from f m (digest_at prev x) (rest_at x) ≡ bodies_from g m (digest_at other y) (rest_at y) = mid ∙ same_many f g m (digest_at other y) (rest_at y) lens in
    a ∙ (λ i. same i ∷ behind i) ∙ sym b

pub record SameBehind (base file : List ℕ) : Type 0 where
  pub long : length file ≡ length base
  pub tail : drop 12 file ≡ drop 12 base

pub same_tail : (base file : List ℕ) → 12 ≤ length base → Torn 0 12 base file → SameBehind base file
same_tail base file le t =
    let long : length file ≡ length base = omega (arith, t.no_shorter, t.no_longer, le) in
    record {
      long = long;
      tail = ext_get_or 0 (drop 12 file) (drop 12 base) (omega (arith, long, length-drop 12 file, length-drop 12 base))
          (λ i lt.
          let within : 12 + i < length base = omega (arith, lt, long, length-drop 12 file) in
          get_or-drop 12 file i 0 ∙ t.above (12 + i) within (omega arith) ∙ sym (get_or-drop 12 base i 0));
    }

-- Without chance it is what stood there, or nothing. Old records after the header of another format would chain by
-- chance alone: then as many do, so by either's limit they are the same.
pub calm_logged : (stood : List (List ℕ)) (file : List ℕ) → Behind stood file → IsCalm stood file → AllOrNoBodies stood file
calm_logged stood file behind calm = elim (cases_Bool (begins file)) [
  | inr other ↦ inr (bodies_closed (format_in file) (length file) (start (format_in file)) (drop 8 file) other)
  | inl there ↦ standing there behind
]
  where
    standing : begins file ≡ true → Behind stood file → AllOrNoBodies stood file
    standing there (inl nil) = absurd (cc (ap (λ (l : List (List ℕ)). take 1 l) (sym nil) ∙ calm.only there))
    standing there (inr it) =
        let base : List ℕ = it.0 in
        let f : Format = format_in file in
        let g : Format = format_in base in
        let first : First g (length base) (start g) (drop 8 base) (body_at (drop 8 file)) =
        first_of g (length base) (start g) (drop 8 base) (body_at (drop 8 file)) (ap (λ (l : List (List ℕ)). take 1 l) it.1 ∙ calm.only there) in
        let far : 12 ≤ length base = omega (arith, (record_to g (start g) (drop 8 base) first.is).whole, length-drop 8 base) in
        let s : SameBehind base file = same_tail base file far it.2 in
        let tail : drop 4 (drop 8 file) ≡ drop 4 (drop 8 base) = drop-drop 4 8 file ∙ s.tail ∙ sym (drop-drop 4 8 base) in
        let fuel : logged file ≡ bodies_from f (length base) (start f) (drop 8 file) = ap (λ (m : ℕ). bodies_from f m (start f) (drop 8 file)) s.long in
        let many : length (bodies_from f (length base) (start f) (drop 8 file)) ≡ length (logged base) =
        ap (λ (l : List (List ℕ)). length l) (sym fuel) ∙ calm.many there ∙ ap (λ (l : List (List ℕ)). length l) (sym it.1) in
        inl (fuel ∙ same_first f g (length base) (start f) (start g) (drop 8 file) (drop 8 base) tail there first.is (sym first.body_is) many ∙ it.1)

pub behind_torn : (stood : List (List ℕ)) (old new : List ℕ) → Behind stood old → Torn 0 12 old new → Behind stood new
behind_torn stood old new (inl nil) t = inl nil
behind_torn stood old new (inr b) t = inr (b.0, b.1, torn_then 0 12 b.0 old new b.2 t)

pub beats_read : (first : Bool) (bodies stood : List (List ℕ)) (file : List ℕ) → beats first bodies stood ≡ true → AllOrNoBodies stood file
    → beats first bodies (logged file) ≡ true
beats_read first bodies stood file wins (inl is) = ap (λ (l : List (List ℕ)). beats first bodies l) is ∙ wins
beats_read first bodies stood file wins (inr none) = ap (λ (l : List (List ℕ)). beats first bodies l) none ∙ beats_nil first bodies

-- after a whole header and a length 0 nothing chains
pub header_none : (format : Format) (file rest : List ℕ) → file ≡ preamble format ++ rest → begins file ≡ false
header_none format file rest is =
    let f : Format = format_in file in
    ap (λ (l : List ℕ). is_record f (start f) (drop 8 l)) is ∙ ap (λ (l : List ℕ). is_record f (start f) l) (header_closed format rest) ∙ closed_zeros f (start f) rest

pub calm_none : (stood : List (List ℕ)) (file : List ℕ) → is_newer (take 8 file) ≡ false → begins file ≡ false → is_headless file ≡ false → IsCalm stood file
calm_none stood file known none headed = record { known = known; only = λ there. absurd (cc (there, none)); many = λ there. absurd (cc (there, none)); headed = headed }

pub calm_front : (format : Format) (stood : List (List ℕ)) (file rest : List ℕ) → file ≡ preamble format ++ rest → IsCalm stood file
calm_front format stood file rest is =
    calm_none stood file (ap (λ (l : List ℕ). is_newer (take 8 l)) is ∙ ap (λ (l : List ℕ). is_newer l) (header_magic format rest) ∙ magic_known format) (header_none format file rest is)
    (closed_headed file (ap (λ (l : List ℕ). size_at (drop 8 l)) is ∙ ap size_at (header_closed format rest) ∙ zero_size rest))

pub calm_in_memory : CalmTears AllOrNone
calm_in_memory format stood old new calm (inl is) = subst (λ f. IsCalm stood f) (sym is) calm
calm_in_memory format stood old new calm (inr is) = calm_front format stood new (drop 12 old) (is ∙ put_header format old)
