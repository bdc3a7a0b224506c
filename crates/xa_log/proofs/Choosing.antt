-- Which of two files that were read is the current one.
use Rattle.std.proofs.Common.{◌≡◌, ◌≢◌, ◌⊎◌, inl, inr, ⊎_elim, ℕ, zero, suc, ◌≤◌, ◌<◌, Bool, true, false, not, ◌||◌, List, [], ◌∷◌, ◌++◌, append_assoc, length, take, drop, refl, sym, ◌∙◌, ap, subst, arith, cond, nat_lt, Option, Some, None, length-drop}
use Rattle.std.specs.Prelude.{is_some, is_none, unwrap_or, Result, MatchResult}
use Rattle.std.proofs.Common.{Ok, Err}
use Rattle.std.specs.Result.{IfErr, IfOk}
use Rattle.std.specs.Str.{bytes_eq}
use Rattle.std.proofs.lemmas.List.{length-take, take_at}
use Rattle.std.proofs.lemmas.Bool.{cases_Bool, and_left, and_from, or_left, or_right, or_from, or_cases, or_parts, and_parts}
use Rattle.std.proofs.lemmas.Bool.Decides.{nat_tests}
use Rattle.std.proofs.lemmas.Slice.Eq.{bytes_eq-Decides}
use Rattle.xa_log.specs.declared.fault.OpenFault.{OpenFault}
use Rattle.xa_log.specs.declared.fault.OpenFault.TheVariants.{NotALog, TooNew, TooLong, Damaged, Device, Memory}
use Rattle.xa_log.specs.declared.format.Format.{Format}
use Rattle.xa_log.specs.declared.format.Format.TheVariants.{One, Two}
use Rattle.xa_log.specs.declared.found.Found.{Found}
use Rattle.xa_log.specs.declared.heads.Head.{Head}
use Rattle.xa_log.specs.Believed.Chain.{magic, start, format_of, format_in, is_record, body_at, rest_at, digest_at, bodies_from, logged, records, Rests}
use Rattle.xa_log.specs.declared.reading.Scan.{Scan}
use Rattle.xa_log.specs.Believed.Damage.{breaks_behind, breaks_off, is_cut, is_damaged, is_headless}
use Rattle.xa_log.specs.Believed.LeftOut.{stops_short}
use Rattle.xa_log.specs.Reading.{is_newer, fault_unless, front_fault, fault_of, Explains, Finds, IsScan, bodies_of}
use Rattle.xa_log.specs.Believed.Pair.{number_in, generation, is_nil, beats, has_log, on_first, current_of, is_broken, pair_fault}
use Rattle.xa_log.specs.Looking.{AreShort, either_log, Tells, IsHead, IsCurrent}
use Rattle.xa_log.specs.Believed.Unfit.{generation_in}
use Rattle.xa_log.proofs.Header.{magic_known}
use Rattle.xa_log.proofs.Records.{format_magic, length-magic, record_to, bodies_closed, format_text, rests_logged}
use Rattle.xa_log.proofs.Whole.{none_damaged}

-- ---- how a file begins

-- the first eight bytes that name a format are its own
pub magic_of : (x : List ℕ) (format : Format) → format_of x ≡ Some format → x ≡ magic format
magic_of x format is = elim (cases_Bool (bytes_eq x (magic One))) [
  | inl one ↦
      let named : Some One ≡ Some format = sym (ap (λ (t : Bool). cond t (Some One) (cond (bytes_eq x (magic Two)) (Some Two) None)) one) ∙ is in
      let same : One ≡ format = cc named in
      (bytes_eq-Decides x (magic One)).0 one ∙ ap magic same
  | inr other ↦
      let rest : cond (bytes_eq x (magic Two)) (Some Two) None ≡ Some format =
      sym (ap (λ (t : Bool). cond t (Some One) (cond (bytes_eq x (magic Two)) (Some Two) None)) other) ∙ is in
      elim (cases_Bool (bytes_eq x (magic Two))) [
        | inl two ↦
            let named : Some Two ≡ Some format = sym (ap (λ (t : Bool). cond t (Some Two) None) two) ∙ rest in
            let same : Two ≡ format = cc named in
            (bytes_eq-Decides x (magic Two)).0 two ∙ ap magic same
        | inr neither ↦ absurd (cc (sym (ap (λ (t : Bool). cond t (Some Two) None) neither) ∙ rest))
      ]
]

-- the first eight bytes of a log are not those of a later format
pub newer_not : (x : List ℕ) (format : Format) → format_of x ≡ Some format → is_newer x ≡ false
newer_not x format is = ap (λ (l : List ℕ). is_newer l) (magic_of x format is) ∙ magic_known format

pub record Fault (x : List ℕ) (e : OpenFault) : Type 0 where
  pub format : None ≡ format_of x
  pub newer : e ≡ TooNew → true ≡ is_newer x
  pub older : e ≢ TooNew → false ≡ is_newer x

-- what the fault of the first eight bytes says of them
pub fault_says : (x : List ℕ) (e : OpenFault) → front_fault x ≡ Some e → Fault x e
fault_says x e is = by (format_of x) refl (is_newer x) refl is
  where
    by : (o : Option Format) → o ≡ format_of x → (t : Bool) → t ≡ is_newer x → fault_unless o (cond t TooNew NotALog) ≡ Some e → Fault x e
    by (Some f) p t q is = absurd (cc is)
    by None p true q is = record { format = p; newer = λ new. q; older = λ other. absurd (other (cc is)) }
    by None p false q is = record { format = p; newer = λ new. absurd (cc (new, is)); older = λ other. q }

-- fewer than eight bytes name no format
pub short_format : (file : List ℕ) → length file < 8 → None ≡ format_of (take 8 file)
short_format file short = by (format_of (take 8 file)) refl
  where
    by : (o : Option Format) → o ≡ format_of (take 8 file) → None ≡ format_of (take 8 file)
    by None is = is
    by (Some format) is =
        let whole : take 8 file ≡ magic format = magic_of (take 8 file) format (sym is) in
        absurd (omega (arith, ap (λ (l : List ℕ). length l) whole, length-take 8 file, length-magic format))

-- ---- what a log's first record tells

-- a file is read by the format that it names
pub own_format : (file : List ℕ) (format : Format) → format_of (take 8 file) ≡ Some format → format_in file ≡ format
own_format file format is = ap (λ (o : Option Format). unwrap_or o Two) is

first_tells : (format : Format) (m : ℕ) (prev x : List ℕ) (found : Found) → 1 ≤ m → is_record format prev x ≡ true → found.body.items ≡ body_at x → Tells (bodies_from format m prev x) (Some found)
first_tells format zero prev x found some there is = absurd (omega arith)
first_tells format (suc m) prev x found some there is =
    let whole : bodies_from format (suc m) prev x ≡ body_at x ∷ bodies_from format m (digest_at prev x) (rest_at x) = ap (λ (b : Bool). cond b (body_at x ∷ bodies_from format m (digest_at prev x) (rest_at x)) []) there in
    (ap (λ (l : List (List ℕ)). is_nil l) whole, ap (λ (l : List (List ℕ)). generation l) whole ∙ ap number_in (sym is))

pub told : (file window : List ℕ) (head : Head) → IsHead file window (Some head) → Tells (logged file) head.first
told file window head it =
    subst (λ k. Tells (bodies_from k (length file) (start k) (drop 8 file)) head.first) (sym (own_format file head.format it.0)) (by head.first it.1)
  where
    by : (o : Option Found) → Finds head.format (start head.format) file 8 window o → Tells (bodies_from head.format (length file) (start head.format) (drop 8 file)) o
    by None none = bodies_closed head.format (length file) (start head.format) (drop 8 file) none
    by (Some found) some =
        first_tells head.format (length file) (start head.format) (drop 8 file) found
        (omega (arith, (record_to head.format (start head.format) (drop 8 file) some.0).whole, length-drop 8 file)) some.0 some.2

-- the generation of the log that a file is
pub head_generation : (file window : List ℕ) (head : Head) (n : ℕ) → IsHead file window (Some head) → ((bodies : List (List ℕ)) → Tells bodies head.first → n ≡ generation bodies) → n ≡ generation_in file
head_generation file window head n it number =
    number (logged file) (told file window head it)
    ∙ sym (ap (λ (b : Bool). cond b (generation (logged file)) 0) (ap (λ (o : Option Format). is_some o) it.0))

pub no_generation : (file window : List ℕ) → IsHead file window None → 0 ≡ generation_in file
no_generation file window it = sym (ap (λ (b : Bool). cond b (generation (logged file)) 0) (ap (λ (o : Option Format). is_some o) it))

pub told_nil : (bodies : List (List ℕ)) (o : Option Found) → Tells bodies o → is_nil bodies ≡ is_none o
told_nil bodies None is = ap (λ (l : List (List ℕ)). is_nil l) is
told_nil bodies (Some found) is = is.0

pub told_some : (bodies : List (List ℕ)) (o : Option Found) → Tells bodies o → not (is_nil bodies) ≡ is_some o
told_some bodies None is = ap (λ (l : List (List ℕ)). not (is_nil l)) is
told_some bodies (Some found) is = ap not is.0

-- ---- which of two is the current one

module _ (a window b other_window : List ℕ) where
  log_a : (h : Head) → IsHead a window (Some h) → has_log a ≡ true
  log_a h is = ap (λ (o : Option Format). is_some o) is.0

  log_b : (h : Head) → IsHead b other_window (Some h) → has_log b ≡ true
  log_b h is = ap (λ (o : Option Format). is_some o) is.0

  none_a : IsHead a window None → has_log a ≡ false
  none_a is = ap (λ (o : Option Format). is_some o) is

  none_b : IsHead b other_window None → has_log b ≡ false
  none_b is = ap (λ (o : Option Format). is_some o) is

  on_both : (h k : Head) → IsHead a window (Some h) → IsHead b other_window (Some k) → on_first a b ≡ beats true (logged a) (logged b)
  on_both h k x y = let ha = log_a h x in let hb = log_b k y in rw (ha, hb) refl

  pub choose_both : (h k : Head) (t : Bool) → IsHead a window (Some h) → IsHead b other_window (Some k)
      → ((bodies stood : List (List ℕ)) → Tells bodies h.first → Tells stood k.first → t ≡ beats true bodies stood) → (either_log a b ≡ true) × (t ≡ on_first a b)
  choose_both h k t x y is =
      (or_left (has_log a) (has_log b) (log_a h x), is (logged a) (logged b) (told a window h x) (told b other_window k y) ∙ sym (on_both h k x y))

  pub choose_only_first : (h : Head) → IsHead a window (Some h) → IsHead b other_window None → (either_log a b ≡ true) × (true ≡ on_first a b)
  choose_only_first h x y =
      (or_left (has_log a) (has_log b) (log_a h x), sym (and_from (has_log a) _ (log_a h x) (or_left (not (has_log b)) _ (ap not (none_b y)))))

  pub choose_only_second : (k : Head) → IsHead a window None → IsHead b other_window (Some k) → (either_log a b ≡ true) × (false ≡ on_first a b)
  choose_only_second k x y = (or_right (has_log a) (has_log b) (log_b k y), sym (and_left (has_log a) _ (none_a x)))

  pub choose_none : IsHead a window None → IsHead b other_window None → either_log a b ≡ false
  choose_none x y = or_from (has_log a) (has_log b) (none_a x) (none_b y)

-- ---- why two files have no log

none_broken : (format : Format) (file : List ℕ) → breaks_behind format [] file ≡ false
unfolding is_cut stops_short
none_broken One file = refl
none_broken Two file = refl

-- a file that was read, and shows no first record that doesn't chain, is damaged where what was read of it is cut
pub scan_damaged : (file : List ℕ) (scan : Scan) → IsScan file scan → is_headless file ≡ false → scan.broken ≡ is_damaged file
unfolding is_damaged breaks_off
scan_damaged file scan it headed = by (bodies_of scan.bodies.items) it.rests it.broken
  where
    named : (bodies : List (List ℕ)) → Rests scan.format bodies file → take 8 file ≡ magic scan.format
    named bodies r =
        ap (λ (l : List ℕ). take 8 l) (r.split ∙ append_assoc (magic scan.format) (records (start scan.format) bodies) r.rest)
        ∙ take_at (magic scan.format) (records (start scan.format) bodies ++ r.rest) 8 (length-magic scan.format)

    log : (bodies : List (List ℕ)) → Rests scan.format bodies file → has_log file ≡ true
    log bodies r = ap (λ (o : Option Format). is_some o) (ap (λ (l : List ℕ). format_of l) (named bodies r) ∙ format_magic scan.format)

    own : (bodies : List (List ℕ)) → Rests scan.format bodies file → format_in file ≡ scan.format
    own bodies r = ap format_in r.split ∙ format_text scan.format bodies r.rest

    by : (bodies : List (List ℕ)) → Rests scan.format bodies file → scan.broken ≡ breaks_behind scan.format bodies file → scan.broken ≡ is_damaged file
    by [] r is = is ∙ none_broken scan.format file ∙ sym (none_damaged file (log [] r) headed (rests_logged scan.format [] file r))
    by (b ∷ bodies) r is = is ∙ (λ i. breaks_off (sym (own (b ∷ bodies) r) i) (sym (rests_logged scan.format (b ∷ bodies) file r) i) file)

-- what is told of two files of which one is a log
abbrev pub by_both : List ℕ → List ℕ → Option OpenFault
by_both a b = cond (is_broken a b) (Some Damaged) None

-- one that shows a first record that doesn't chain is a log
pub named_headless : (file : List ℕ) → is_headless file ≡ true → has_log file ≡ true
unfolding is_headless
named_headless file is = (and_parts (has_log file) _ is).0

pub headless_log : (a b : List ℕ) → (is_headless a || is_headless b) ≡ true → (has_log a || has_log b) ≡ true
headless_log a b is =
    ⊎_elim (λ one. or_left (has_log a) (has_log b) (named_headless a one)) (λ two. or_right (has_log a) (has_log b) (named_headless b two)) (or_cases (is_headless a) (is_headless b) is)

pub headless_fault : (most : ℕ) (a b : List ℕ) → (is_headless a || is_headless b) ≡ true → pair_fault most a b ≡ by_both a b → pair_fault most a b ≡ Some Damaged
headless_fault most a b headless is =
    is ∙ ap (λ (k : Bool). cond k (Some Damaged) None)
    (⊎_elim (λ one. or_left (is_headless a) _ one) (λ two. or_right (is_headless a) _ (or_left (is_headless b) _ two)) (or_cases (is_headless a) (is_headless b) headless))

pub broken_fault : (most : ℕ) (a b : List ℕ) (scan : Scan) (first t : Bool) → scan.broken ≡ t → IsCurrent a b first scan → (is_headless a || is_headless b) ≡ false
    → pair_fault most a b ≡ by_both a b → pair_fault most a b ≡ cond t (Some Damaged) None
broken_fault most a b scan first t broken it headed is =
    let both = or_parts (is_headless a) (is_headless b) headed in
    let mine : is_headless (cond first a b) ≡ false = of_cond first a b both.0 both.1 in
    let one : is_broken a b ≡ is_damaged (current_of a b) =
    ap (λ (k : Bool). k || (is_headless b || is_damaged (current_of a b))) both.0 ∙ ap (λ (k : Bool). k || is_damaged (current_of a b)) both.1 in
    is ∙ ap (λ (k : Bool). cond k (Some Damaged) None) (one ∙ ap (λ (k : Bool). is_damaged (cond k a b)) (sym it.choice) ∙ sym (scan_damaged (cond first a b) scan it.scan_is mine) ∙ broken)
  where
    of_cond : (t : Bool) (x y : List ℕ) → is_headless x ≡ false → is_headless y ≡ false → is_headless (cond t x y) ≡ false
    of_cond true x y p q = p
    of_cond false x y p q = q

module _ (most : ℕ) (a b : List ℕ) (m n : ℕ) (short : AreShort most a b m n) where
  fits_a : nat_lt most (length a) ≡ false
  fits_a = grind (arith, nat_tests, short.first_is, short.first_fits)

  fits_b : nat_lt most (length b) ≡ false
  fits_b = grind (arith, nat_tests, short.second_is, short.second_fits)

  by_front : pair_fault most a b ≡ cond (is_newer (take 8 a) || is_newer (take 8 b)) (Some TooNew) (cond (has_log a || has_log b) (by_both a b) (Some NotALog))
  by_front = rw (fits_a, fits_b) refl

  pub newer_fault : (is_newer (take 8 a) || is_newer (take 8 b)) ≡ true → pair_fault most a b ≡ Some TooNew
  newer_fault new = by_front ∙ ap (λ (k : Bool). cond k (Some TooNew) (cond (has_log a || has_log b) (by_both a b) (Some NotALog))) new

  pub fault_is : (is_newer (take 8 a) || is_newer (take 8 b)) ≡ false → (t : Bool) → (has_log a || has_log b) ≡ t → pair_fault most a b ≡ cond t (by_both a b) (Some NotALog)
  fault_is old t has =
      by_front
      ∙ ap (λ (k : Bool). cond k (Some TooNew) (cond (has_log a || has_log b) (by_both a b) (Some NotALog))) old
      ∙ ap (λ (k : Bool). cond k (by_both a b) (Some NotALog)) has

-- ---- one file that opens

log_front : (x : List ℕ) → front_fault x ≡ None → (format : Format) × (format_of x ≡ Some format)
log_front x none = by (format_of x) refl none
  where
    by : (o : Option Format) → format_of x ≡ o → fault_unless o (cond (is_newer x) TooNew NotALog) ≡ None → (format : Format) × (format_of x ≡ Some format)
    by None p is = absurd (cc is)
    by (Some format) p is = (format, p)

opens_front : (most : ℕ) (file : List ℕ) → fault_of most file ≡ None → front_fault (take 8 file) ≡ None
opens_front most file none = elim (cases_Bool (nat_lt most (length file))) [
  | inl long ↦ absurd (cc (sym (ap (λ (b : Bool). cond b (Some TooLong) (front_fault (take 8 file))) long) ∙ none))
  | inr short ↦ sym (ap (λ (b : Bool). cond b (Some TooLong) (front_fault (take 8 file))) short) ∙ none
]

pub no_fault_log : (most : ℕ) (file : List ℕ) → fault_of most file ≡ None → has_log file ≡ true
no_fault_log most file none = ap (λ (o : Option Format). is_some o) (log_front (take 8 file) (opens_front most file none)).1

pub no_fault_newer : (most : ℕ) (file : List ℕ) → fault_of most file ≡ None → is_newer (take 8 file) ≡ false
no_fault_newer most file none = let it = log_front (take 8 file) (opens_front most file none) in newer_not (take 8 file) it.0 it.1

-- what is found of one that names a format, and isn't too long
pub names_no_fault : (most : ℕ) (file : List ℕ) (format : Format) → length file ≤ most → format_of (take 8 file) ≡ Some format → fault_of most file ≡ None
names_no_fault most file format fits is =
    let short : nat_lt most (length file) ≡ false = grind (arith, nat_tests, fits) in
    ap (λ (b : Bool). cond b (Some TooLong) (front_fault (take 8 file))) short ∙ ap (λ (o : Option Format). fault_unless o (cond (is_newer (take 8 file)) TooNew NotALog)) is

pub whole_value : {X : Type 0} (r : Result X OpenFault) (P : X → Type 0) (fault : Option OpenFault) → fault ≡ None → IfErr r (λ e. (e ≡ Device) ⊎ (e ≡ Memory)) → IfOk r P
    → MatchResult r (λ x. (fault ≡ None) × P x) (λ e. Explains e fault)
whole_value (Ok x) P fault none kinds it = (none, it)
whole_value (Err e) P fault none kinds it = ⊎_elim (λ is. subst (λ k. Explains k fault) (sym is) tt) (λ is. subst (λ k. Explains k fault) (sym is) tt) kinds
