-- A damaged log that is ended.
use Rattle.std.proofs.Common.{◌≡◌, ◌⊎◌, inl, inr, ⊎_elim, ℕ, zero, suc, ◌+◌, ◌≤◌, Bool, true, false, not, ◌&&◌, ◌||◌, nat_lt, nat_eq, List, [], ◌∷◌, ◌++◌, length, take, drop, replicate, refl, sym, ◌∙◌, ap, subst, arith, cond, length-append, append_assoc, Option, Some, None}
use Rattle.std.specs.Prelude.{is_some}
use Rattle.std.specs.List.{AllByRecursion}
use Rattle.std.proofs.lemmas.Bool.{and_left, and_parts, or_from, or_parts}
use Rattle.std.proofs.lemmas.Bool.Decides.{nat_tests}
use Rattle.std.proofs.lemmas.List.{append-nil, take_at}
use Rattle.xa_disk.specs.Disk.{put}
use Rattle.xa_log.specs.Believed.Chain.{magic, start, last, text, records, begins, format_of, format_in, logged, IsBody, Rests}
use Rattle.xa_log.specs.Contents.{IsContents}
use Rattle.xa_log.specs.Believed.Damage.{breaks_off, is_damaged, is_headless}
use Rattle.xa_log.specs.Ending.{HasEnded, IsEnded, cleared, end_byte, ended, has_records, is_cut_in, left_out}
use Rattle.xa_log.specs.Finding.{at_first, behind_last, damage_of, place_of}
use Rattle.xa_log.specs.Believed.Pair.{beats, generation, has_log, is_nil, on_first, current_of, is_broken, logged_pair, logged_of, pair_fault}
use Rattle.xa_log.specs.Reading.{bodies_of, fault_of, is_newer}
use Rattle.xa_log.specs.declared.contents.Contents.{Contents}
use Rattle.xa_log.specs.declared.contents.Contents.TheVariants.{Log, Nothing, Stray, Later, TooLong}
use Rattle.xa_log.specs.declared.ending.LeftOut.{LeftOut}
use Rattle.xa_log.specs.declared.fault.OpenFault.{OpenFault}
use Rattle.xa_log.specs.declared.fault.OpenFault.TheVariants as fault
use Rattle.xa_log.specs.declared.finding.Damage.{Damage}
use Rattle.xa_log.specs.declared.format.Format.{Format}
use Rattle.xa_log.proofs.Choosing.{named_headless, names_no_fault, no_fault_log}
use Rattle.xa_log.proofs.Pair.{beats_nil}
use Rattle.xa_log.proofs.Parts.{rests_magic}
use Rattle.xa_log.proofs.Records.{bodies_closed, closed_zeros, format_magic, length-text, rests_logged}
use Rattle.xa_log.proofs.Torn.{put_within}
use Rattle.xa_log.proofs.Whole.{behind_closing, damaged_headed, whole_file}

-- ---- one file

-- what a file is that is ended after these bodies
record Ends (bodies : List (List ℕ)) (new : List ℕ) : Type 0 where
  pub log : has_log new ≡ true
  pub logged_is : logged new ≡ bodies
  pub sound : is_damaged new ≡ false

rests_log : (format : Format) (bodies : List (List ℕ)) (file : List ℕ) → Rests format bodies file → has_log file ≡ true
rests_log format bodies file r = ap (λ (o : Option Format). is_some o) (ap (λ (l : List ℕ). format_of l) (rests_magic format bodies file r) ∙ format_magic format)

one_zero : (n : ℕ) (x : List ℕ) → replicate {A = ℕ} (suc n) 0 ++ x ≡ 0 ∷ (replicate {A = ℕ} n 0 ++ x)
one_zero n x = refl

no_zero : (x : List ℕ) → replicate {A = ℕ} 0 0 ++ x ≡ x
no_zero x = refl

five_zeros : (x : List ℕ) → cleared ++ x ≡ 0 ∷ 0 ∷ 0 ∷ 0 ∷ 0 ∷ x
five_zeros x =
    one_zero 4 x ∙ ap (λ (l : List ℕ). 0 ∷ l) (one_zero 3 x) ∙ ap (λ (l : List ℕ). 0 ∷ 0 ∷ l) (one_zero 2 x)
    ∙ ap (λ (l : List ℕ). 0 ∷ 0 ∷ 0 ∷ l) (one_zero 1 x) ∙ ap (λ (l : List ℕ). 0 ∷ 0 ∷ 0 ∷ 0 ∷ l) (one_zero 0 x)
    ∙ ap (λ (l : List ℕ). 0 ∷ 0 ∷ 0 ∷ 0 ∷ 0 ∷ l) (no_zero x)

module _ (format : Format) (bodies : List (List ℕ)) (file rest : List ℕ) (sizes : AllByRecursion (IsBody format) bodies) (split : file ≡ text format bodies ++ rest) where
  abbrev behind : List ℕ
  behind = 0 ∷ drop (length (text format bodies) + 5) file

  ended_split : put file (length (text format bodies)) cleared ≡ text format bodies ++ (0 ∷ 0 ∷ 0 ∷ 0 ∷ behind)
  ended_split =
      let long : length (text format bodies) ≤ length file = omega (arith, ap (λ (l : List ℕ). length l) split, length-append (text format bodies) rest) in
      put_within file (length (text format bodies)) cleared long
      ∙ ap (λ (l : List ℕ). l ++ cleared ++ drop (length (text format bodies) + 5) file)
      (ap (λ (l : List ℕ). take (length (text format bodies)) l) split ∙ take_at (text format bodies) rest (length (text format bodies)) refl)
      ∙ append_assoc (text format bodies) cleared (drop (length (text format bodies) + 5) file)
      ∙ ap (λ (l : List ℕ). text format bodies ++ l) (five_zeros (drop (length (text format bodies) + 5) file))

  ended_rests : Rests format bodies (put file (length (text format bodies)) cleared)
  ended_rests = record { rest = 0 ∷ 0 ∷ 0 ∷ 0 ∷ behind; split = ended_split; sizes = sizes; closed = closed_zeros format (last (start format) bodies) behind }

  ended_ends : Ends bodies (put file (length (text format bodies)) cleared)
  ended_ends = record {
    log = rests_log format bodies (put file (length (text format bodies)) cleared) ended_rests;
    logged_is = rests_logged format bodies (put file (length (text format bodies)) cleared) ended_rests;
    sound = whole_file format bodies (put file (length (text format bodies)) cleared) ended_rests
        (behind_closing format bodies (put file (length (text format bodies)) cleared) behind ended_split (inr refl));
  }

-- it is ended after its records, or after its name
module _ (format : Format) (bodies : List (List ℕ)) (file : List ℕ) (at : ℕ) (r : Rests format bodies file) where
  ended_last : at ≡ length (text format bodies) → Ends bodies (put file at cleared)
  ended_last is = subst (λ (n : ℕ). Ends bodies (put file n cleared)) (sym is) (ended_ends format bodies file r.rest r.sizes r.split)

  none_split : file ≡ text format [] ++ (records (start format) bodies ++ r.rest)
  none_split =
      r.split ∙ append_assoc (magic format) (records (start format) bodies) r.rest
      ∙ sym (ap (λ (l : List ℕ). l ++ (records (start format) bodies ++ r.rest)) (append-nil (magic format)))

  ended_none : at ≡ 8 → Ends [] (put file at cleared)
  ended_none is =
      let eight : at ≡ length (text format []) = is ∙ sym (length-text format []) in
      subst (λ (n : ℕ). Ends [] (put file n cleared)) (sym eight) (ended_ends format [] file (records (start format) bodies ++ r.rest) tt none_split)

  ended_by : (whole : Bool) (last : ℕ) → at ≡ cond whole 8 last → last ≡ length (text format bodies) → Ends (cond whole [] bodies) (put file at cleared)
  ended_by true last is same = ended_none is
  ended_by false last is same = ended_last (is ∙ same)

-- ---- what was read

named : (file : List ℕ) → has_log file ≡ true → (format : Format) × (format_of (take 8 file) ≡ Some format)
named file log = by (format_of (take 8 file)) refl log
  where
    by : (o : Option Format) → format_of (take 8 file) ≡ o → is_some o ≡ true → (format : Format) × (format_of (take 8 file) ≡ Some format)
    by None p is = absurd (cc is)
    by (Some format) p is = (format, p)

-- a log that fits is read as one
read_rests : (most : ℕ) (file : List ℕ) (contents : Contents) → has_log file ≡ true → length file ≤ most → IsContents most file contents → Rests (format_in file) (logged file) file
read_rests most file contents log fits it = by contents it
  where
    none : fault_of most file ≡ None
    none = let f = named file log in names_no_fault most file f.0 fits f.1

    by : (contents : Contents) → IsContents most file contents → Rests (format_in file) (logged file) file
    by (Log log) it = it.1.rests
    by Nothing it = absurd (cc (sym none ∙ it.0))
    by Stray it = absurd (cc (sym none ∙ it.0))
    by Later it = absurd (cc (sym none ∙ it))
    by TooLong it = absurd (cc (sym none ∙ it))

-- one with records is a log
read_records : (most : ℕ) (file : List ℕ) (contents : Contents) → IsContents most file contents → has_records contents ≡ true → (has_log file ≡ true) × (is_nil (logged file) ≡ false)
read_records most file (Log log) it some =
    (no_fault_log most file it.0, ap (λ (l : List (List ℕ)). is_nil l) (sym it.1.bodies) ∙ not_true (is_nil (bodies_of log.bodies.items)) some)
  where
    not_true : (t : Bool) → not t ≡ true → t ≡ false
    not_true true is = absurd (cc is)
    not_true false is = refl
read_records most file Nothing it some = absurd (cc some)
read_records most file Stray it some = absurd (cc some)
read_records most file Later it some = absurd (cc some)
read_records most file TooLong it some = absurd (cc some)

-- ---- where it was damaged

-- what an opening refuses as damaged fits, and one of the two is a log
record Refused (most : ℕ) (a b : List ℕ) : Type 0 where
  pub fits : (length a ≤ most) × (length b ≤ most)
  pub log : (has_log a || has_log b) ≡ true

refused : (most : ℕ) (a b : List ℕ) → pair_fault most a b ≡ Some fault.Damaged → Refused most a b
refused most a b is = by (nat_lt most (length a) || nat_lt most (length b)) refl is
  where
    named_by : (new log : Bool) → (has_log a || has_log b) ≡ log
        → cond new (Some fault.TooNew) (cond log (cond (is_broken a b) (Some fault.Damaged) None) (Some fault.NotALog)) ≡ Some fault.Damaged → (has_log a || has_log b) ≡ true
    named_by true log p is = absurd (cc is)
    named_by false true p is = p
    named_by false false p is = absurd (cc is)

    by : (long : Bool) → (nat_lt most (length a) || nat_lt most (length b)) ≡ long
        → cond long (Some fault.TooLong) (cond (is_newer (take 8 a) || is_newer (take 8 b)) (Some fault.TooNew)
        (cond (has_log a || has_log b) (cond (is_broken a b) (Some fault.Damaged) None) (Some fault.NotALog))) ≡ Some fault.Damaged → Refused most a b
    by true p is = absurd (cc is)
    by false p is =
        let both = or_parts (nat_lt most (length a)) (nat_lt most (length b)) p in
        let one : nat_lt most (length a) ≡ false = both.0 in
        let two : nat_lt most (length b) ≡ false = both.1 in
        record {
          fits = (grind (arith, nat_tests, one), grind (arith, nat_tests, two));
          log = named_by (is_newer (take 8 a) || is_newer (take 8 b)) (has_log a || has_log b) refl is;
        }

-- the place is in a log, and after its records
abbrev IsPlace : List ℕ → List ℕ → Damage → Type 0
IsPlace a b d = (has_log (cond d.on_first a b) ≡ true) × (d.at ≡ length (text (format_in (cond d.on_first a b)) (logged (cond d.on_first a b))))

headless_at : (file : List ℕ) → is_headless file ≡ true → 8 ≡ length (text (format_in file) (logged file))
unfolding is_headless
headless_at file is =
    let rest = (and_parts (has_log file) _ is).1 in
    let none : begins file ≡ false = not_begun (begins file) _ rest in
    let empty : logged file ≡ [] = bodies_closed (format_in file) (length file) (start (format_in file)) (drop 8 file) none in
    sym (ap (λ (l : List (List ℕ)). length (text (format_in file) l)) empty ∙ length-text (format_in file) [])
  where
    not_begun : (t s : Bool) → (not t && s) ≡ true → t ≡ false
    not_begun true s is = absurd (cc is)
    not_begun false s is = refl

current_log : (a b : List ℕ) → (has_log a || has_log b) ≡ true → has_log (current_of a b) ≡ true
current_log a b log = by (has_log a) (has_log b) refl refl log
  where
    by : (s t : Bool) → has_log a ≡ s → has_log b ≡ t → (s || t) ≡ true → has_log (current_of a b) ≡ true
    by true true p q is = of (on_first a b) p q
      where
        of : (first : Bool) → has_log a ≡ true → has_log b ≡ true → has_log (cond first a b) ≡ true
        of true p q = p
        of false p q = q
    by true false p q is =
        let first : on_first a b ≡ true = (λ i. p i && (not (q i) || beats true (logged a) (logged b))) in
        ap (λ (k : Bool). has_log (cond k a b)) first ∙ p
    by false true p q is =
        let first : on_first a b ≡ false = and_left (has_log a) _ p in
        ap (λ (k : Bool). has_log (cond k a b)) first ∙ q
    by false false p q is = absurd (cc is)

place : (most : ℕ) (a b : List ℕ) (d : Damage) → pair_fault most a b ≡ Some fault.Damaged → damage_of a b ≡ Some d → IsPlace a b d
place most a b d fault is = subst (λ (x : Damage). IsPlace a b x) (of_broken (is_broken a b) is) (by (is_headless a) (is_headless b) refl refl)
  where
    of_broken : (t : Bool) → cond t (Some (place_of a b)) None ≡ Some d → place_of a b ≡ d
    of_broken true is = cc is
    of_broken false is = absurd (cc is)

    by : (s t : Bool) → is_headless a ≡ s → is_headless b ≡ t → IsPlace a b (place_of a b)
    by true t p q =
        let at : at_first true ≡ place_of a b = sym (ap (λ (k : Bool). cond k (at_first true) (cond (is_headless b) (at_first false) (behind_last (on_first a b) (current_of a b)))) p) in
        subst (λ (x : Damage). IsPlace a b x) at (named_headless a p, headless_at a p)
    by false true p q =
        let at : at_first false ≡ place_of a b = sym (λ i. cond (p i) (at_first true) (cond (q i) (at_first false) (behind_last (on_first a b) (current_of a b)))) in
        subst (λ (x : Damage). IsPlace a b x) at (named_headless b q, headless_at b q)
    by false false p q =
        let at : behind_last (on_first a b) (current_of a b) ≡ place_of a b = sym (λ i. cond (p i) (at_first true) (cond (q i) (at_first false) (behind_last (on_first a b) (current_of a b)))) in
        subst (λ (x : Damage). IsPlace a b x) at (current_log a b (refused most a b fault).log, refl)

-- ---- what stands of the two

-- a log of no records comes behind one with some
beaten : (bodies : List (List ℕ)) → is_nil bodies ≡ false → beats true [] bodies ≡ false
beaten [] some = absurd (cc some)
beaten (b ∷ bodies) some =
    let n : ℕ = generation (b ∷ bodies) in
    let less : nat_lt n 0 ≡ false = grind (arith, nat_tests) in
    or_from (nat_lt n 0) _ less (none (nat_eq n 0))
  where
    none : (t : Bool) → (t && false) ≡ false
    none true = refl
    none false = refl

module _ (x o new : List ℕ) (log : has_log x ≡ true) where
  kept_first : Ends (logged x) new → logged_pair new o ≡ logged_pair x o
  kept_first it =
      let first : on_first new o ≡ on_first x o = (λ i. (it.log ∙ sym log) i && (not (has_log o) || beats true (it.logged_is i) (logged o))) in
      (λ i. cond (first i) (it.logged_is i) (logged o))

  kept_second : Ends (logged x) new → logged_pair o new ≡ logged_pair o x
  kept_second it =
      let first : on_first o new ≡ on_first o x = (λ i. has_log o && (not ((it.log ∙ sym log) i) || beats true (logged o) (it.logged_is i))) in
      (λ i. cond (first i) (logged o) (it.logged_is i))

  gone_first : Ends [] new → (has_log o ≡ true) × (is_nil (logged o) ≡ false) → logged_pair new o ≡ logged o
  gone_first it some =
      let first : on_first new o ≡ false = (λ i. it.log i && (not (some.0 i) || beats true (it.logged_is i) (logged o))) ∙ beaten (logged o) some.1 in
      ap (λ (k : Bool). cond k (logged new) (logged o)) first

  gone_second : Ends [] new → (has_log o ≡ true) × (is_nil (logged o) ≡ false) → logged_pair o new ≡ logged o
  gone_second it some =
      let first : on_first o new ≡ true = (λ i. some.0 i && (not (it.log i) || beats true (logged o) (it.logged_is i))) ∙ beats_nil true (logged o) in
      ap (λ (k : Bool). cond k (logged o) (logged new)) first

  stands_first : (whole : Bool) → Ends (cond whole [] (logged x)) new → (whole ≡ true → (has_log o ≡ true) × (is_nil (logged o) ≡ false))
      → logged_pair new o ≡ cond whole (logged o) (logged_pair x o)
  stands_first true it some = gone_first it (some refl)
  stands_first false it some = kept_first it

  stands_second : (whole : Bool) → Ends (cond whole [] (logged x)) new → (whole ≡ true → (has_log o ≡ true) × (is_nil (logged o) ≡ false))
      → logged_pair o new ≡ cond whole (logged o) (logged_pair o x)
  stands_second true it some = gone_second it (some refl)
  stands_second false it some = kept_second it

-- what is damaged of two is the one that isn't sound
beside_first : (new o : List ℕ) → is_damaged new ≡ false → (d : Damage) → damage_of new o ≡ Some d → d.on_first ≡ false
beside_first new o sound d is = by (is_headless o) (on_first new o) refl refl is
  where
    none : is_headless new ≡ false
    none = damaged_headed new sound

    by : (s t : Bool) → is_headless o ≡ s → on_first new o ≡ t → damage_of new o ≡ Some d → d.on_first ≡ false
    by true t p q is =
        let it : damage_of new o ≡ Some (at_first false) =
        (λ i. cond (none i || (p i || is_damaged (current_of new o)))
        (Some (cond (none i) (at_first true) (cond (p i) (at_first false) (behind_last (on_first new o) (current_of new o))))) None) in
        of_some (at_first false) (sym it ∙ is) refl
      where
        of_some : (e : Damage) → Some e ≡ Some d → e.on_first ≡ false → d.on_first ≡ false
        of_some e same is = let it : e ≡ d = cc same in ap (λ (x : Damage). x.on_first) (sym it) ∙ is
    by false true p q is =
        let it : damage_of new o ≡ None =
        (λ i. cond (none i || (p i || is_damaged (cond (q i) new o))) (Some (place_of new o)) None)
        ∙ ap (λ (k : Bool). cond k (Some (place_of new o)) None) sound in
        absurd (cc (sym it ∙ is))
    by false false p q is =
        of_place (is_damaged o) (sym (λ i. cond (none i || (p i || is_damaged (cond (q i) new o)))
        (Some (cond (none i) (at_first true) (cond (p i) (at_first false) (behind_last (q i) (cond (q i) new o))))) None) ∙ is)
      where
        of_place : (k : Bool) → cond k (Some (behind_last false o)) None ≡ Some d → d.on_first ≡ false
        of_place true same = let it : behind_last false o ≡ d = cc same in ap (λ (x : Damage). x.on_first) (sym it)
        of_place false same = absurd (cc same)

beside_second : (new o : List ℕ) → is_damaged new ≡ false → (d : Damage) → damage_of o new ≡ Some d → d.on_first ≡ true
beside_second new o sound d is = by (is_headless o) (on_first o new) refl refl is
  where
    none : is_headless new ≡ false
    none = damaged_headed new sound

    by : (s t : Bool) → is_headless o ≡ s → on_first o new ≡ t → damage_of o new ≡ Some d → d.on_first ≡ true
    by true t p q is =
        let it : damage_of o new ≡ Some (at_first true) =
        (λ i. cond (p i || (is_headless new || is_damaged (current_of o new)))
        (Some (cond (p i) (at_first true) (cond (is_headless new) (at_first false) (behind_last (on_first o new) (current_of o new))))) None) in
        let same : at_first true ≡ d = cc (sym it ∙ is) in
        ap (λ (x : Damage). x.on_first) (sym same)
    by false false p q is =
        let it : damage_of o new ≡ None =
        (λ i. cond (p i || (none i || is_damaged (cond (q i) o new))) (Some (place_of o new)) None)
        ∙ ap (λ (k : Bool). cond k (Some (place_of o new)) None) sound in
        absurd (cc (sym it ∙ is))
    by false true p q is =
        of_place (is_damaged o) (sym (λ i. cond (p i || (none i || is_damaged (cond (q i) o new)))
        (Some (cond (p i) (at_first true) (cond (none i) (at_first false) (behind_last (q i) (cond (q i) o new))))) None) ∙ is)
      where
        of_place : (k : Bool) → cond k (Some (behind_last true o)) None ≡ Some d → d.on_first ≡ true
        of_place true same = let it : behind_last true o ≡ d = cc same in ap (λ (x : Damage). x.on_first) (sym it)
        of_place false same = absurd (cc same)

-- ---- all of it

pub is_ended : (most : ℕ) (first second first' second' : List ℕ) (left : LeftOut) → pair_fault most first second ≡ Some fault.Damaged
    → HasEnded most first second first' second' (Some left) → IsEnded left first second first' second'
is_ended most first second first' second' left fault it = by left.damage.on_first refl
  where
    a : Contents
    a = it.1.0

    b : Contents
    b = it.1.1

    whole_is : left.is_whole ≡ cond left.damage.on_first (is_cut_in a && has_records b) (is_cut_in b && has_records a)
    whole_is = ap (λ (l : LeftOut). l.is_whole) it.1.4

    at : IsPlace first second left.damage
    at = place most first second left.damage fault it.0

    by : (t : Bool) → left.damage.on_first ≡ t → IsEnded left first second first' second'
    by true e =
        let log : has_log first ≡ true = sym (ap (λ (k : Bool). has_log (cond k first second)) e) ∙ at.0 in
        let place : left.damage.at ≡ length (text (format_in first) (logged first)) =
        at.1 ∙ ap (λ (k : Bool). length (text (format_in (cond k first second)) (logged (cond k first second)))) e in
        let written : first' ≡ put first (end_byte left) cleared = it.2 ∙ ap (λ (k : Bool). ended k (end_byte left) first) e in
        let same : second' ≡ second = it.3 ∙ ap (λ (k : Bool). ended (not k) (end_byte left) second) e in
        let ends : Ends (cond left.is_whole [] (logged first)) first' =
        subst (λ (f : List ℕ). Ends (cond left.is_whole [] (logged first)) f) (sym written)
        (ended_by (format_in first) (logged first) first (end_byte left) (read_rests most first a log (refused most first second fault).fits.0 it.1.2) left.is_whole left.damage.at refl place) in
        let some : left.is_whole ≡ true → (has_log second ≡ true) × (is_nil (logged second) ≡ false) =
        (λ whole. read_records most second b it.1.3
        (and_parts (is_cut_in a) (has_records b) (sym (whole_is ∙ ap (λ (k : Bool). cond k (is_cut_in a && has_records b) (is_cut_in b && has_records a)) e) ∙ whole)).1) in
        record {
          sound = ap (λ (k : Bool). is_damaged (cond k first' second')) e ∙ ends.sound;
          beside = λ d is. beside_first first' second ends.sound d (sym (ap (λ (f : List ℕ). damage_of first' f) same) ∙ is) ∙ sym (ap not e);
          stands = ap (λ (f : List ℕ). logged_pair first' f) same ∙ stands_first first second first' log left.is_whole ends some
              ∙ ap (λ (k : Bool). cond left.is_whole (logged (cond k second first)) (logged_pair first second)) (sym e);
        }
    by false e =
        let log : has_log second ≡ true = sym (ap (λ (k : Bool). has_log (cond k first second)) e) ∙ at.0 in
        let place : left.damage.at ≡ length (text (format_in second) (logged second)) =
        at.1 ∙ ap (λ (k : Bool). length (text (format_in (cond k first second)) (logged (cond k first second)))) e in
        let same : first' ≡ first = it.2 ∙ ap (λ (k : Bool). ended k (end_byte left) first) e in
        let written : second' ≡ put second (end_byte left) cleared = it.3 ∙ ap (λ (k : Bool). ended (not k) (end_byte left) second) e in
        let ends : Ends (cond left.is_whole [] (logged second)) second' =
        subst (λ (f : List ℕ). Ends (cond left.is_whole [] (logged second)) f) (sym written)
        (ended_by (format_in second) (logged second) second (end_byte left) (read_rests most second b log (refused most first second fault).fits.1 it.1.3) left.is_whole left.damage.at refl place) in
        let some : left.is_whole ≡ true → (has_log first ≡ true) × (is_nil (logged first) ≡ false) =
        (λ whole. read_records most first a it.1.2
        (and_parts (is_cut_in b) (has_records a) (sym (whole_is ∙ ap (λ (k : Bool). cond k (is_cut_in a && has_records b) (is_cut_in b && has_records a)) e) ∙ whole)).1) in
        record {
          sound = ap (λ (k : Bool). is_damaged (cond k first' second')) e ∙ ends.sound;
          beside = λ d is. beside_second second' first ends.sound d (sym (ap (λ (f : List ℕ). damage_of f second') same) ∙ is) ∙ sym (ap not e);
          stands = ap (λ (f : List ℕ). logged_pair f second') same ∙ stands_second second first second' log left.is_whole ends some
              ∙ ap (λ (k : Bool). cond left.is_whole (logged (cond k second first)) (logged_pair first second)) (sym e);
        }
