-- The first record of a checkpoint, where it is shown but doesn't chain.
use Rattle.std.proofs.Common.{◌≡◌, ℕ, ◌+◌, ◌-◌, ◌≤◌, ◌<◌, min, Bool, true, false, not, ◌&&◌, List, length, take, drop, refl, sym, ◌∙◌, ap, arith, nat_le, nat_lt, Some, None, Option, length-drop}
use Rattle.std.specs.Prelude.{is_some, is_none}
use Rattle.std.proofs.lemmas.Bool.{and_left, and_right}
use Rattle.std.proofs.lemmas.Bool.Decides.{nat_tests}
use Rattle.std.proofs.lemmas.List.{drop-take, take-take, take_all, length-take}
use Rattle.xa_log.specs.Believed.Chain.{start, format_of, format_in, is_record, begins}
use Rattle.xa_log.specs.Believed.Damage.{lost_first, is_headless}
use Rattle.xa_log.specs.Believed.Generation.{number_in}
use Rattle.xa_log.specs.Reading.{Finds}
use Rattle.xa_log.specs.Window.{Caches}
use Rattle.xa_log.specs.declared.format.Format.{Format}
use Rattle.xa_log.specs.declared.found.Found.{Found}
use Rattle.xa_log.specs.declared.window.Span.{Span}
use Rattle.xa_log.proofs.Choosing.{own_format}

short_number : (body : List ℕ) → length body < 5 → number_in body ≡ 0
unfolding number_in
short_number body short =
    let a : nat_le 5 (length body) ≡ false = grind (arith, nat_tests, short) in
    rw a refl

-- fewer bytes than a length and a number have show none
pub short_first : (format : Format) (front : List ℕ) → length front < 9 → false ≡ lost_first format front
short_first format front short =
    let number : nat_lt 1 (number_in (take 5 (drop 4 front))) ≡ false =
    ap (λ (n : ℕ). nat_lt 1 n) (short_number (take 5 (drop 4 front)) (omega (arith, short, length-take 5 (drop 4 front), length-drop 4 front))) in
    sym (and_left _ _ (and_right _ _ (and_right _ _ number)))

-- nor does a file that is no log
pub none_headless : (file : List ℕ) → format_of (take 8 file) ≡ None → false ≡ is_headless file
unfolding is_headless
none_headless file none = sym (and_left (is_some (format_of (take 8 file))) _ (ap (λ (o : Option Format). is_some o) none))

-- the bytes after the name, as a window has them that begins with the file
pub front_read : (file window : List ℕ) (span : Span) (n : ℕ) → Caches file window span → span.from ≡ 0 → span.have ≡ min (length file) 1048576 → n ≡ min span.have 49 → 8 ≤ length file
    → take (n - 8) (drop 8 window) ≡ take 41 (drop 8 file)
front_read file window span n caches from have is long =
    let le : n ≤ span.have = omega (arith, is) in
    let whole : take n window ≡ take n file =
    sym (take-take n span.have window le) ∙ ap (λ (l : List ℕ). take n l) (caches ∙ ap (λ (k : ℕ). take span.have (drop k file)) from) ∙ take-take n span.have file le in
    let eight : 8 + (n - 8) ≡ n = omega (arith, is, have, long) in
    sym (drop-take 8 (n - 8) window) ∙ ap (λ (k : ℕ). drop 8 (take k window)) eight ∙ ap (λ (l : List ℕ). drop 8 l) whole ∙ ap (λ (k : ℕ). drop 8 (take k file)) (sym eight) ∙ drop-take 8 (n - 8) file
    ∙ as_many (drop 8 file) (n - 8) (omega (arith, is, have, length-drop 8 file))
  where
    as_many : (x : List ℕ) (k : ℕ) → k ≡ min (length x) 41 → take k x ≡ take 41 x
    as_many x k few =
        ap (λ (i : ℕ). take i x) few ∙ sym (take-take (min (length x) 41) 41 x (omega arith))
        ∙ take_all (min (length x) 41) (take 41 x) (omega (arith, length-take 41 x))

-- what is shown is lost where no record chains there
pub lost_is : (file window : List ℕ) (format : Format) (first : Option Found) (shown : Bool) → format_of (take 8 file) ≡ Some format → Finds format (start format) file 8 window first
    → shown ≡ lost_first format (take 41 (drop 8 file)) → (shown && is_none first) ≡ is_headless file
unfolding is_headless
lost_is file window format None shown log finds is =
    let own : format_in file ≡ format = own_format file format log in
    let none : begins file ≡ false = ap (λ (f : Format). is_record f (start f) (drop 8 file)) own ∙ finds in
    and_true shown ∙ is ∙ ap (λ (f : Format). lost_first f (take 41 (drop 8 file))) (sym own)
    ∙ sym (ap (λ (o : Option Format). is_some o && (not (begins file) && lost_first (format_in file) (take 41 (drop 8 file)))) log
    ∙ ap (λ (b : Bool). not b && lost_first (format_in file) (take 41 (drop 8 file))) none)
  where
    and_true : (b : Bool) → (b && true) ≡ b
    and_true true = refl
    and_true false = refl
lost_is file window format (Some found) shown log finds is =
    let own : format_in file ≡ format = own_format file format log in
    let there : begins file ≡ true = ap (λ (f : Format). is_record f (start f) (drop 8 file)) own ∙ finds.0 in
    and_right shown _ refl
    ∙ sym (and_right (is_some (format_of (take 8 file))) _ (ap (λ (b : Bool). not b && lost_first (format_in file) (take 41 (drop 8 file))) there))

pub flip : (x y : Bool) → x ≡ not y → y ≡ not x
flip x true is = sym (ap (λ (b : Bool). not b) is)
flip x false is = sym (ap (λ (b : Bool). not b) is)
