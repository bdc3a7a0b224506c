-- Where two files that were read are damaged.
use Rattle.std.proofs.Common.{◌≡◌, inl, inr, not, refl, ℕ, ◌+◌, Bool, true, false, ◌||◌, List, length, Option, Some, None, sym, ◌∙◌, ap, cond}
use Rattle.std.proofs.lemmas.List.{length-map}
use Rattle.std.proofs.lemmas.Bool.{cases_Bool, or_left, or_right}
use Rattle.std.specs.Prelude.{Vec, is_some, is_none}
use Rattle.std.specs.declared.alloc.Global.{Global}
use Rattle.xa_log.specs.Believed.Chain.{format_in, logged, text}
use Rattle.xa_log.specs.Believed.Damage.{is_damaged, is_headless}
use Rattle.xa_log.specs.Finding.{at_first, behind_last, damage_of, place_of}
use Rattle.xa_log.specs.Looking.{IsCurrent}
use Rattle.xa_log.specs.Believed.Pair.{on_first, current_of, is_broken, pair_fault}
use Rattle.xa_log.specs.declared.fault.OpenFault.TheVariants.{Damaged}
use Rattle.xa_log.specs.Reading.{IsScan, bodies_of}
use Rattle.xa_log.specs.declared.finding.Damage.{Damage}
use Rattle.xa_log.specs.declared.reading.Scan.{Scan}
use Rattle.xa_log.proofs.Choosing.{by_both, scan_damaged}
use Rattle.xa_log.proofs.Records.{format_text, rests_logged}
use Rattle.xa_log.proofs.Whole.{damaged_headed}

-- what stands after the records that were read stands after the file's
pub behind_read : (first : Bool) (file : List ℕ) (scan : Scan) (n : ℕ) (damage : Damage) → IsScan file scan → n ≡ length scan.bodies.items
    → damage ≡ record { on_first = first; number = n + 1; at = scan.end } → damage ≡ behind_last first file
behind_read first file scan n damage it is made =
    let bodies = bodies_of scan.bodies.items in
    let log : logged file ≡ bodies = rests_logged scan.format bodies file it.rests in
    let named : format_in file ≡ scan.format = ap format_in it.rests.split ∙ format_text scan.format bodies it.rests.rest in
    let count : n ≡ length (logged file) = is ∙ sym (length-map scan.bodies.items (λ (b : Vec ℕ Global). b.items)) ∙ ap (λ (l : List (List ℕ)). length l) (sym log) in
    let end : scan.end ≡ length (text (format_in file) (logged file)) = it.end ∙ (λ i. length (text (sym named i) (sym log i))) in
    made ∙ (λ i. record { on_first = first; number = count i + 1; at = end i })

pub none_is : {X : Type 0} (o : Option X) → not (is_some o) ≡ is_none o
none_is None = refl
none_is (Some x) = refl

-- a file that was read is damaged where its first record is lost, or what was read of it is cut
pub damaged_read : (file : List ℕ) (scan : Scan) (lost : Bool) → IsScan file scan → lost ≡ is_headless file → (lost || scan.broken) ≡ is_damaged file
damaged_read file scan true it is = elim (cases_Bool (is_damaged file)) [
  | inl damaged ↦ sym damaged
  | inr whole ↦ absurd (cc (is, damaged_headed file whole))
]
damaged_read file scan false it is = scan_damaged file scan it (sym is)

-- one of two that shows a first record that doesn't chain
pub first_lost : (a b : List ℕ) → is_headless a ≡ true → Some (at_first true) ≡ damage_of a b
first_lost a b is =
    sym (ap (λ (t : Bool). cond t (Some (place_of a b)) None) (or_left (is_headless a) _ is) ∙ ap (λ (t : Bool). Some (cond t (at_first true) (cond (is_headless b) (at_first false) (behind_last (on_first a b) (current_of a b))))) is)

pub second_lost : (a b : List ℕ) → is_headless a ≡ false → is_headless b ≡ true → Some (at_first false) ≡ damage_of a b
second_lost a b one is =
    sym (ap (λ (t : Bool). cond t (Some (place_of a b)) None) (or_right (is_headless a) _ (or_left (is_headless b) _ is))
    ∙ ap (λ (t : Bool). Some (cond t (at_first true) (cond (is_headless b) (at_first false) (behind_last (on_first a b) (current_of a b))))) one
    ∙ ap (λ (t : Bool). Some (cond t (at_first false) (behind_last (on_first a b) (current_of a b)))) is)

-- neither does
pub current_read : (a b : List ℕ) (first : Bool) (scan : Scan) (damage : Option Damage) → is_headless a ≡ false → is_headless b ≡ false → IsCurrent a b first scan
    → ((file : List ℕ) → IsScan file scan → is_headless file ≡ false → damage ≡ cond (is_damaged file) (Some (behind_last first file)) None) → damage ≡ damage_of a b
current_read a b first scan damage one two it is =
    let mine : is_headless (cond first a b) ≡ false = of_cond first a b one two in
    let broken : is_broken a b ≡ is_damaged (current_of a b) =
    ap (λ (k : Bool). k || (is_headless b || is_damaged (current_of a b))) one ∙ ap (λ (k : Bool). k || is_damaged (current_of a b)) two in
    let place : place_of a b ≡ behind_last (on_first a b) (current_of a b) =
    ap (λ (t : Bool). cond t (at_first true) (cond (is_headless b) (at_first false) (behind_last (on_first a b) (current_of a b)))) one
    ∙ ap (λ (t : Bool). cond t (at_first false) (behind_last (on_first a b) (current_of a b))) two in
    is (cond first a b) it.scan_is mine
    ∙ ap (λ (t : Bool). cond (is_damaged (cond t a b)) (Some (behind_last t (cond t a b))) None) it.choice
    ∙ sym (ap (λ (t : Bool). cond t (Some (place_of a b)) None) broken ∙ ap (λ (p : Damage). cond (is_damaged (current_of a b)) (Some p) None) place)
  where
    of_cond : (t : Bool) (x y : List ℕ) → is_headless x ≡ false → is_headless y ≡ false → is_headless (cond t x y) ≡ false
    of_cond true x y p q = p
    of_cond false x y p q = q

-- an opening is refused as damaged where there is such a place, and else it isn't
pub told_fault : (most : ℕ) (a b : List ℕ) (damage : Option Damage) → damage ≡ damage_of a b → pair_fault most a b ≡ by_both a b
    → pair_fault most a b ≡ cond (is_some damage) (Some Damaged) None
told_fault most a b damage is fault =
    fault ∙ ap (λ (t : Bool). cond t (Some Damaged) None) (sym (ap (λ (o : Option Damage). is_some o) is ∙ there (is_broken a b) (place_of a b)))
  where
    there : (t : Bool) (d : Damage) → is_some (cond t (Some d) None) ≡ t
    there true d = refl
    there false d = refl
