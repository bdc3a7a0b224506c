-- Two files that were read or made.
use Rattle.std.proofs.Common.{◌≡◌, ◌⊎◌, inl, inr, ⊎_elim, ℕ, ◌≤◌, Bool, true, false, not, ◌&&◌, ◌||◌, List, [], ◌∷◌, length, take, refl, sym, ◌∙◌, ap, subst, arith, cond, nat_lt, nat_eq, Some, None}
use Rattle.std.proofs.lemmas.Bool.{cases_Bool, and_parts, and_from, or_left, or_right, or_cases, or_parts, cases_order, ltb-false, eq-eqb, and_cases}
use Rattle.std.proofs.lemmas.Bool.Decides.{nat_tests}
use Rattle.xa_disk.specs.Disk.{Only}
use Rattle.xa_disk.specs.declared.disk.Disk.{Ghosts}
use Rattle.xa_disk.specs.Images.{torn_same}
use Rattle.xa_log.specs.declared.fault.OpenFault.TheVariants.{NotALog, TooNew, TooLong, Damaged}
use Rattle.xa_log.specs.Believed.LogView.{LogView}
use Rattle.xa_log.specs.declared.reading.Scan.{Scan}
use Rattle.xa_log.specs.Believed.Chain.{start, last, text, Rests, logged}
use Rattle.xa_log.specs.Reading.{is_newer, bodies_of, IsScan}
use Rattle.xa_log.specs.Believed.Damage.{breaks_off, is_damaged, is_headless}
use Rattle.xa_log.specs.Believed.Pair.{generation, is_nil, beats, has_log, current_of, is_broken, logged_pair, pair_fault, Behind, IsCalm}
use Rattle.xa_log.specs.Believed.Checkpoint.{IsOther, IsQuiet}
use Rattle.xa_log.specs.Looking.{IsCurrent}
use Rattle.xa_log.specs.Believed.Stands.{Stands}
use Rattle.xa_log.specs.Believed.TwoFiles.{Pair, IsOpenPair, NoStray}
use Rattle.xa_log.specs.Believed.Laws.{OpenedLaw}
use Rattle.xa_log.proofs.Records.{rests_logged}
use Rattle.xa_log.proofs.Parts.{calm_log}
use Rattle.xa_log.proofs.Pair.{beats_nil}
use Rattle.xa_log.proofs.Whole.{damaged_of}

-- of two files without a fault
pub record Sound (most : ℕ) (a b : List ℕ) : Type 0 where
  pub first_fits : length a ≤ most
  pub second_fits : length b ≤ most
  pub first_known : is_newer (take 8 a) ≡ false
  pub second_known : is_newer (take 8 b) ≡ false
  pub first_headed : is_headless a ≡ false
  pub second_headed : is_headless b ≡ false
  pub whole : is_damaged (current_of a b) ≡ false

undamaged : (has d : Bool) → {e : Bool} → d ≡ e → cond has (cond d (Some Damaged) None) (Some NotALog) ≡ None → e ≡ false
undamaged true true is fault = absurd (cc fault)
undamaged true false is fault = sym is
undamaged false d is fault = absurd (cc fault)

pub sound : (most : ℕ) (a b : List ℕ) → pair_fault most a b ≡ None → Sound most a b
sound most a b none = by (nat_lt most (length a) || nat_lt most (length b)) refl (is_newer (take 8 a) || is_newer (take 8 b)) refl none
  where
    by : (s : Bool) → (nat_lt most (length a) || nat_lt most (length b)) ≡ s → (t : Bool) → (is_newer (take 8 a) || is_newer (take 8 b)) ≡ t → cond s (Some TooLong) (cond t (Some TooNew) (cond (has_log a || has_log b) (cond (is_broken a b) (Some Damaged) None) (Some NotALog))) ≡ None → Sound most a b
    by true p t q fault = absurd (cc fault)
    by false p true q fault = absurd (cc fault)
    by false p false q fault =
        let l = or_parts (nat_lt most (length a)) _ p in
        let k = or_parts (is_newer (take 8 a)) _ q in
        let h = or_parts (is_headless a) _ (undamaged (has_log a || has_log b) (is_broken a b) refl fault) in
        let w = or_parts (is_headless b) _ h.1 in
        record { first_fits = ltb-false most (length a) l.0; second_fits = ltb-false most (length b) l.1; first_known = k.0; second_known = k.1; first_headed = h.0; second_headed = w.0; whole = w.1 }

-- what isn't taken comes behind
beats_other : (x y : List (List ℕ)) → beats true x y ≡ false → beats false y x ≡ true
beats_other x y loses =
    let parts = or_parts (nat_lt (generation y) (generation x)) _ loses in
    elim (cases_order (generation x) (generation y)) [
      | inl same ↦ or_right (nat_lt (generation x) (generation y)) _ (tie x y same (⊎_elim (λ other. absurd (cc (other, eq-eqb (generation y) (generation x) (sym same)))) (λ z. z) (and_cases (nat_eq (generation y) (generation x)) _ parts.1)))
      | inr (inl lt) ↦ let b : nat_lt (generation x) (generation y) ≡ true = grind (arith, nat_tests) in or_left _ _ b
      | inr (inr gt) ↦ let b : nat_lt (generation y) (generation x) ≡ true = grind (arith, nat_tests) in absurd (cc (b, parts.0))
    ]
  where
    tie : (x y : List (List ℕ)) → generation x ≡ generation y → (is_nil y || (true && not (is_nil x))) ≡ false → (nat_eq (generation x) (generation y) && (is_nil x || (false && not (is_nil y)))) ≡ true
    tie [] y same neither = and_from _ _ (eq-eqb (generation []) (generation y) same) refl
    tie (b ∷ x) [] same neither = absurd (cc neither)
    tie (b ∷ x) (d ∷ y) same neither = absurd (cc neither)

-- ---- the other file, as it was read

-- a file that isn't a later format's is calm beside its own log
own_calm : (file : List ℕ) → is_newer (take 8 file) ≡ false → is_headless file ≡ false → IsCalm (logged file) file
own_calm file known headed = calm_log (logged file) file known headed refl

module _ {D : Type 0} (disks : Ghosts D) (most : ℕ) (disk : D) (only : Only (disks.seen disk) (disks.may_leave disk)) (fits : length (disks.seen disk) ≤ most) (known : is_newer (take 8 (disks.seen disk)) ≡ false) (headed : is_headless (disks.seen disk) ≡ false) where
  behind : Behind (logged (disks.seen disk)) (disks.seen disk)
  behind = inr (disks.seen disk, refl, torn_same 0 12 (disks.seen disk))

  calm : IsCalm (logged (disks.seen disk)) (disks.seen disk)
  calm = own_calm (disks.seen disk) known headed

  pub read_other : IsOther disks most (logged (disks.seen disk)) disk
  read_other = record {
    fits = fits;
    behind = behind;
    left_fits = λ c left. subst (λ f. length f ≤ most) (sym (only c left)) fits;
    left_behind = λ c left. subst (λ f. Behind (logged (disks.seen disk)) f) (sym (only c left)) behind;
  }

  pub read_quiet : IsQuiet disks (logged (disks.seen disk)) disk
  read_quiet = record { calm = calm; left_calm = λ c left. subst (λ f. IsCalm (logged (disks.seen disk)) f) (sym (only c left)) calm }

-- ---- both

pub scan_logged : (file : List ℕ) (scan : Scan) → IsScan file scan → logged file ≡ bodies_of scan.bodies.items
scan_logged file scan it = rests_logged scan.format (bodies_of scan.bodies.items) file it.rests

-- the log that was found is that of the two
pub current_logged : (a b : List ℕ) (first : Bool) (scan : Scan) → IsCurrent a b first scan → logged_pair a b ≡ bodies_of scan.bodies.items
current_logged a b first scan it = by first it
  where
    by : (t : Bool) → IsCurrent a b t scan → logged_pair a b ≡ bodies_of scan.bodies.items
    by true it = ap (λ (t : Bool). cond t (logged a) (logged b)) (sym it.choice) ∙ scan_logged a scan it.scan_is
    by false it = ap (λ (t : Bool). cond t (logged a) (logged b)) (sym it.choice) ∙ scan_logged b scan it.scan_is

module _ {D : Type 0} (disks : Ghosts D) (a b : List ℕ) (log : LogView D) (scan : Scan) (s : Sound log.log_bytes a b) (one : Only (disks.seen log.disk) (disks.may_leave log.disk)) (two : Only (disks.seen log.other) (disks.may_leave log.other))
    (format : log.format ≡ scan.format) (end : log.end ≡ scan.end) (digest : log.digest ≡ scan.digest) (number : log.generation ≡ generation (bodies_of scan.bodies.items)) (alive : log.lost ≡ false) where
  abbrev bodies : List (List ℕ)
  bodies = bodies_of scan.bodies.items

  stood : (file : List ℕ) → disks.seen log.disk ≡ file → length file ≤ log.log_bytes → IsScan file scan → is_damaged file ≡ false → Stands disks bodies log
  stood file is fits it whole = record {
    file = subst (λ f. Rests log.format bodies f) (sym is) (subst (λ k. Rests k bodies file) (sym format) it.rests);
    fits = subst (λ f. length f ≤ log.log_bytes) (sym is) fits;
    end = subst (λ k. log.end ≡ length (text k bodies)) (sym format) (end ∙ it.end);
    digest = subst (λ k. log.digest ≡ last (start k) bodies) (sym format) (digest ∙ it.digest);
    number = number;
    durable = one;
    alive = alive;
    whole = subst (λ f. breaks_off log.format bodies f ≡ false) (sym is)
        (subst (λ k. breaks_off k bodies file ≡ false) (sym format) (sym (damaged_of scan.format bodies file it.rests) ∙ whole));
  }

  opens_by : (mine other : List ℕ) → disks.seen log.disk ≡ mine → disks.seen log.other ≡ other → length mine ≤ log.log_bytes → length other ≤ log.log_bytes → is_newer (take 8 other) ≡ false → is_headless other ≡ false
      → IsScan mine scan → is_damaged mine ≡ false → (has_log other ≡ true → beats log.on_first (logged mine) (logged other) ≡ true) → IsOpenPair disks bodies (logged (disks.seen log.other)) log
  opens_by mine other is other_is fits other_fits known headed it whole wins =
      let short = subst (λ f. length f ≤ log.log_bytes) (sym other_is) other_fits in
      let plain = subst (λ f. is_newer (take 8 f) ≡ false) (sym other_is) known in
      let head = subst (λ f. is_headless f ≡ false) (sym other_is) headed in
      record {
        current = stood mine is fits it whole;
        other = read_other disks log.log_bytes log.other two short plain head;
        quiet = read_quiet disks log.log_bytes log.other two short plain head;
        durable = two;
        older = λ has.
            ap (λ (l : List (List ℕ)). beats log.on_first l (logged (disks.seen log.other))) (sym (scan_logged mine scan it))
            ∙ ap (λ (f : List ℕ). beats log.on_first (logged mine) (logged f)) other_is ∙ wins (subst (λ f. has_log f ≡ true) other_is has);
      }

  -- what was read stands on the two disks
  pub opens : (t : Bool) → log.on_first ≡ t → disks.seen (cond t log.disk log.other) ≡ a → disks.seen (cond t log.other log.disk) ≡ b → IsCurrent a b t scan → IsOpenPair disks bodies (logged (disks.seen log.other)) log
  opens true first x y it =
      opens_by a b x y s.first_fits s.second_fits s.second_known s.second_headed it.scan_is (ap (λ (t : Bool). is_damaged (cond t a b)) it.choice ∙ s.whole) (λ has.
      let more = (and_parts (has_log a) _ (sym it.choice)).1 in
      let wins : beats true (logged a) (logged b) ≡ true = ⊎_elim (λ absent. absurd (cc (absent, ap not has))) (λ z. z) (or_cases (not (has_log b)) _ more) in
      ap (λ (t : Bool). beats t (logged a) (logged b)) first ∙ wins)
  opens false first x y it =
      opens_by b a y x s.second_fits s.first_fits s.first_known s.first_headed it.scan_is (ap (λ (t : Bool). is_damaged (cond t a b)) it.choice ∙ s.whole) (λ has.
      let less : beats true (logged a) (logged b) ≡ false = ⊎_elim (λ absent. absurd (cc (absent, has))) (λ z. (or_parts (not (has_log b)) _ z).1) (and_cases (has_log a) _ (sym it.choice)) in
      ap (λ (t : Bool). beats t (logged b) (logged a)) first ∙ beats_other (logged a) (logged b) less)

-- what was read of two files is read of what a crash leaves of them
pub opened_leaves : (most : ℕ) (a b : List ℕ) (found : List (List ℕ)) (c d : List ℕ) → c ≡ a → d ≡ b → pair_fault most a b ≡ None → logged_pair a b ≡ found → (pair_fault most c d ≡ None) × (logged_pair c d ≡ found)
opened_leaves most a b found c d p q none is = ((λ i. pair_fault most (p i) (q i)) ∙ none, (λ i. logged_pair (p i) (q i)) ∙ is)

-- where the other file has no record it comes behind
pub made_pair : {D : Type 0} (disks : Ghosts D) (found stood : List (List ℕ)) (log : LogView D) → found ≡ [] → stood ≡ [] → IsOpenPair disks found stood log
    → Pair disks [] [] log × IsQuiet disks [] log.other
made_pair disks found stood log none nothing it =
    let now : IsOpenPair disks [] [] log = subst (λ s. IsOpenPair disks [] s log) nothing (subst (λ b. IsOpenPair disks b stood log) none it) in
    (record { current = now.current; other = now.other; calm_on = λ lucky. now.quiet.calm; older = beats_nil log.on_first [] }, now.quiet)

-- what was read is a pair, where no stray records come before it
pub opened_law : {D : Type 0} (disks : Ghosts D) → OpenedLaw disks
opened_law {D} disks bodies log it stray =
    record { current = it.current; other = it.other; calm_on = λ lucky. it.quiet.calm; older = by log.on_first refl stray (cases_Bool (has_log (disks.seen log.other))) }
  where
    has : logged (disks.seen log.disk) ≡ bodies
    has = rests_logged log.format bodies (disks.seen log.disk) it.current.file

    by : (t : Bool) → log.on_first ≡ t → NoStray (disks.seen (cond t log.disk log.other)) (disks.seen (cond t log.other log.disk))
        → (has_log (disks.seen log.other) ≡ true) ⊎ (has_log (disks.seen log.other) ≡ false) → beats log.on_first bodies (logged (disks.seen log.other)) ≡ true
    by t on none (inl begins) = it.older begins
    by true on none (inr other) = (λ i. beats (on i) (sym has i) (logged (disks.seen log.other))) ∙ none.1 other
    by false on none (inr other) = (λ i. beats (on i) (sym has i) (logged (disks.seen log.other))) ∙ none.0 other
