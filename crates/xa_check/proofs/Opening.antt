-- What an opening makes of two files that are told so.
use Rattle.std.proofs.Common.{◌≡◌, ◌⊎◌, ◌∙◌, ◌&&◌, ◌||◌, ◌==◌, not, nat_lt, Bool, true, false, cond, ℕ, List, [], ◌∷◌, length, take, Option, Some, None, refl, sym, suc, arith, ap, subst, inl, inr, true≢false}
use Rattle.std.proofs.lemmas.Bool.Decides.{nat_tests}
use Rattle.std.specs.Prelude.{is_none, is_some}
use Rattle.xa_check.specs.Fit.{fits, is_first, is_second, is_whole}
use Rattle.xa_check.specs.Opens.{CurrentLaw, WholeLaw}
use Rattle.xa_check.specs.Told.{break_of, fault_told, log_told, no_log_told, told_in}
use Rattle.xa_check.specs.declared.told.Told.{Told}
use Rattle.xa_check.specs.declared.told.Told.TheVariants.{Log, Nothing, Stray, Later, TooLong}
use Rattle.xa_log.specs.Believed.Chain.{format_in, format_of, logged, text}
use Rattle.xa_log.specs.Contents.{left_in}
use Rattle.xa_log.specs.Believed.Damage.{is_damaged, is_headless}
use Rattle.xa_log.specs.Believed.Generation.{generation}
use Rattle.xa_log.specs.Believed.Pair.{current_of, has_log, is_broken, is_nil, on_first, pair_fault}
use Rattle.xa_log.specs.Reading.{fault_unless, is_newer}
use Rattle.xa_log.specs.Believed.Standing.{is_remnant, standing}
use Rattle.xa_log.specs.Believed.Unfit.{generation_in, unfit_by, unfit_of}
use Rattle.xa_log.specs.declared.fault.OpenFault.{OpenFault}
use Rattle.xa_log.specs.declared.fault.OpenFault.TheVariants as fault
use Rattle.xa_log.specs.declared.format.Format.{Format}
use Rattle.xa_log.specs.declared.standing.Standing.{Standing}
use Rattle.xa_log.specs.declared.standing.Standing.TheVariants as standing_as
use Rattle.xa_log.specs.declared.unfit.Unfit.{Unfit}
use Rattle.xa_log.specs.declared.unfit.Unfit.TheVariants as unfit
use Rattle.xa_log.proofs.Choosing.{newer_not}
use Rattle.xa_log.proofs.First.{none_headless}
use Rattle.xa_log.proofs.Whole.{damaged_headed}

-- ---- what a file is, by what is told of it

-- a file that has no more bytes than a log may have, and is of no later format, is a log or none
pub record Known (most : ℕ) (file : List ℕ) (is_log : Bool) (kind : Standing) : Type 0 where
  pub short : nat_lt most (length file) ≡ false
  pub older : is_newer (take 8 file) ≡ false
  pub has : has_log file ≡ is_log
  pub stands : standing file ≡ kind

-- what is told of a log that a file is
abbrev its_log : List ℕ → Told
its_log file =
    Log (log_told (format_in file) (logged file) (length (text (format_in file) (logged file))) (is_damaged file) (left_in file))

by_kind : (most : ℕ) (file : List ℕ) (P : Told → Type 0)
    → (nat_lt most (length file) ≡ true → P TooLong) → (is_newer (take 8 file) ≡ true → P Later)
    → (Known most file true standing_as.Log → P (its_log file)) → (Known most file false standing_as.Nothing → P Nothing)
    → (Known most file false standing_as.Stray → P Stray) → P (told_in most file)
unfolding told_in
by_kind most file P long later log nothing stray =
    go (nat_lt most (length file)) refl (format_of (take 8 file)) refl (is_newer (take 8 file)) refl
  where
    none : (r : Bool) → is_remnant file ≡ r → nat_lt most (length file) ≡ false → format_of (take 8 file) ≡ None
        → is_newer (take 8 file) ≡ false → P (no_log_told (standing file))
    none true r short unnamed old =
        let is : standing file ≡ standing_as.Nothing =
        (λ i. cond (is_some (unnamed i)) standing_as.Log (cond (old i) standing_as.Later (cond (r i) standing_as.Nothing standing_as.Stray))) in
        subst (λ (s : Standing). P (no_log_told s)) (sym is) (nothing (record { short = short; older = old; has = ap is_some unnamed; stands = is }))
    none false r short unnamed old =
        let is : standing file ≡ standing_as.Stray =
        (λ i. cond (is_some (unnamed i)) standing_as.Log (cond (old i) standing_as.Later (cond (r i) standing_as.Nothing standing_as.Stray))) in
        subst (λ (s : Standing). P (no_log_told s)) (sym is) (stray (record { short = short; older = old; has = ap is_some unnamed; stands = is }))

    go : (a : Bool) → nat_lt most (length file) ≡ a → (o : Option Format) → format_of (take 8 file) ≡ o
        → (n : Bool) → is_newer (take 8 file) ≡ n
        → P (fault_told file (cond a (Some fault.TooLong) (fault_unless o (cond n fault.TooNew fault.NotALog))))
    go true a o p n q = long a
    go false a (Some format) p n q =
        log (record {
          short = a;
          older = newer_not (take 8 file) format p;
          has = ap is_some p;
          stands = (λ i. cond (is_some (p i)) standing_as.Log (cond (is_newer (take 8 file)) standing_as.Later (cond (is_remnant file) standing_as.Nothing standing_as.Stray)));
        })
    go false a None p true q = later q
    go false a None p false q = none (is_remnant file) refl a p q

-- ---- two files that an opening reads

abbrev IsRead : Option OpenFault → Type 0
IsRead o = (o ≡ None) ⊎ (o ≡ Some fault.Damaged)

record Readable (most : ℕ) (first second : List ℕ) : Type 0 where
  short : (nat_lt most (length first) || nat_lt most (length second)) ≡ false
  older : (is_newer (take 8 first) || is_newer (take 8 second)) ≡ false
  some : (has_log first || has_log second) ≡ true

readable : (most : ℕ) (first second : List ℕ) → IsRead (pair_fault most first second) → Readable most first second
readable most first second is =
    go (nat_lt most (length first) || nat_lt most (length second)) refl
    (is_newer (take 8 first) || is_newer (take 8 second)) refl (has_log first || has_log second) refl is
  where
    go : (a : Bool) → (nat_lt most (length first) || nat_lt most (length second)) ≡ a
        → (n : Bool) → (is_newer (take 8 first) || is_newer (take 8 second)) ≡ n
        → (l : Bool) → (has_log first || has_log second) ≡ l
        → IsRead (cond a (Some fault.TooLong) (cond n (Some fault.TooNew) (cond l (cond (is_broken first second) (Some fault.Damaged) None) (Some fault.NotALog))))
        → Readable most first second
    go true a n q l p (inl e) = absurd (cc e)
    go true a n q l p (inr e) = absurd (cc e)
    go false a true q l p (inl e) = absurd (cc e)
    go false a true q l p (inr e) = absurd (cc e)
    go false a false q false p (inl e) = absurd (cc e)
    go false a false q false p (inr e) = absurd (cc e)
    go false a false q true p is = record { short = a; older = q; some = p }

neither : (x y : Bool) → (x || y) ≡ false → (x ≡ false) × (y ≡ false)
neither false y e = (refl, e)
neither true y e = absurd (true≢false e)

either : (x y : Bool) → x ≡ false → y ≡ false → (x || y) ≡ true → ⊥
either x y false_one false_two some = true≢false (sym some ∙ (λ i. false_one i || false_two i))

some_length : (n : ℕ) → (suc n == 0) ≡ false
some_length n = grind (arith, nat_tests)

nil_is : (bodies : List (List ℕ)) → (length bodies == 0) ≡ is_nil bodies
nil_is [] = refl
nil_is (body ∷ bodies) = some_length (length bodies)

abbrev IsTold : List ℕ → List ℕ → Told → Told → Type 0
IsTold first second a b = (is_first a b ≡ on_first first second) × (is_second a b ≡ not (on_first first second))

-- what on_first is, by whether each file is a log
first_is : (first second : List ℕ) (l k : Bool) → has_log first ≡ l → has_log second ≡ k
    → on_first first second ≡ (l && (not k || (nat_lt (generation (logged second)) (generation (logged first))
    || ((generation (logged second) == generation (logged first)) && (is_nil (logged second) || not (is_nil (logged first)))))))
first_is first second l k p q =
    (λ i. p i && (not (q i) || (nat_lt (generation (logged second)) (generation (logged first))
    || ((generation (logged second) == generation (logged first)) && (is_nil (logged second) || not (is_nil (logged first)))))))

told_both : (first second : List ℕ) → has_log first ≡ true → has_log second ≡ true
    → IsTold first second (its_log first) (its_log second)
told_both first second p q =
    let is : is_first (its_log first) (its_log second) ≡ on_first first second =
    (λ i. nat_lt (generation (logged second)) (generation (logged first))
    || ((generation (logged second) == generation (logged first)) && (nil_is (logged second) i || not (nil_is (logged first) i))))
    ∙ sym (first_is first second true true p q) in
    (is, ap not is)

told_first : (first second : List ℕ) (b : Told) → (is_first (its_log first) b ≡ true) → (is_second (its_log first) b ≡ false)
    → has_log first ≡ true → has_log second ≡ false → IsTold first second (its_log first) b
told_first first second b is_mine isnt_other p q =
    let is : on_first first second ≡ true = first_is first second true false p q in
    (is_mine ∙ sym is, isnt_other ∙ ap not (sym is))

told_second : (first second : List ℕ) (a : Told) → is_first a (its_log second) ≡ false → is_second a (its_log second) ≡ true
    → has_log first ≡ false → has_log second ≡ true → IsTold first second a (its_log second)
told_second first second a isnt_other is_mine p q =
    let is : on_first first second ≡ false = first_is first second false true p q in
    (isnt_other ∙ sym is, is_mine ∙ ap not (sym is))

pub current_law : CurrentLaw
current_law most first second is =
    let r = readable most first second is in
    let short = neither _ _ r.short in
    let older = neither _ _ r.older in
    by_kind most first (λ a. IsTold first second a (told_in most second))
    (λ long. absurd (true≢false (sym long ∙ short.0)))
    (λ new. absurd (true≢false (sym new ∙ older.0)))
    (λ mine. by_kind most second (λ b. IsTold first second (its_log first) b)
    (λ long. absurd (true≢false (sym long ∙ short.1)))
    (λ new. absurd (true≢false (sym new ∙ older.1)))
    (λ other. told_both first second mine.has other.has)
    (λ other. told_first first second Nothing refl refl mine.has other.has)
    (λ other. told_first first second Stray refl refl mine.has other.has))
    (λ mine. by_kind most second (λ b. IsTold first second Nothing b)
    (λ long. absurd (true≢false (sym long ∙ short.1)))
    (λ new. absurd (true≢false (sym new ∙ older.1)))
    (λ other. told_second first second Nothing refl refl mine.has other.has)
    (λ other. absurd (either _ _ mine.has other.has r.some))
    (λ other. absurd (either _ _ mine.has other.has r.some)))
    (λ mine. by_kind most second (λ b. IsTold first second Stray b)
    (λ long. absurd (true≢false (sym long ∙ short.1)))
    (λ new. absurd (true≢false (sym new ∙ older.1)))
    (λ other. told_second first second Stray refl refl mine.has other.has)
    (λ other. absurd (either _ _ mine.has other.has r.some))
    (λ other. absurd (either _ _ mine.has other.has r.some)))

-- ---- two files of which it is told that a server opens them

no_and : (x : Bool) → (x && false) ≡ true → ⊥
no_and true e = true≢false (sym e)
no_and false e = true≢false (sym e)

both : (x y : Bool) → (x && y) ≡ true → (x ≡ true) × (y ≡ true)
both true y e = (refl, e)
both false y e = absurd (true≢false (sym e))

fits_is : (u : Unfit) → fits u ≡ true → u ≡ unfit.Neither
fits_is unfit.Neither e = refl
fits_is unfit.MissingFirst e = absurd (true≢false (sym e))
fits_is unfit.MissingSecond e = absurd (true≢false (sym e))
fits_is unfit.StrayFirst e = absurd (true≢false (sym e))
fits_is unfit.StraySecond e = absurd (true≢false (sym e))

undamaged : (damaged : Bool) (number at : ℕ) (left : List (List ℕ)) → is_none (break_of damaged number at left) ≡ true → damaged ≡ false
undamaged true number at left e = absurd (true≢false (sym e))
undamaged false number at left e = refl

abbrev IsOpened : ℕ → List ℕ → List ℕ → Type 0
IsOpened most first second = (unfit_of most first second ≡ unfit.Neither) × (pair_fault most first second ≡ None)

opened : (most : ℕ) (first second : List ℕ) (l k : Bool) (a b : Standing) → Known most first l a → Known most second k b
    → (l || k) ≡ true → unfit_by a b (generation_in first) ≡ unfit.Neither
    → is_broken first second ≡ false → IsOpened most first second
opened most first second l k a b mine other some fit whole = (
  (λ i. cond (mine.short i || other.short i) unfit.Neither (unfit_by (mine.stands i) (other.stands i) (generation_in first))) ∙ fit,
  (λ i. cond (mine.short i || other.short i) (Some fault.TooLong) (cond (mine.older i || other.older i) (Some fault.TooNew)
      (cond (mine.has i || other.has i) (cond (whole i) (Some fault.Damaged) None) (Some fault.NotALog))))
      ∙ (λ i. cond (some i) None (Some fault.NotALog)),
)

both_whole : (first second : List ℕ) (b : Bool) → is_damaged first ≡ false → is_damaged second ≡ false → is_damaged (cond b first second) ≡ false
both_whole first second true mine other = mine
both_whole first second false mine other = other

no_log_headed : (file : List ℕ) → has_log file ≡ false → is_headless file ≡ false
no_log_headed file none = go (format_of (take 8 file)) refl
  where
    go : (o : Option Format) → format_of (take 8 file) ≡ o → is_headless file ≡ false
    go None is = sym (none_headless file is)
    go (Some format) is = absurd (true≢false (sym (ap is_some is) ∙ none))

pub whole_law : WholeLaw
whole_law most first second =
    by_kind most first (λ a. is_whole a (told_in most second) ≡ true → IsOpened most first second)
    (λ long e. absurd (no_and _ e))
    (λ new e. absurd (no_and _ e))
    (λ mine. by_kind most second (λ b. is_whole (its_log first) b ≡ true → IsOpened most first second)
    (λ long e. absurd (no_and _ e))
    (λ new e. absurd (no_and _ e))
    (λ other e.
    let one = both _ _ e in
    let two = both _ _ one.1 in
    let whole = undamaged (is_damaged first) _ _ _ one.0 in
    let whole_second = undamaged (is_damaged second) _ _ _ two.0 in
    opened most first second true true standing_as.Log standing_as.Log mine other refl refl
    (λ i. damaged_headed first whole i || (damaged_headed second whole_second i || both_whole first second (on_first first second) whole whole_second i)))
    (λ other e.
    let one = both _ _ e in
    let whole = undamaged (is_damaged first) _ _ _ one.0 in
    let is : on_first first second ≡ true = first_is first second true false mine.has other.has in
    opened most first second true false standing_as.Log standing_as.Nothing mine other refl
    (ap (λ (b : Bool). cond (nat_lt 1 (cond b (generation (logged first)) 0)) unfit.MissingSecond unfit.Neither) mine.has ∙ fits_is _ one.1)
    (λ i. damaged_headed first whole i || (no_log_headed second other.has i || (ap (λ (b : Bool). is_damaged (cond b first second)) is ∙ whole) i)))
    (λ other e. absurd (no_and _ e)))
    (λ mine. by_kind most second (λ b. is_whole Nothing b ≡ true → IsOpened most first second)
    (λ long e. absurd (true≢false (sym e)))
    (λ new e. absurd (true≢false (sym e)))
    (λ other e. absurd (no_and _ e))
    (λ other e. absurd (true≢false (sym e)))
    (λ other e. absurd (true≢false (sym e))))
    (λ mine e. absurd (no_and _ e))
