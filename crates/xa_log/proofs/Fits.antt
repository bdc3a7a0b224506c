-- What is known of two files that fit.
use Rattle.std.proofs.Common.{◌≡◌, ◌≢◌, inl, inr, ℕ, ◌≤◌, Bool, true, false, not, ◌&&◌, ◌||◌, ◌==◌, List, [], length, take, drop, refl, sym, ◌∙◌, ap, subst, arith, cond, nat_lt, Some, None, length-drop}
use Rattle.std.proofs.Math.Nat.{eq-zero-or-pos}
use Rattle.std.proofs.lemmas.Bool.{cases_Bool, or_left, or_parts}
use Rattle.std.proofs.lemmas.Bool.Decides.{nat_tests}
use Rattle.xa_log.specs.declared.fault.OpenFault.TheVariants.{NotALog, TooNew, TooLong, Damaged}
use Rattle.xa_log.specs.Believed.Chain.{preamble, start, format_in, is_record, logged}
use Rattle.xa_log.specs.Believed.Pair.{generation, is_nil, beats, has_log, is_broken, pair_fault}
use Rattle.xa_log.specs.Reading.{is_newer}
use Rattle.xa_log.specs.declared.format.Format.{Format}
use Rattle.xa_log.specs.Believed.Standing.{Interrupted, is_remnant, standing}
use Rattle.xa_log.specs.Believed.TwoFiles.{NoStray}
use Rattle.xa_log.specs.Believed.Unfit.{generation_in, unfit_by, unfit_of}
use Rattle.xa_log.specs.declared.standing.Standing.{Standing}
use Rattle.xa_log.specs.declared.standing.Standing.TheVariants.{Nothing, Log, Later, Stray}
use Rattle.xa_log.specs.declared.unfit.Unfit.TheVariants.{Neither}
use Rattle.xa_log.proofs.Header.{length-preamble}
use Rattle.xa_log.proofs.Interrupting.{part_of, part_short, interrupted_nothing, interrupted_log}
use Rattle.xa_log.proofs.Records.{record_to, bodies_closed}

-- ---- a file that is no log and no stray

not_later : (file : List ℕ) → is_newer (take 8 file) ≡ false → standing file ≢ Later
not_later file old is = by (has_log file) (is_newer (take 8 file)) (is_remnant file) old is
  where
    by : (log newer left : Bool) → newer ≡ false → cond log Log (cond newer Later (cond left Nothing Stray)) ≡ Later → ⊥
    by true newer left old is = cc is
    by false true left old is = cc old
    by false false true old is = cc is
    by false false false old is = cc is

left_over : (file : List ℕ) → is_newer (take 8 file) ≡ false → has_log file ≡ false → standing file ≢ Stray → is_remnant file ≡ true
left_over file old none known = by (has_log file) (is_newer (take 8 file)) (is_remnant file) none old known
  where
    by : (log newer left : Bool) → log ≡ false → newer ≡ false → cond log Log (cond newer Later (cond left Nothing Stray)) ≢ Stray → left ≡ true
    by true newer left none old known = absurd (cc none)
    by false true left none old known = absurd (cc old)
    by false false true none old known = refl
    by false false false none old known = absurd (known refl)

-- so short a file has no records
bare : (file : List ℕ) → length file ≤ 12 → logged file ≡ []
bare file short =
    let front = drop 8 file in
    let format = format_in file in
    elim (cases_Bool (is_record format (start format) front)) [
      | inl there ↦ absurd (omega (arith, (record_to format (start format) front there).whole, length-drop 8 file, short))
      | inr none ↦ bodies_closed format (length file) (start format) front none
    ]

none_of : (file : List ℕ) → is_newer (take 8 file) ≡ false → standing file ≢ Stray → has_log file ≡ false → logged file ≡ []
none_of file old known none =
    let part = part_of file (left_over file old none known) in
    bare file (omega (arith, part_short (preamble part.0) file part.1, length-preamble part.0))

beats_none : (first : Bool) (mine other : List (List ℕ)) → other ≡ [] → beats first mine other ≡ true
beats_none first mine other none = ap (λ (l : List (List ℕ)). beats first mine l) none ∙ by (generation mine) (first && not (is_nil mine))
  where
    by : (n : ℕ) (t : Bool) → (nat_lt 0 n || ((0 == n) && (true || t))) ≡ true
    by n t = elim (eq-zero-or-pos n) [
      | inl none ↦ rw none refl
      | inr some ↦ or_left (nat_lt 0 n) ((0 == n) && (true || t)) (grind (arith, nat_tests, some))
    ]

-- ---- two files

no_strays : (s t : Standing) (number : ℕ) → unfit_by s t number ≡ Neither → s ≢ Later → t ≢ Later → (s ≢ Stray) × (t ≢ Stray)
no_strays Later t number is first second = absurd (first refl)
no_strays Nothing Later number is first second = absurd (second refl)
no_strays Log Later number is first second = absurd (second refl)
no_strays Stray Later number is first second = absurd (second refl)
no_strays Stray Nothing number is first second = absurd (cc is)
no_strays Stray Log number is first second = absurd (cc is)
no_strays Stray Stray number is first second = absurd (cc is)
no_strays Nothing Stray number is first second = absurd (cc is)
no_strays Log Stray number is first second = absurd (cc is)
no_strays Nothing Nothing number is first second = (λ e. cc e, λ e. cc e)
no_strays Nothing Log number is first second = (λ e. cc e, λ e. cc e)
no_strays Log Nothing number is first second = (λ e. cc e, λ e. cc e)
no_strays Log Log number is first second = (λ e. cc e, λ e. cc e)

-- two that an opening doesn't refuse, and what stands in them
record Fit (most : ℕ) (first second : List ℕ) : Type 0 where
  short : (nat_lt most (length first) || nat_lt most (length second)) ≡ false
  first_old : is_newer (take 8 first) ≡ false
  second_old : is_newer (take 8 second) ≡ false
  by_standing : unfit_by (standing first) (standing second) (generation_in first) ≡ Neither

fit_of : (most : ℕ) (first second : List ℕ) → unfit_of most first second ≡ Neither → pair_fault most first second ≡ None → Fit most first second
fit_of most first second fit opens =
    by (nat_lt most (length first) || nat_lt most (length second)) refl (is_newer (take 8 first) || is_newer (take 8 second)) refl fit opens
  where
    by : (long : Bool) → (nat_lt most (length first) || nat_lt most (length second)) ≡ long
        → (newer : Bool) → (is_newer (take 8 first) || is_newer (take 8 second)) ≡ newer
        → cond long Neither (unfit_by (standing first) (standing second) (generation_in first)) ≡ Neither
        → cond long (Some TooLong) (cond newer (Some TooNew) (cond (has_log first || has_log second) (cond (is_broken first second) (Some Damaged) None) (Some NotALog))) ≡ None
        → Fit most first second
    by true p newer q fit opens = absurd (cc opens)
    by false p true q fit opens = absurd (cc opens)
    by false p false q fit opens =
        let old = or_parts (is_newer (take 8 first)) (is_newer (take 8 second)) q in
        record { short = p; first_old = old.0; second_old = old.1; by_standing = fit }

pub fit_law : (most : ℕ) (first second : List ℕ) → unfit_of most first second ≡ Neither → pair_fault most first second ≡ None → NoStray first second
fit_law most first second fit opens =
    let it = fit_of most first second fit opens in
    let known = no_strays (standing first) (standing second) (generation_in first) it.by_standing (not_later first it.first_old) (not_later second it.second_old) in (
      λ none. beats_none false (logged second) (logged first) (none_of first it.first_old known.0 none),
      λ none. beats_none true (logged first) (logged second) (none_of second it.second_old known.1 none),
    )

-- ---- after an interrupted write

neither : (most : ℕ) (first second : List ℕ) → unfit_by (standing first) (standing second) (generation_in first) ≡ Neither → unfit_of most first second ≡ Neither
neither most first second fit = by (nat_lt most (length first) || nat_lt most (length second))
  where
    by : (long : Bool) → cond long Neither (unfit_by (standing first) (standing second) (generation_in first)) ≡ Neither
    by true = refl
    by false = fit

is_log : (file : List ℕ) → has_log file ≡ true → standing file ≡ Log
is_log file log = rw log refl

pub stays_second : (most : ℕ) (format : Format) (first second new : List ℕ)
    → unfit_of most first second ≡ Neither → pair_fault most first second ≡ None → has_log first ≡ true
    → Interrupted format second new → unfit_of most first new ≡ Neither
stays_second most format first second new fit opens log torn =
    let it = fit_of most first second fit opens in
    let number = generation_in first in
    let named : standing first ≡ Log = is_log first log in
    neither most first new
    (subst (λ (s : Standing). unfit_by s (standing new) number ≡ Neither) (sym named)
    (by (standing second) refl (subst (λ (s : Standing). unfit_by s (standing second) number ≡ Neither) named it.by_standing) (not_later second it.second_old)))
  where
    by : (s : Standing) → standing second ≡ s → unfit_by Log s (generation_in first) ≡ Neither → s ≢ Later → unfit_by Log (standing new) (generation_in first) ≡ Neither
    by Later is fit old = absurd (old refl)
    by Stray is fit old = absurd (cc fit)
    by Log is fit old = subst (λ (s : Standing). unfit_by Log s (generation_in first) ≡ Neither) (sym (interrupted_log format second new torn is)) refl
    by Nothing is fit old = elim (interrupted_nothing format second new torn is) [
      | inl nothing ↦ subst (λ (s : Standing). unfit_by Log s (generation_in first) ≡ Neither) (sym nothing) fit
      | inr log ↦ subst (λ (s : Standing). unfit_by Log s (generation_in first) ≡ Neither) (sym log) refl
    ]

pub stays_first : (most : ℕ) (format : Format) (first second new : List ℕ)
    → unfit_of most first second ≡ Neither → pair_fault most first second ≡ None → has_log second ≡ true
    → Interrupted format first new → unfit_of most new second ≡ Neither
stays_first most format first second new fit opens log torn =
    let it = fit_of most first second fit opens in
    let named : standing second ≡ Log = is_log second log in
    neither most new second
    (subst (λ (s : Standing). unfit_by (standing new) s (generation_in new) ≡ Neither) (sym named)
    (by (standing first) refl (subst (λ (s : Standing). unfit_by (standing first) s (generation_in first) ≡ Neither) named it.by_standing) (not_later first it.first_old)))
  where
    by : (s : Standing) → standing first ≡ s → unfit_by s Log (generation_in first) ≡ Neither → s ≢ Later → unfit_by (standing new) Log (generation_in new) ≡ Neither
    by Later is fit old = absurd (old refl)
    by Stray is fit old = absurd (cc fit)
    by Nothing is fit old = absurd (cc fit)
    by Log is fit old = subst (λ (s : Standing). unfit_by s Log (generation_in new) ≡ Neither) (sym (interrupted_log format first new torn is)) refl
