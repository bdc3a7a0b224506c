-- What is told of files, and how a check ends that failed.
use Rattle.std.proofs.Common.{◌≡◌, ◌≢◌, ◌⊎◌, ◌∙◌, Bool, ℕ, List, [], Option, Err, refl, sym, ap, subst, inl, inr}
use Rattle.xa_check.specs.Checks.{AddsText, Checks, PrintsText}
use Rattle.xa_check.specs.Lines.{check_text}
use Rattle.xa_check.specs.Told.{fault_told, log_told, no_log_told, told_in, told_of}
use Rattle.xa_check.specs.declared.fault.CheckFault.{CheckFault}
use Rattle.xa_check.specs.declared.fault.CheckFault.TheVariants as check
use Rattle.xa_check.specs.declared.told.Told.{Told}
use Rattle.xa_check.specs.declared.told.Told.TheVariants as told
use Rattle.xa_log.specs.Contents.{IsContents}
use Rattle.xa_log.specs.Believed.Standing.{standing}
use Rattle.xa_log.specs.declared.contents.Contents.{Contents}
use Rattle.xa_log.specs.declared.contents.Contents.TheVariants.{Log, Nothing, Stray, Later, TooLong}
use Rattle.xa_log.specs.declared.standing.Standing.{Standing}
use Rattle.xa_log.specs.declared.standing.Standing.TheVariants as standing_as
use Rattle.xa_output.proofs.Pieces.{nothing_appended}

told_stray : (s : Standing) → s ≢ standing_as.Nothing → no_log_told s ≡ told.Stray
told_stray standing_as.Nothing other = absurd (other refl)
told_stray standing_as.Log other = refl
told_stray standing_as.Later other = refl
told_stray standing_as.Stray other = refl

pub told_is : (most : ℕ) (file : List ℕ) (contents : Contents) → IsContents most file contents
    → told_of contents ≡ told_in most file
unfolding told_in
told_is most file (Log log) (none, is) =
    (λ i. told.Log (log_told (is.format i) (is.bodies i) (is.end i) (is.damaged i) (is.left i)))
    ∙ sym (ap (fault_told file) none)
told_is most file Nothing (fault, is) = sym (ap (fault_told file) fault ∙ ap no_log_told is)
told_is most file Stray (fault, other) = sym (ap (fault_told file) fault ∙ told_stray (standing file) other)
told_is most file Later fault = sym (ap (fault_told file) fault)
told_is most file TooLong fault = sym (ap (fault_told file) fault)

nothing_printed : (fault : CheckFault) → (fault ≡ check.Device) ⊎ (fault ≡ check.Memory) → (all : List ℕ)
    → PrintsText {X = Bool} (Err fault) all []
nothing_printed fault is all =
    elim is [
      | inl e ↦ subst (λ (f : CheckFault). PrintsText {X = Bool} (Err f) all []) (sym e) refl
      | inr e ↦ subst (λ (f : CheckFault). PrintsText {X = Bool} (Err f) all []) (sym e) refl
    ]

-- nothing is told
pub untold : (honest : Type 0) (fault : CheckFault) (path : List ℕ) (most : ℕ) (file other : List ℕ) (output : Option (List ℕ))
    → (fault ≡ check.Device) ⊎ (fault ≡ check.Memory) → Checks honest (Err fault) path most file other output output
untold honest fault path most file other output is = record {
  first = told_in most file;
  second = told_in most other;
  told = λ yes. refl;
  told_second = λ yes. refl;
  written = ([], nothing_appended output, nothing_printed fault is _);
  answer = tt;
}

retyped : (X Y : Type 0) (fault : CheckFault) (all text : List ℕ) → PrintsText {X = X} (Err fault) all text
    → PrintsText {X = Y} (Err fault) all text
retyped X Y check.Memory all text h = h
retyped X Y check.Write all text h = h
retyped X Y check.Device all text h = h

-- what is told wasn't written
pub unwritten : (honest : Type 0) (fault : CheckFault) (path : List ℕ) (most : ℕ) (file other : List ℕ)
    (output output' : Option (List ℕ)) (first second : Told) (all : List ℕ)
    → (honest → first ≡ told_in most file) → (honest → second ≡ told_in most other) → all ≡ check_text path first second
    → AddsText {X = Unit {0}} (Err fault) all output output' → Checks honest (Err fault) path most file other output output'
unwritten honest fault path most file other output output' first second all is is_second whole (text, added, printed) = record {
  first = first;
  second = second;
  told = is;
  told_second = is_second;
  written = (text, added, retyped (Unit {0}) Bool fault _ text (subst (λ (all : List ℕ). PrintsText {X = Unit {0}} (Err fault) all text) whole printed));
  answer = tt;
}
