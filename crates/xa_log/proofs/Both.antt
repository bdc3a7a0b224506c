-- What two files' calls add up to, one behind the other.
use Rattle.std.proofs.Common.{◌≡◌, ◌≢◌, ◌⊎◌, inr, ⊎_elim, ℕ, true, List, Option, sym, ◌∙◌, subst, rules, Result, Ok, Err, IsErr, IfErr}
use Rattle.std.specs.Result.{IsErrAnd}
use Rattle.xa_disk.specs.Disk.{Only, Passes, Same}
use Rattle.xa_disk.specs.declared.counts.Counts.{Counts}
use Rattle.xa_log.specs.Answers.{CountsDeviceOf, CountsFailureOfOne}
use Rattle.xa_log.specs.Calls.{LooksAt, LooksSecondAt, OnlyReads, asked}
use Rattle.xa_log.specs.Looking.{AreShort, either_newer}
use Rattle.xa_log.specs.Reading.{Explains}
use Rattle.xa_log.specs.Believed.Pair.{pair_fault}
use Rattle.xa_log.specs.declared.fault.OpenFault.{OpenFault}
use Rattle.xa_log.specs.declared.fault.OpenFault.TheVariants.{TooNew, TooLong, Device, Memory}
use Rattle.xa_log.proofs.Choosing.{newer_fault}
use Rattle.xa_log.proofs.Looks.{read_at}

-- what a sync made durable stays so while nothing changes
pub only_then : {m n : ℕ} {past since : ℕ → List ℕ → Type 0} {old new : List ℕ → Type 0} (f g : List ℕ) → g ≡ f → Only f old → Passes Same m n past since old new → Only g new
only_then f g is only p c now = let it = p.follows c now in it.2 ∙ only it.0 it.1 ∙ sym is

-- a fault that is handed on
pub err_on : {T : Type 0} (Q : OpenFault → Type 0) (r : Result T OpenFault) (e : OpenFault) → IsErr r × IsErrAnd r (λ k. k ≡ e) → Q e → IfErr r Q
err_on Q (Ok x) e is q = tt
err_on Q (Err k) e is q = subst Q (sym is.1) q

-- failures that were counted behind calls that didn't fail
pub failures_behind : (e : OpenFault) (a b c x y z : ℕ) → (b ≡ a) × (y ≡ x) → CountsFailureOfOne e b c y z → CountsFailureOfOne e a c x z
failures_behind e a b c x y z is counts =
    subst (λ n. CountsFailureOfOne e n c x z) is.0 (subst (λ m. CountsFailureOfOne e b c m z) is.1 counts)

pub count_on : {D T : Type 0} (failures : D → ℕ) (r : Result T OpenFault) (e : OpenFault) (a b c x y z : D) → IsErr r × IsErrAnd r (λ k. k ≡ e) → (failures b ≡ failures a) × (failures y ≡ failures x)
    → CountsFailureOfOne e (failures b) (failures c) (failures y) (failures z) → CountsDeviceOf failures r a c x z
count_on failures (Ok v) e a b c x y z is none counts = absurd (search (is.0, rules))
count_on failures (Err k) e a b c x y z is none counts =
    subst (λ f. CountsFailureOfOne f (failures a) (failures c) (failures x) (failures z)) (sym is.1) (failures_behind e _ _ _ _ _ _ none counts)

-- why two files that aren't too long are refused by how they begin
pub explains_front : (most : ℕ) (a b : List ℕ) (m n : ℕ) (e : OpenFault) → AreShort most a b m n → (e ≡ Device) ⊎ (e ≡ TooNew) → (e ≡ TooNew → either_newer a b ≡ true) → Explains e (pair_fault most a b)
explains_front most a b m n e short kind newer =
    ⊎_elim (λ device. subst (λ k. Explains k (pair_fault most a b)) (sym device) tt) (λ new. subst (λ k. Explains k (pair_fault most a b)) (sym new) (newer_fault most a b m n short (newer new))) kind

pub silent : (e : OpenFault) (fault : Option OpenFault) → (e ≡ Device) ⊎ (e ≡ Memory) → Explains e fault
silent e fault kind = ⊎_elim (λ device. subst (λ k. Explains k fault) (sym device) tt) (λ memory. subst (λ k. Explains k fault) (sym memory) tt) kind

-- the calls behind the lengths, of which one failed
pub err_looks : {T : Type 0} (r : Result T OpenFault) (most : ℕ) (old new : Counts) → IfErr r (λ e. e ≢ TooLong) → OnlyReads most (asked old) new → IfErr r (λ e. LooksAt e most old new)
err_looks (Ok x) most old new short reads = tt
err_looks (Err e) most old new short reads = read_at e most old new short reads

pub err_looks_second : {T : Type 0} (r : Result T OpenFault) (most : ℕ) (old new : Counts) → IfErr r (λ e. e ≢ TooLong) → OnlyReads most (asked old) new → IfErr r (λ e. LooksSecondAt e most old new)
err_looks_second (Ok x) most old new short reads = tt
err_looks_second (Err e) most old new short reads = inr (read_at e most old new short reads)
