-- The calls of a look at two files.
use Rattle.std.proofs.Common.{◌≡◌, ◌≢◌, ◌⊎◌, inl, inr, ⊎_elim, ℕ, ◌≤◌, List, Option, Bool, true, false, MatchBool, refl, sym, ◌∙◌, ap, subst, rules, Result, Ok, Err, IsErr, IfErr, MatchResult}
use Rattle.std.specs.Result.{IsErrAnd}
use Rattle.xa_disk.specs.Counts.{with_sync}
use Rattle.xa_disk.specs.declared.counts.Counts.{Counts}
use Rattle.xa_log.specs.Calls.{with_reads, ReadsLittle, LooksBriefly, MOST_BRIEF, brief, Fetched, FetchedWithin, OnlyReads, Looks, LooksAt, LooksSecond, LooksSecondAt, asked}
use Rattle.xa_log.specs.declared.fault.OpenFault.{OpenFault}
use Rattle.xa_log.specs.declared.fault.OpenFault.TheVariants.{NotALog, TooNew, TooLong, Damaged, Device, Memory}
use Rattle.xa_disk.specs.declared.disk.Disk.{Ghosts}
use Rattle.xa_log.specs.declared.heads.Head.{Head}
use Rattle.xa_log.specs.Looking.{FetchedHead}
use Rattle.xa_log.proofs.Fetch.{reads_none, head_within}

-- a fault that is handed on
pub handed_on : {T : Type 0} (P : T → Type 0) (Q : OpenFault → Type 0) (r : Result T OpenFault) (e : OpenFault) → IsErr r × IsErrAnd r (λ k. k ≡ e) → Q e → MatchResult r P Q
handed_on P Q (Ok x) e is q = absurd (search (is.0, rules))
handed_on P Q (Err k) e is q = subst Q (sym is.1) q

-- a device call that failed
pub on_device : {T : Type 0} (P : T → Type 0) (Q : OpenFault → Type 0) (r : Result T OpenFault) → IsErr r × IsErrAnd r (λ e. e ≡ Device) → Q Device → MatchResult r P Q
on_device P Q (Ok x) is q = absurd (search (is.0, rules))
on_device P Q (Err e) is q = subst Q (sym is.1) q

pub device_asked : (most : ℕ) (old new : Counts) → new ≡ asked old → LooksAt Device most old new
device_asked most old new is = inr (reads_none most (asked old) new is)

pub device_second : (most : ℕ) (old new : Counts) → (new ≡ with_sync old) ⊎ (new ≡ asked old) → LooksSecondAt Device most old new
device_second most old new calls = inr (⊎_elim (λ sync. inl sync) (λ length. device_asked most old new length) calls)

-- whatever comes after the lengths only reads
pub read_at : (e : OpenFault) (most : ℕ) (old new : Counts) → e ≢ TooLong → OnlyReads most (asked old) new → LooksAt e most old new
read_at Device most old new short reads = inr reads
read_at Memory most old new short reads = inr reads
read_at NotALog most old new short reads = reads
read_at TooNew most old new short reads = reads
read_at TooLong most old new short reads = absurd (short refl)
read_at Damaged most old new short reads = reads

pub looks_by : {T : Type 0} (r : Result T OpenFault) (most : ℕ) (old new : Counts) → IfErr r (λ e. e ≢ TooLong) → OnlyReads most (asked old) new → Looks r most old new
looks_by (Ok x) most old new short reads = reads
looks_by (Err e) most old new short reads = read_at e most old new short reads

pub looks_second : {T : Type 0} (r : Result T OpenFault) (most : ℕ) (old new : Counts) → IfErr r (λ e. e ≢ TooLong) → OnlyReads most (asked old) new → LooksSecond r most old new
looks_second (Ok x) most old new short reads = reads
looks_second (Err e) most old new short reads = inr (read_at e most old new short reads)

pub fronts_short : {T : Type 0} (r : Result T OpenFault) (e : OpenFault) → IsErrAnd r (λ k. k ≡ e) → (e ≡ Device) ⊎ (e ≡ TooNew) → IfErr r (λ k. k ≢ TooLong)
fronts_short (Ok x) e is kind = tt
fronts_short (Err k) e is kind = λ long. ⊎_elim (λ device. absurd (cc (is, device, long))) (λ newer. absurd (cc (is, newer, long))) kind

pub heads_short : {T : Type 0} (r : Result T OpenFault) (e : OpenFault) → IsErrAnd r (λ k. k ≡ e) → (e ≡ Device) ⊎ (e ≡ Memory) → IfErr r (λ k. k ≢ TooLong)
heads_short (Ok x) e is kind = tt
heads_short (Err k) e is kind = λ long. ⊎_elim (λ device. absurd (cc (is, device, long))) (λ memory. absurd (cc (is, memory, long))) kind

pub current_kinds : {T : Type 0} (r : Result T OpenFault) (e : OpenFault) → IsErrAnd r (λ k. k ≡ e) → (e ≡ Device) ⊎ (e ≡ Memory) ⊎ (e ≡ NotALog) → IfErr r (λ k. (k ≡ Device) ⊎ (k ≡ Memory) ⊎ (k ≡ NotALog))
current_kinds (Ok x) e is kind = tt
current_kinds (Err k) e is kind = subst (λ z. (z ≡ Device) ⊎ (z ≡ Memory) ⊎ (z ≡ NotALog)) (sym is) kind

pub current_short : {T : Type 0} (r : Result T OpenFault) → IfErr r (λ e. (e ≡ Device) ⊎ (e ≡ Memory) ⊎ (e ≡ NotALog)) → IfErr r (λ e. e ≢ TooLong)
current_short (Ok x) kind = tt
current_short (Err e) kind = λ long. ⊎_elim (λ device. absurd (cc (device, long))) (λ more. ⊎_elim (λ memory. absurd (cc (memory, long))) (λ none. absurd (cc (none, long))) more) kind

-- at most what a window holds
pub reads_window : (len upto most : ℕ) (first first' now : Counts) → upto ≤ most → first ≡ first' → Fetched len upto first now → OnlyReads most first' now
reads_window len upto most first first' now le is f = record {
  reads = f.reads;
  bytes = upto;
  counts = f.counts ∙ ap (with_reads f.reads upto) is;
  once = le;
  pieces = f.pieces;
  few = f.few;
}

-- no more than was read of its first record
pub reads_within : (len most : ℕ) (first first' now : Counts) → first ≡ first' → FetchedWithin len most first now → OnlyReads most first' now
reads_within len most first first' now is f = reads_window len f.upto most first first' now f.bounded is f.fetched

pub briefly : {D : Type 0} (disks : Ghosts D) (x a : D) (len : ℕ) (first : Counts) (seen : List ℕ) (o : Option Head) → first ≡ asked (disks.counts x)
    → FetchedHead len MOST_BRIEF first (disks.counts a) o → (disks.honest → FetchedHead len (brief seen) first (disks.counts a) o) → (disks.honest → seen ≡ disks.seen x) → LooksBriefly disks x a
briefly disks x a len first seen o is most as_is same = record {
  brief_at_all = reads_within len MOST_BRIEF first _ _ is (head_within len MOST_BRIEF first _ o most);
  brief_as_is = λ h. subst (λ s. OnlyReads (brief s) (asked (disks.counts x)) (disks.counts a)) (same h) (reads_within len (brief seen) first _ _ is (head_within len (brief seen) first _ o (as_is h)));
}

-- where one of two was read on and the other wasn't
pub little_by : {D : Type 0} (disks : Ghosts D) (t : Bool) (x y a b c d : D) → MatchBool t (b ≡ d) (a ≡ c) → LooksBriefly disks x c → LooksBriefly disks y d → ReadsLittle disks t x a y b
little_by disks true x y a b c d is one two = subst (λ z. LooksBriefly disks y z) (sym is) two
little_by disks false x y a b c d is one two = subst (λ z. LooksBriefly disks x z) (sym is) one
