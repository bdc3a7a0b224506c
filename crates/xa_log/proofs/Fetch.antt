-- Reads of a file from its front, piece by piece.
use Rattle.std.proofs.Common.{◌≡◌, ◌⊎◌, inl, inr, ⊎_elim, ℕ, zero, suc, ◌+◌, ◌-◌, ◌*◌, ◌^◌, ◌≤◌, ◌<◌, min, Bool, true, false, if◌then◌else◌, List, ◌++◌, length, take, drop, refl, sym, ◌∙◌, ap, subst, arith, append_assoc, length-append, length-take-le, length-drop, rules, Option, None, Some, Result, Ok, Err, IsErr, IfOk, MatchResult}
use Rattle.std.proofs.lemmas.List.{take_at, drop-drop}
use Rattle.std.specs.Result.{IfErr, IsErrAnd}
use Rattle.xa_disk.specs.Counts.{plus, with_read, with_sync}
use Rattle.xa_disk.specs.declared.counts.Counts.{Counts}
use Rattle.xa_log.specs.Calls.{with_reads, Fetched, FetchedSome, FetchedWithin, FetchedUpto, FetchedNext, Reaches, ReachesTo, OnlyReads, Looks, LooksAt, asked}
use Rattle.xa_log.specs.declared.fault.OpenFault.{OpenFault}
use Rattle.xa_log.specs.declared.fault.OpenFault.TheVariants.{Device, Memory, NotALog, TooNew, TooLong, Damaged}
use Rattle.xa_log.specs.declared.format.Format.{Format}
use Rattle.xa_log.specs.declared.found.Found.{Found}
use Rattle.xa_log.specs.declared.heads.Head.{Head}
use Rattle.xa_log.specs.Looking.{FetchedHead}
use Rattle.xa_log.specs.declared.window.Span.{Span}
use Rattle.xa_log.specs.Window.{Ahead}
use Rattle.std.proofs.lemmas.Bool.{cases_lt}
use Rattle.xa_log.specs.Reading.{fault_unless, front_fault, is_newer}
use Rattle.xa_log.specs.Believed.Chain.{format_of}
use Rattle.xa_log.proofs.Front.{take_both}

plus_more : (x r k m : ℕ) → min (min (x + r) m + k) m ≡ min (x + (r + k)) m
plus_more x r k m = omega arith

reads_more : (r u n : ℕ) (c : Counts) → u ≤ r * 1048576 → with_read n (with_reads r u c) ≡ with_reads (suc r) (u + n) c
reads_more zero u n c le = let same : n ≡ u + n = omega (arith, le) in ap (λ (k : ℕ). with_read k c) same
reads_more (suc r) u n c le =
    let one : suc r + 1 ≡ suc (suc r) = omega arith in
    λ i. record c { reads = (plus_more c.reads (suc r) 1 (2 ^ 64 - 1) ∙ ap (λ (k : ℕ). plus c.reads k) one) i; read_bytes = plus_more c.read_bytes u n (2 ^ 64 - 1) i }

-- one piece more, as large as the window has room for
pub fetch_more : (len upto n upto' : ℕ) (first now new : Counts) → Fetched len upto first now → upto < len → upto' ≡ upto + n → upto' ≤ len → n ≤ 1048576 → (upto' < len → 524252 ≤ n) → new ≡ with_read n now
    → Fetched len upto' first new
fetch_more len upto n upto' first now new f short next within most large is = record {
  reads = suc f.reads;
  counts = is ∙ ap (with_read n) f.counts ∙ reads_more f.reads upto n first f.pieces ∙ ap (λ (u : ℕ). with_reads (suc f.reads) u first) (sym next);
  within = within;
  pieces = omega (arith, f.pieces, most, next);
  few = omega (arith, f.full short, next);
  full = λ more. omega (arith, f.full short, large more, next);
}

-- the piece after what a window has, up to the file's end or the window's
pub piece : (len from have at count kept last n upto' : ℕ) (first now new : Counts) → Fetched len (from + have) first now → from ≤ at → at ≤ from + have → from + have ≤ len → at + count ≤ len → count ≤ 524324 → from + have < at + count
    → kept ≡ have - (at - from) → last ≡ min (len - at) 1048576 → n ≡ last - kept → upto' ≡ at + last → new ≡ with_read n now → Fetched len upto' first new
piece len from have at count kept last n upto' first now new f begins reaches inside within fits missing k l is upto is_new =
    fetch_more len (from + have) n upto' first now new f (omega (arith, missing, within)) (omega (arith, k, l, is, upto, begins, reaches, inside, missing, within)) (omega (arith, l, upto, within, missing, reaches)) (omega (arith, l, is))
    (λ more. omega (arith, more, l, is, k, upto, begins, reaches, missing, fits)) is_new

pub length-piece : (window : List ℕ) (kept last : ℕ) → length window ≡ 1048576 → last ≤ 1048576 → kept ≤ last → length (take (last - kept) (drop kept window)) ≡ last - kept
length-piece window kept last room le fits = length-take-le (last - kept) (drop kept window) (omega (arith, length-drop kept window, room, le, fits))

-- no byte was read yet
pub fetched_none : (len : ℕ) (c : Counts) → Fetched len 0 c c
fetched_none len c = record { reads = 0; counts = refl; within = omega arith; pieces = omega arith; few = omega arith; full = λ more. omega arith }

-- what holds of each fault
pub on_fault : {T E : Type 0} (P : T → Type 0) (Q : Type 0) (r : Result T E) → IsErr r → Q → MatchResult r P (λ _. Q)
on_fault P Q (Ok x) is q = absurd (search (is, rules))
on_fault P Q (Err e) is q = q

-- what was kept at the front, and what was read after it, is one piece of the file
pub joined : (file window into rest : List ℕ) (at kept have : ℕ) → kept ≤ have → kept ≤ length window → take kept window ≡ take kept (drop at file) → length into ≡ have - kept → into ≡ take (length into) (drop (at + kept) file)
    → take have (take kept window ++ (into ++ rest)) ≡ take have (drop at file)
joined file window into rest at kept have le room same long is =
    let x = drop at file in
    let whole : length (take kept window ++ into) ≡ have = omega (arith, length-append (take kept window) into, length-take-le kept window room, long, le) in
    let n : kept + (have - kept) ≡ have = omega (arith, le) in
    let behind : into ≡ take (have - kept) (drop kept x) = is ∙ (λ i. take (long i) (sym (drop-drop kept at file) i)) in
    ap (λ (l : List ℕ). take have l) (sym (append_assoc (take kept window) into rest))
    ∙ take_at (take kept window ++ into) rest have whole
    ∙ (λ i. same i ++ behind i)
    ∙ take_both kept (have - kept) x
    ∙ ap (λ (k : ℕ). take k x) n

pub fault_some : {T E : Type 0} (P : T → Type 0) (len most : ℕ) (start now : Counts) (r : Result T E)
    → MatchResult r P (λ _. FetchedWithin len most start now) → MatchResult r P (λ _. FetchedSome len start now)
fault_some P len most start now (Ok x) f = f
fault_some P len most start now (Err e) f = record { upto = f.upto; fetched = f.fetched }

-- ---- within a bound

pub within_more : (len a b : ℕ) (start now : Counts) → a ≤ b → FetchedWithin len a start now → FetchedWithin len b start now
within_more len a b start now le f = record { upto = f.upto; fetched = f.fetched; bounded = omega (arith, f.bounded, le) }

-- pieces that were read straight into a body end before the record does
pub ahead_reaches : (size : ℕ) (old : Span) (at have len done most : ℕ) (new : Span) → Ahead size old at have len done new → ReachesTo (at + size + 32) (old.from + old.have) most
    → ReachesTo (at + size + 32) (new.from + new.have) most
ahead_reaches size old at have len done most new a r = by a.bounded
  where
    by : (new ≡ old) ⊎ ((old.from + old.have < at + size) × (new.from + new.have ≤ at + size)) → ReachesTo (at + size + 32) (new.from + new.have) most
    by (inl same) = subst (λ z. ReachesTo (at + size + 32) (z.from + z.have) most) (sym same) r
    by (inr read) = let far : at + size + 32 + 1048576 ≤ most = r.1 (omega (arith, read.0)) in (omega (arith, read.1, far), λ short. far)

-- the last read of a record, by way of a window
pub rest_within : {E : Type 0} (r : Result Span E) (old : Span) (len end most : ℕ) (start now : Counts)
    → MatchResult r (λ s. Fetched len (s.from + s.have) start now) (λ _. FetchedWithin len (end + 1048576) start now)
    → IfOk r (λ s. (s ≡ old) ⊎ (s.from + s.have ≤ end + 1048576)) → (end + 32 ≤ old.from + old.have → r ≡ Ok old) → ReachesTo (end + 32) (old.from + old.have) most
    → MatchResult r (λ s. FetchedUpto len most start now s) (λ _. FetchedWithin len most start now)
rest_within (Ok s) old len end most start now f bounded covered reaches = (f, by (cases_lt (old.from + old.have) (end + 32)) bounded)
  where
    by : (old.from + old.have < end + 32) ⊎ (end + 32 ≤ old.from + old.have) → (s ≡ old) ⊎ (s.from + s.have ≤ end + 1048576) → s.from + s.have ≤ most
    by k (inl same) = subst (λ z. z.from + z.have ≤ most) (sym same) reaches.0
    by (inl short) (inr le) = omega (arith, le, reaches.1 short)
    by (inr long) (inr le) = let same : s ≡ old = cc (covered long) in subst (λ z. z.from + z.have ≤ most) (sym same) reaches.0
rest_within (Err e) old len end most start now f bounded covered reaches = elim (cases_lt (old.from + old.have) (end + 32)) [
  | inl short ↦ within_more len (end + 1048576) most start now (omega (arith, reaches.1 short)) f
  | inr long ↦ absurd (cc (covered long))
]

-- the read of a record's length, by way of a window
pub record LengthRead (old s : Span) (at most : ℕ) : Type 0 where
  pub bounded : s.from + s.have ≤ most
  pub from : (s ≡ old) ⊎ (old.from + old.have < at + 4)

pub length_read : (old s : Span) (at len most : ℕ) → at + 36 ≤ len → (s ≡ old) ⊎ ((s.from ≡ at) × (s.have ≡ min (len - at) 1048576)) → (at + 4 ≤ old.from + old.have → s ≡ old)
    → old.from + old.have ≤ most → (at + 36 ≤ len → old.from + old.have < at + 4 → at + 1048576 ≤ most) → LengthRead old s at most
length_read old s at len most fits whole covered within far = elim (cases_lt (old.from + old.have) (at + 4)) [
  | inl short ↦ record {
    bounded = ⊎_elim (λ same. subst (λ z. z.from + z.have ≤ most) (sym same) within) (λ read. omega (arith, read.0, read.1, far fits short)) whole;
    from = inr short;
  }
  | inr long ↦ record { bounded = subst (λ z. z.from + z.have ≤ most) (sym (covered long)) within; from = inl (covered long) }
]

pub length_reaches : (old s : Span) (at most end : ℕ) → LengthRead old s at most → at + 36 ≤ end → ReachesTo end (old.from + old.have) most → ReachesTo end (s.from + s.have) most
length_reaches old s at most end it le r = (it.bounded, λ short. ⊎_elim (λ same. r.1 (subst (λ z. z.from + z.have < end) same short)) (λ before. r.1 (omega (arith, before, le))) it.from)

-- the read of this many bytes from an offset on, by way of a window
pub fill_within : (old s : Span) (len at count most : ℕ) (start now : Counts) → Fetched len (s.from + s.have) start now → (s ≡ old) ⊎ ((s.from ≡ at) × (s.have ≡ min (len - at) 1048576)) → (at + count ≤ old.from + old.have → s ≡ old)
    → ReachesTo (at + count) (old.from + old.have) most → FetchedUpto len most start now s
fill_within old s len at count most start now f whole covered r = (
  f,
  elim (cases_lt (old.from + old.have) (at + count)) [
    | inl short ↦ ⊎_elim (λ same. subst (λ z. z.from + z.have ≤ most) (sym same) r.0) (λ read. omega (arith, read.0, read.1, r.1 short)) whole
    | inr long ↦ subst (λ z. z.from + z.have ≤ most) (sym (covered long)) r.0
  ],
)

-- one that failed
pub fault_within : (old : Span) (len at count most : ℕ) (start now : Counts) → FetchedWithin len (at + 1048576) start now → (at + count ≤ old.from + old.have → ⊥) → ReachesTo (at + count) (old.from + old.have) most
    → FetchedWithin len most start now
fault_within old len at count most start now f missing r = elim (cases_lt (old.from + old.have) (at + count)) [
  | inl short ↦ within_more len (at + 1048576) most start now (omega (arith, r.1 short)) f
  | inr long ↦ absurd (missing long)
]

-- ---- a record that was found or wasn't

pub some_within : (len most : ℕ) (start now : Counts) → FetchedWithin len most start now → FetchedSome len start now
some_within len most start now f = record { upto = f.upto; fetched = f.fetched }

pub next_some : (len most : ℕ) (start now : Counts) (o : Option Found) → FetchedNext len most start now o → FetchedSome len start now
next_some len most start now None f = some_within len most start now f
next_some len most start now (Some r) f = record { upto = r.span.from + r.span.have; fetched = f.0 }

pub next_within : (len most : ℕ) (start now : Counts) (o : Option Found) → FetchedNext len most start now o → FetchedWithin len most start now
next_within len most start now None f = f
next_within len most start now (Some r) f = record { upto = r.span.from + r.span.have; fetched = f.0; bounded = f.1 }

pub head_within : (len most : ℕ) (start now : Counts) (o : Option Head) → FetchedHead len most start now o → FetchedWithin len most start now
head_within len most start now None f = f
head_within len most start now (Some head) f = next_within len most start now head.first f

pub head_some : (len most : ℕ) (start now : Counts) (o : Option Head) → FetchedHead len most start now o → FetchedSome len start now
head_some len most start now o f = some_within len most start now (head_within len most start now o f)

-- whatever is read, it is no more than a window after the file's end
pub any_reach : (IsSize : ℕ → Type 0) (limit len at upto : ℕ) → upto ≤ len → at ≤ len → Reaches IsSize limit len at upto (len + 1048576)
any_reach IsSize limit len at upto le within = (omega (arith, le), (λ fits short. omega (arith, within)), λ size is small fits. (omega (arith, le), λ short. omega (arith, fits)))

-- no more than the file's bytes are read
pub next_any : (len most : ℕ) (start now : Counts) (o : Option Found) → FetchedNext len most start now o → FetchedNext len (len + 1048576) start now o
next_any len most start now None f = record { upto = f.upto; fetched = f.fetched; bounded = omega (arith, f.fetched.within) }
next_any len most start now (Some r) f = (f.0, omega (arith, f.0.within))

-- no read, and reads within a file that isn't too long
pub reads_none : (most : ℕ) (first now : Counts) → now ≡ first → OnlyReads most first now
reads_none most first now is = record { reads = 0; bytes = 0; counts = is; once = omega arith; pieces = omega arith; few = omega arith }

-- a sync or a length that failed
pub looked : {T : Type 0} (r : Result T OpenFault) (most : ℕ) (first now : Counts) → IsErr r × IsErrAnd r (λ e. e ≡ Device) → (now ≡ with_sync first) ⊎ (now ≡ asked first) → Looks r most first now
looked (Ok x) most first now is calls = absurd (search (is.0, rules))
looked (Err e) most first now is calls = subst (λ f. LooksAt f most first now) (sym is.1) (⊎_elim (λ sync. inl sync) (λ length. inr (reads_none most (asked first) now length)) calls)

pub reads_some : (len most : ℕ) (first first' now : Counts) → len ≤ most → first ≡ first' → FetchedSome len first now → OnlyReads most first' now
reads_some len most first first' now le is f = record {
  reads = f.fetched.reads;
  bytes = f.upto;
  counts = f.fetched.counts ∙ ap (with_reads f.fetched.reads f.upto) is;
  once = omega (arith, f.fetched.within, le);
  pieces = f.fetched.pieces;
  few = f.fetched.few;
}

-- what a look ends in after its length
looked_on : (e : OpenFault) (most : ℕ) (first now : Counts) → (e ≡ TooLong → ⊥) → OnlyReads most (asked first) now → LooksAt e most first now
looked_on Device most first now other reads = inr reads
looked_on Memory most first now other reads = inr reads
looked_on NotALog most first now other reads = reads
looked_on TooNew most first now other reads = reads
looked_on TooLong most first now other reads = absurd (other refl)
looked_on Damaged most first now other reads = reads

-- a read that failed
pub looked_front : {T : Type 0} (r : Result T OpenFault) (most : ℕ) (first now : Counts) → IsErr r × IsErrAnd r (λ e. e ≡ Device) → OnlyReads most (asked first) now → Looks r most first now
looked_front (Ok x) most first now is reads = absurd (search (is.0, rules))
looked_front (Err e) most first now is reads = subst (λ f. LooksAt f most first now) (sym is.1) (inr reads)

-- the reading of records
pub looked_records : {T : Type 0} (r : Result T OpenFault) (most : ℕ) (first now : Counts) → IfErr r (λ e. (e ≡ Device) ⊎ (e ≡ Memory)) → OnlyReads most (asked first) now → Looks r most first now
looked_records (Ok x) most first now kinds reads = reads
looked_records (Err e) most first now kinds reads = looked_on e most first now (λ long. ⊎_elim (λ device. cc) (λ memory. cc) kinds) reads

no_format : (o : Option Format) (newer : Bool) (e : OpenFault) → fault_unless o (if newer then TooNew else NotALog) ≡ Some e → e ≡ TooLong → ⊥
no_format (Some format) newer e fault long = cc
no_format None true e fault long = cc
no_format None false e fault long = cc

-- the reading of a record that failed
pub read_kinds : {T : Type 0} (r : Result T OpenFault) (e : OpenFault) → IsErrAnd r (λ k. k ≡ e) → (e ≡ Device) ⊎ (e ≡ Memory) → IfErr r (λ k. (k ≡ Device) ⊎ (k ≡ Memory))
read_kinds (Ok x) e is kind = tt
read_kinds (Err k) e is kind = ⊎_elim (λ device. inl (is ∙ device)) (λ memory. inr (is ∙ memory)) kind

-- a front that names no format
pub looked_format : (front : List ℕ) (e : OpenFault) (most : ℕ) (first now : Counts) → front_fault front ≡ Some e → OnlyReads most (asked first) now → LooksAt e most first now
looked_format front e most first now fault reads = looked_on e most first now (no_format (format_of front) (is_newer front) e fault) reads

pub reads_upto : (len upto most : ℕ) (first first' now : Counts) → len ≤ most → first ≡ first' → Fetched len upto first now → OnlyReads most first' now
reads_upto len upto most first first' now le is f = reads_some len most first first' now le is (record { upto = upto; fetched = f })
