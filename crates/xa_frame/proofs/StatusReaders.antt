-- A status as a field: ten numbers, one after another.
use Rattle.std.proofs.Common.{◌≡◌, ℕ, ◌+◌, ◌-◌, ◌^◌, ◌<◌, ◌≤◌, Bool, true, false, cond, ltb, List, ◌++◌, length, drop, Ok, Err, refl, sym, ◌∙◌, arith}
use Rattle.std.specs.Int.{w64, to_be_bytes}
use Rattle.std.proofs.lemmas.Bool.Decides.{nat_tests}
use Rattle.std.proofs.lemmas.List.{drop-drop, length-append, length-drop}
use Rattle.xa_frame.specs.declared.fault.FrameFault.TheVariants.{Short}
use Rattle.xa_frame.specs.declared.status.Status.{Status}
use Rattle.xa_frame.specs.Limits.{HoldsStatus}
use Rattle.xa_frame.specs.Spelling.{status_bytes}
use Rattle.xa_frame.specs.Faults.{after_bytes, after_both, and_then}
use Rattle.xa_frame.specs.Reading.{Reads, number_at, field_as, and_number, ten, status_of, status_at}
use Rattle.xa_frame.proofs.Readers.{IsField, number64, both, as_made}
use Rattle.xa_frame.proofs.BranchReaders.{other_facts}

-- ---- this many bytes, and then this many

split : (b : Bool) (m n : ℕ) (bytes : List ℕ) → ltb (length bytes) m ≡ b
    → and_then (cond b (Err Short) (Ok (drop m bytes))) (after_bytes n) ≡ after_bytes (m + n) bytes
split true m n bytes h =
    let t : ltb (length bytes) (m + n) ≡ true = grind (arith, nat_tests) in
    rw t refl
split false m n bytes h =
    let len : length (drop m bytes) ≡ length bytes - m = length-drop m bytes in
    let t : ltb (length bytes - m) n ≡ ltb (length bytes) (m + n) = grind (arith, nat_tests) in
    rw (len, t, sym (drop-drop n m bytes)) refl

both_bytes : (m n : ℕ) (bytes : List ℕ) → after_both (after_bytes m) (after_bytes n) bytes ≡ after_bytes (m + n) bytes
both_bytes m n bytes = split (ltb (length bytes) m) m n bytes refl

-- a number, and what has this many bytes
and_then_more : {A : Type 0} {at : Reads A} {spell : A → List ℕ} {fits : A → Type 0} (n : ℕ) → IsField A at spell fits (after_bytes n)
    → IsField (ℕ × A) (and_number at) (λ x. to_be_bytes w64 x.0 ++ spell x.1) (λ x. (x.0 < 2 ^ 64) × fits x.1) (after_bytes (8 + n))
and_then_more n F =
    let G = both number64 F in
    record { takes = G.takes; again = G.again; fault = λ bytes. G.fault bytes ∙ both_bytes 8 n bytes }

abbrev parts : Status → ten ℕ
parts s = (s.boot, (s.end, (s.bytes, (s.branches, (s.prepared, (s.completed, (s.sessions, (s.versions, (s.calls, s.seconds)))))))))

abbrev fit : ten ℕ → Type 0
fit x =
    (x.0 < 2 ^ 64) × ((x.1.0 < 2 ^ 64) × ((x.1.1.0 < 2 ^ 64) × ((x.1.1.1.0 < 2 ^ 64) × ((x.1.1.1.1.0 < 2 ^ 64)
    × ((x.1.1.1.1.1.0 < 2 ^ 64) × ((x.1.1.1.1.1.1.0 < 2 ^ 64) × ((x.1.1.1.1.1.1.1.0 < 2 ^ 64)
    × ((x.1.1.1.1.1.1.1.1.0 < 2 ^ 64) × (x.1.1.1.1.1.1.1.1.1 < 2 ^ 64)))))))))

pub status : IsField Status status_at status_bytes HoldsStatus (after_bytes 80)
unfolding status_at
status =
    let numbers =
    and_then_more 72 (and_then_more 64 (and_then_more 56 (and_then_more 48 (and_then_more 40 (and_then_more 32
    (and_then_more 24 (and_then_more 16 (and_then_more 8 number64)))))))) in
    let whole : IsField Status (field_as status_of (and_number (and_number (and_number (and_number (and_number (and_number (and_number (and_number (and_number (number_at w64)))))))))))
    status_bytes (λ s. fit (parts s)) (after_bytes 80) =
    as_made status_of parts (λ x. refl) (λ s. refl) numbers in
    other_facts whole
    (λ s h. record {
      boot = h.0;
      end = h.1.0;
      bytes = h.1.1.0;
      branches = h.1.1.1.0;
      prepared = h.1.1.1.1.0;
      completed = h.1.1.1.1.1.0;
      sessions = h.1.1.1.1.1.1.0;
      versions = h.1.1.1.1.1.1.1.0;
      calls = h.1.1.1.1.1.1.1.1.0;
      seconds = h.1.1.1.1.1.1.1.1.1;
    })
    (λ s h. (h.boot, (h.end, (h.bytes, (h.branches, (h.prepared, (h.completed, (h.sessions, (h.versions, (h.calls, h.seconds))))))))))

pub status_short : (s : Status) → length (status_bytes s) ≤ 80
status_short s =
    let calls = to_be_bytes w64 s.calls ++ to_be_bytes w64 s.seconds in
    let versions = to_be_bytes w64 s.versions ++ calls in
    let sessions = to_be_bytes w64 s.sessions ++ versions in
    let completed = to_be_bytes w64 s.completed ++ sessions in
    let prepared = to_be_bytes w64 s.prepared ++ completed in
    let branches = to_be_bytes w64 s.branches ++ prepared in
    let bytes = to_be_bytes w64 s.bytes ++ branches in
    let end = to_be_bytes w64 s.end ++ bytes in
    let last : length (to_be_bytes w64 s.seconds) ≤ 8 = omega arith in
    more s.boot end 72 (more s.end bytes 64 (more s.bytes branches 56 (more s.branches prepared 48 (more s.prepared completed 40
    (more s.completed sessions 32 (more s.sessions versions 24 (more s.versions calls 16 (more s.calls (to_be_bytes w64 s.seconds) 8 last))))))))
  where
    more : (a : ℕ) (rest : List ℕ) (n : ℕ) → length rest ≤ n → length (to_be_bytes w64 a ++ rest) ≤ 8 + n
    more a rest n h = omega (arith, h, length-append (to_be_bytes w64 a) rest)
