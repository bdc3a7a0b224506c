-- A record that is shown, and whether it chains.
use Rattle.std.proofs.Common.{◌≡◌, inl, inr, ℕ, ◌+◌, ◌-◌, ◌^◌, ◌≤◌, ◌<◌, true, false, List, length, take, drop, sym, ◌∙◌, ap, subst, arith, length-take-le, length-drop, nat_le}
use Rattle.std.specs.Prelude.{nat_lt}
use Rattle.std.specs.Int.{w32, to_be_bytes}
use Rattle.std.specs.Prelude.{Option, Some, None, IfSome, Result, Ok, Err, MatchResult}
use Rattle.std.specs.Result.{result_ok}
use Rattle.xa_disk.specs.declared.counts.Counts.{Counts}
use Rattle.xa_log.specs.Calls.{FetchedNext, FetchedUpto}
use Rattle.xa_log.specs.declared.found.Found.{Found}
use Rattle.std.proofs.lemmas.Bool.{cases_Bool, and_left, and_right, and_parts, and_from}
use Rattle.std.proofs.lemmas.Bool.Decides.{nat_tests}
use Rattle.std.proofs.lemmas.List.{drop-drop}
use Rattle.xa_log.specs.declared.format.Format.{Format}
use Rattle.xa_log.specs.declared.format.Format.TheVariants.{One, Two}
use Rattle.xa_log.specs.declared.window.Span.{Span}
use Rattle.xa_log.specs.declared.found.Shown.{Shown}
use Rattle.xa_log.specs.Believed.Chain.{most_body, digest, size_at, is_record}
use Rattle.xa_log.specs.Believed.LeftOut.{shows_long, shows_record}
use Rattle.xa_log.specs.Reading.{Finds, IfDigest}
use Rattle.xa_log.specs.Shown.{IsShown, Shows}
use Rattle.xa_log.specs.Window.{Caches, Covers}
use Rattle.xa_log.proofs.Cached.{cached_slice}
use Rattle.xa_log.proofs.Front.{Says, says, size_spelled}
use Rattle.xa_log.proofs.Records.{record_to}

pub record IsThere (format : Format) (x : List ℕ) : Type 0 where
  pub some : 1 ≤ size_at x
  pub small : size_at x ≤ most_body format
  pub whole : 36 + size_at x ≤ length x

pub shown_to : (format : Format) (x : List ℕ) → shows_record format x ≡ true → IsThere format x
shown_to format x is =
    let a = and_parts (nat_le 1 (size_at x)) _ is in
    let b = and_parts (nat_le (size_at x) (most_body format)) _ a.1 in
    let some : nat_le 1 (size_at x) ≡ true = a.0 in
    let small : nat_le (size_at x) (most_body format) ≡ true = b.0 in
    let whole : nat_le (36 + size_at x) (length x) ≡ true = b.1 in
    record {
      some = grind (arith, nat_tests);
      small = grind (arith, nat_tests);
      whole = grind (arith, nat_tests);
    }

pub shown_from : (format : Format) (x : List ℕ) → IsThere format x → shows_record format x ≡ true
shown_from format x r =
    let a : nat_le 1 (size_at x) ≡ true = grind (arith, nat_tests, r.some) in
    let b : nat_le (size_at x) (most_body format) ≡ true = grind (arith, nat_tests, r.small) in
    let d : nat_le (36 + size_at x) (length x) ≡ true = grind (arith, nat_tests, r.whole) in
    and_from _ _ a (and_from _ _ b d)

not_shown : (format : Format) (x : List ℕ) → (IsThere format x → ⊥) → shows_record format x ≡ false
not_shown format x none = elim (cases_Bool (shows_record format x)) [ inl is ↦ absurd (none (shown_to format x is)) | inr other ↦ other ]

pub shows_short : (format : Format) (x : List ℕ) → length x < 36 → shows_record format x ≡ false
shows_short format x short = not_shown format x (λ r. omega (arith, r.whole))

pub shows_empty : (format : Format) (x : List ℕ) → size_at x ≡ 0 → shows_record format x ≡ false
shows_empty format x is = not_shown format x (λ r. omega (arith, r.some))

pub shows_large : (format : Format) (x : List ℕ) → most_body format < size_at x → shows_record format x ≡ false
shows_large format x large = not_shown format x (λ r. omega (arith, r.small))

pub shows_cut : (format : Format) (x : List ℕ) → length x < 36 + size_at x → shows_record format x ≡ false
shows_cut format x cut = not_shown format x (λ r. omega (arith, r.whole))

-- where none is shown, none chains, on whatever digest
pub unshown : (format : Format) (prev x : List ℕ) → shows_record format x ≡ false → is_record format prev x ≡ false
unshown format prev x none = elim (cases_Bool (is_record format prev x)) [
  | inl is ↦
      let r = record_to format prev x is in
      let shown = shown_from format x (record { some = r.some; small = r.small; whole = r.whole }) in
      absurd (cc (none, shown))
  | inr other ↦ other
]

pub length-shown : (format : Format) (file window : List ℕ) (at : ℕ) (shown : Shown) → Shows format file at window (Some shown) → length shown.body.items ≡ size_at (drop at file)
length-shown format file window at shown it =
    let x : List ℕ = drop at file in
    let r = shown_to format x it.0 in
    ap (λ (l : List ℕ). length l) it.1.body ∙ length-take-le (size_at x) (drop 4 x) (omega (arith, r.whole, length-drop 4 x))

-- by its own digest it is told whether it chains
pub shown_says : (format : Format) (file window prev value stored : List ℕ) (at : ℕ) (shown : Shown) → Shows format file at window (Some shown) → value ≡ shown.body.items → stored ≡ shown.stored
    → (o : Option (List ℕ)) → IfDigest (digest prev value) stored o → Says format prev (drop at file) shown.body.items o
shown_says format file window prev value stored at shown it value_is stored_is o by =
    let x : List ℕ = drop at file in
    let body : List ℕ = shown.body.items in
    let r = shown_to format x it.0 in
    let long : length body ≡ size_at x = length-shown format file window at shown it in
    let there : stored ≡ take 32 (drop (4 + length body) x) = stored_is ∙ it.1.stored ∙ ap (λ (n : ℕ). take 32 (drop (4 + n) x)) (sym long) in
    says format prev x body (record { some = omega (arith, r.some, long); small = omega (arith, r.small, long) })
    it.1.spelled
    (it.1.body ∙ ap (λ (n : ℕ). take n (drop 4 x)) (sym long))
    (omega (arith, r.whole, long)) o
    (subst (λ s. IfDigest (digest prev body) s o) there (subst (λ b. IfDigest (digest prev b) stored o) value_is by))

-- what was read by a length, with the digest after it, is what stands there
pub is_shown : (file window : List ℕ) (at size begin n : ℕ) (shown : Shown) → size < 2 ^ 32 → take 4 (drop at file) ≡ to_be_bytes w32 size → length shown.body.items ≡ size
    → shown.body.items ≡ take size (drop (at + 4) file) → shown.stored ≡ take n (drop begin window) → begin ≡ at + (4 + size) - shown.span.from → n ≡ 32
    → Caches file window shown.span → Covers shown.span (at + (4 + size)) 32 → IsShown file at window shown
is_shown file window at size begin n shown lt spelled long read stored begin_is n_is caches covers =
    let x : List ℕ = drop at file in
    let told : size_at x ≡ size = size_spelled x size lt spelled in
    record {
      spelled = spelled ∙ ap (λ (k : ℕ). to_be_bytes w32 k) (sym long);
      body = read ∙ ap (λ (l : List ℕ). take size l) (sym (drop-drop 4 at file)) ∙ ap (λ (k : ℕ). take k (drop 4 x)) (sym told);
      stored = stored ∙ cached_slice file window shown.span (at + (4 + size)) 32 begin n begin_is n_is caches covers
          ∙ ap (λ (l : List ℕ). take 32 l) (sym (drop-drop (4 + size) at file)) ∙ ap (λ (k : ℕ). take 32 (drop (4 + k) x)) (sym told);
      caches = caches;
    }

-- a record that is shown is found if it chains
pub found_or : (r : Result Found Shown) (o : Option Found) (format : Format) (prev file window : List ℕ) (at : ℕ) → o ≡ result_ok r
    → MatchResult r (λ f. Finds format prev file at window (Some f)) (λ _. is_record format prev (drop at file) ≡ false) → Finds format prev file at window o
found_or r o format prev file window at is it = subst (λ o. Finds format prev file at window o) (sym is) (by r it)
  where
    by : (r : Result Found Shown) → MatchResult r (λ f. Finds format prev file at window (Some f)) (λ _. is_record format prev (drop at file) ≡ false) → Finds format prev file at window (result_ok r)
    by (Ok f) it = it
    by (Err s) it = it

pub found_read : (r : Result Found Shown) (o : Option Found) (shown : Shown) (len most : ℕ) (start now : Counts) → o ≡ result_ok r
    → MatchResult r (λ f. (f.body ≡ shown.body) × (f.span ≡ shown.span)) (λ s. s ≡ shown) → FetchedUpto len most start now shown.span → FetchedNext len most start now o
found_read r o shown len most start now is kept f = subst (λ o. FetchedNext len most start now o) (sym is) (by r kept)
  where
    by : (r : Result Found Shown) → MatchResult r (λ f. (f.body ≡ shown.body) × (f.span ≡ shown.span)) (λ s. s ≡ shown) → FetchedNext len most start now (result_ok r)
    by (Ok found) k = subst (λ s. FetchedUpto len most start now s) (sym k.1) f
    by (Err s) k = record { upto = shown.span.from + shown.span.have; fetched = f.0; bounded = f.1 }

pub found_some : (o : Option Found) (shown : Shown) (len most : ℕ) (start now : Counts) → IfSome o (λ f. (f.body ≡ shown.body) × (f.span ≡ shown.span)) → FetchedUpto len most start now shown.span → FetchedNext len most start now o
found_some (Some found) shown len most start now k f = subst (λ s. FetchedUpto len most start now s) (sym k.1) f
found_some None shown len most start now k f = record { upto = shown.span.from + shown.span.have; fetched = f.0; bounded = f.1 }

-- ---- where a window has room for it

-- what is spelled so is no more than that
pub short_shown : (format : Format) (x : List ℕ) → size_at x ≤ 524288 → shows_long format x ≡ false
unfolding shows_long
short_shown format x le = let a : nat_lt 524288 (size_at x) ≡ false = grind (arith, nat_tests, le) in and_left (nat_lt 524288 (size_at x)) _ a

pub unshown_short : (format : Format) (x : List ℕ) → shows_record format x ≡ false → shows_long format x ≡ false
unfolding shows_long
unshown_short format x none = and_right (nat_lt 524288 (size_at x)) _ none

pub long_shown : (format : Format) (x : List ℕ) → 524288 < size_at x → shows_record format x ≡ true → shows_long format x ≡ true
unfolding shows_long
long_shown format x lt is = let a : nat_lt 524288 (size_at x) ≡ true = grind (arith, nat_tests, lt) in and_from _ _ a is

most_one : (format : Format) → 524288 ≤ most_body format
most_one One = omega arith
most_one Two = omega arith

-- by the body and the digest in the window it is told whether it chains
pub window_says : (format : Format) (file window prev body tail : List ℕ) (span : Span) (at size begin end n m : ℕ) → 1 ≤ size → size ≤ 524288 → at + (36 + size) ≤ length file → take 4 (drop at file) ≡ to_be_bytes w32 size
    → Caches file window span → Covers span at (36 + size) → begin ≡ at - span.from + 4 → end ≡ begin + size → n ≡ size → m ≡ 32 → body ≡ take n (drop begin window) → tail ≡ take m (drop end window)
    → (o : Option (List ℕ)) → IfDigest (digest prev body) tail o → Says format prev (drop at file) body o
window_says format file window prev body tail span at size begin end n m some small within spelled caches covers begin_is end_is n_is m_is body_is tail_is o it =
    says format prev x body (record { some = omega (arith, long, some); small = omega (arith, long, small, most_one format) }) (spelled ∙ ap (λ (k : ℕ). to_be_bytes w32 k) (sym long))
    (there ∙ ap (λ (k : ℕ). take k (drop 4 x)) (sym long)) (omega (arith, long, within, length-drop at file)) o (subst (λ t. IfDigest (digest prev body) t o) tail_there it)
  where
    x : List ℕ
    x = drop at file

    there : body ≡ take size (drop 4 x)
    there =
        body_is ∙ cached_slice file window span (at + 4) size begin n (omega (arith, begin_is, covers.begins)) n_is caches (record { begins = omega (arith, covers.begins); reaches = omega (arith, covers.begins, covers.reaches) })
        ∙ ap (λ (l : List ℕ). take size l) (sym (drop-drop 4 at file))

    long : length body ≡ size
    long = ap length there ∙ length-take-le size (drop 4 x) (omega (arith, within, length-drop 4 x, length-drop at file))

    tail_there : tail ≡ take 32 (drop (4 + length body) x)
    tail_there =
        tail_is ∙ cached_slice file window span (at + (4 + size)) 32 end m (omega (arith, begin_is, end_is, covers.begins)) m_is caches (record { begins = omega (arith, covers.begins); reaches = omega (arith, covers.begins, covers.reaches) })
        ∙ ap (λ (l : List ℕ). take 32 l) (sym (drop-drop (4 + size) at file)) ∙ ap (λ (k : ℕ). take 32 (drop (4 + k) x)) (sym long)
