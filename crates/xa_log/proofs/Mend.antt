-- The length with which a record was written.
use Rattle.std.proofs.Common.{◌≡◌, inl, inr, ℕ, zero, suc, ◌+◌, ◌-◌, ◌≤◌, ◌<◌, ◌^◌, ◌*◌, ◌%◌, min, Bool, true, false, ◌&&◌, cond, nat_le, List, length, take, drop, refl, sym, ◌∙◌, ap, subst, arith, length-append, length-drop, length-take-le, length-take}
use Rattle.std.specs.Prelude.{bit_xor, not, ◌==◌, nat_eq}
use Rattle.std.specs.Int.{w32, to_be_bytes}
use Rattle.std.specs.Prelude.{Option, Some, None}
use Rattle.std.proofs.lemmas.Bool.{cases_Bool, and_left, and_right, and_parts, and_from}
use Rattle.std.proofs.lemmas.Bool.Decides.{nat_tests}
use Rattle.std.proofs.lemmas.List.{drop-drop, drop-take, take-take}
use Rattle.std.proofs.lemmas.Nat.{one_shl}
use Rattle.xa_log.specs.declared.format.Format.{Format}
use Rattle.xa_log.specs.declared.format.Format.TheVariants.{One, Two}
use Rattle.xa_log.specs.Believed.Chain.{most_body, digest, size_at, rest_at, is_record}
use Rattle.xa_log.specs.Believed.LeftOut.{as_written, chains_with, mended, shows_long, with_size}
use Rattle.xa_log.specs.Reading.{IfDigest}
use Rattle.xa_log.specs.Window.{Caches, Covers}
use Rattle.xa_log.specs.declared.window.Span.{Span}
use Rattle.xa_log.proofs.Cached.{cached_slice}
use Rattle.xa_log.specs.Shown.{IfChainsWith, IsFrontOf}
use Rattle.xa_log.proofs.Front.{says, Says, size_spelled, size_take, none_empty, none_short, none_cut}

-- a length has four bytes
length-size : (n : ℕ) → length (to_be_bytes w32 n) ≡ 4
length-size n = refl

pub drop_with : (size : ℕ) (bytes : List ℕ) → drop 4 (with_size size bytes) ≡ drop 4 bytes
unfolding with_size
drop_with size bytes = refl

pub take_with : (size : ℕ) (bytes : List ℕ) → take 4 (with_size size bytes) ≡ to_be_bytes w32 size
unfolding with_size
take_with size bytes = refl

pub size_with : (size : ℕ) (bytes : List ℕ) → size ≤ 524288 → size_at (with_size size bytes) ≡ size
size_with size bytes small = size_spelled (with_size size bytes) size (omega (arith, small)) (take_with size bytes)

pub length-with : (size : ℕ) (bytes : List ℕ) → 4 ≤ length bytes → length (with_size size bytes) ≡ length bytes
unfolding with_size
length-with size bytes le = omega (arith, le, length-append (to_be_bytes w32 size) (drop 4 bytes), length-size size, length-drop 4 bytes)

most_one : (format : Format) → 524288 ≤ most_body format
most_one One = omega arith
most_one Two = omega arith

-- ---- one length

pub with_none : (format : Format) (prev bytes : List ℕ) (size : ℕ) → is_record format prev (with_size size bytes) ≡ false → chains_with format prev bytes size ≡ false
unfolding chains_with
with_none format prev bytes size none = and_right (nat_le size 524288) _ none

pub with_large : (format : Format) (prev bytes : List ℕ) (size : ℕ) → 524288 < size → chains_with format prev bytes size ≡ false
unfolding chains_with
with_large format prev bytes size large = let a : nat_le size 524288 ≡ false = grind (arith, nat_tests, large) in and_left (nat_le size 524288) _ a

pub with_empty : (format : Format) (prev bytes : List ℕ) (size : ℕ) → size ≡ 0 → chains_with format prev bytes size ≡ false
with_empty format prev bytes size is = with_none format prev bytes size (none_empty format prev (with_size size bytes) (size_with size bytes (omega (arith, is)) ∙ is))

pub with_cut : (format : Format) (prev front bytes : List ℕ) (size : ℕ) → IsFrontOf front bytes → size ≤ 524288 → length front < 36 + size → chains_with format prev bytes size ≡ false
unfolding chains_with with_size
with_cut format prev front bytes size f small cut =
    with_none format prev bytes size (none_cut format prev (with_size size bytes)
    (omega (arith, size_with size bytes small, f.whole, small, cut, length-append (to_be_bytes w32 size) (drop 4 bytes), length-size size, length-drop 4 bytes)))

-- a part of the front stands there
pub front_part : (front bytes : List ℕ) (begin n : ℕ) → front ≡ take (length front) bytes → begin + n ≤ length front → take n (drop begin front) ≡ take n (drop begin bytes)
front_part front bytes begin n is le =
    let k : length front ≡ begin + (length front - begin) = omega (arith, le) in
    ap (λ (l : List ℕ). take n (drop begin l)) (is ∙ ap (λ (j : ℕ). take j bytes) k)
    ∙ ap (λ (l : List ℕ). take n l) (drop-take begin (length front - begin) bytes)
    ∙ take-take n (length front - begin) (drop begin bytes) (omega (arith, le))

pub with_says : (format : Format) (prev front bytes body tail : List ℕ) (size : ℕ) → IsFrontOf front bytes → 1 ≤ size → size ≤ 524288 → 36 + size ≤ length front
    → body ≡ take size (drop 4 front) → tail ≡ take 32 (drop (4 + size) front) → (o : Option (List ℕ)) → IfDigest (digest prev body) tail o → IfChainsWith format prev bytes size o
unfolding chains_with
with_says format prev front bytes body tail size f some small fits body_is tail_is o it =
    by o (says format prev x body (record { some = omega (arith, long, some); small = omega (arith, long, small, most_one format) }) spelled there (omega (arith, long, whole)) o
    (subst (λ t. IfDigest (digest prev body) t o) tail_there it))
  where
    x : List ℕ
    x = with_size size bytes

    room : length front ≤ length bytes
    room = omega (arith, ap length f.front_is, length-take (length front) bytes)

    whole : 36 + size ≤ length x
    whole = omega (arith, room, fits, length-with size bytes (omega (arith, room, fits)))

    long : length body ≡ size
    long = ap length body_is ∙ length-take-le size (drop 4 front) (omega (arith, fits, length-drop 4 front))

    spelled : take 4 x ≡ to_be_bytes w32 (length body)
    spelled = take_with size bytes ∙ ap (λ (k : ℕ). to_be_bytes w32 k) (sym long)

    there : body ≡ take (length body) (drop 4 x)
    there = body_is ∙ front_part front bytes 4 size f.front_is (omega (arith, fits)) ∙ (λ i. take (sym long i) (sym (drop_with size bytes) i))

    tail_there : tail ≡ take 32 (drop (4 + length body) x)
    tail_there =
        tail_is ∙ front_part front bytes (4 + size) 32 f.front_is (omega (arith, fits))
        ∙ ap (λ (l : List ℕ). take 32 l) (sym (drop-drop size 4 bytes) ∙ ap (λ (l : List ℕ). drop size l) (sym (drop_with size bytes)) ∙ drop-drop size 4 x)
        ∙ ap (λ (k : ℕ). take 32 (drop (4 + k) x)) (sym long)

    by : (o : Option (List ℕ)) → Says format prev x body o → IfChainsWith format prev bytes size o
    by None other = with_none format prev bytes size other
    by (Some d) there = let a : nat_le size 524288 ≡ true = grind (arith, nat_tests, small) in (and_from _ _ a there.0, there.2)

-- a slice, as its bounds spell it
pub slice_is : (l : List ℕ) (begin n m : ℕ) → n ≡ m → take n (drop begin l) ≡ take m (drop begin l)
slice_is l begin n m is = ap (λ (k : ℕ). take k (drop begin l)) is

-- what a window has of a file from an offset on
pub front_from : (file window : List ℕ) (span : Span) (at len count begin n : ℕ) → begin ≡ at - span.from → n ≡ count → Caches file window span → Covers span at count → len ≡ length file → count ≡ min (len - at) 524324
    → IsFrontOf (take n (drop begin window)) (drop at file)
front_from file window span at len count begin n b k caches covers long is =
    let x : List ℕ = drop at file in
    let there : take n (drop begin window) ≡ take count x = cached_slice file window span at count begin n b k caches covers in
    let many : length (take n (drop begin window)) ≡ count = ap length there ∙ length-take-le count x (omega (arith, is, long, length-drop at file)) in
    record {
      front_is = there ∙ ap (λ (j : ℕ). take j x) (sym many);
      whole = omega (arith, many, is, long, length-drop at file);
    }

-- ---- one bit after another

pub front_size : (front bytes : List ℕ) → IsFrontOf front bytes → 4 ≤ length front → size_at front ≡ size_at bytes
front_size front bytes f le = ap size_at f.front_is ∙ size_take (length front) bytes le

abbrev flipped : List ℕ → ℕ → ℕ
flipped bytes bit = bit_xor (size_at bytes) (2 ^ bit)

pub mended_next : (format : Format) (prev bytes : List ℕ) (bit size : ℕ) → size ≡ bit_xor (size_at bytes) (2 ^ bit) → chains_with format prev bytes size ≡ false
    → mended format prev bytes (suc bit) ≡ mended format prev bytes bit
unfolding mended
mended_next format prev bytes bit size is other =
    ap (λ (b : Bool). cond b (with_size (flipped bytes bit) bytes) (mended format prev bytes bit)) (ap (λ (s : ℕ). chains_with format prev bytes s) (sym is) ∙ other)

pub mended_there : (format : Format) (prev bytes : List ℕ) (bit size : ℕ) → size ≡ bit_xor (size_at bytes) (2 ^ bit) → chains_with format prev bytes size ≡ true
    → mended format prev bytes (suc bit) ≡ with_size size bytes
unfolding mended
mended_there format prev bytes bit size is there =
    ap (λ (b : Bool). cond b (with_size (flipped bytes bit) bytes) (mended format prev bytes bit)) (ap (λ (s : ℕ). chains_with format prev bytes s) (sym is) ∙ there)
    ∙ ap (λ (s : ℕ). with_size s bytes) (sym is)

pub mended_zero : (format : Format) (prev bytes : List ℕ) (bit : ℕ) → bit ≡ 0 → mended format prev bytes bit ≡ bytes
unfolding mended
mended_zero format prev bytes bit is = ap (λ (k : ℕ). mended format prev bytes k) is

pub bit_is : (bytes : List ℕ) (there bit : ℕ) → there ≡ size_at bytes → bit < 64 → bit_xor there (1 * 2 ^ bit % 2 ^ 64) ≡ bit_xor (size_at bytes) (2 ^ bit)
bit_is bytes there bit is small = λ i. bit_xor (is i) (one_shl bit 64 small i)

pub with_chains : (format : Format) (prev bytes : List ℕ) (size : ℕ) → chains_with format prev bytes size ≡ true → is_record format prev (with_size size bytes) ≡ true
unfolding chains_with
with_chains format prev bytes size is = (and_parts (nat_le size 524288) _ is).1

-- ---- as they were written

pub written_empty : (format : Format) (prev bytes : List ℕ) → size_at bytes ≡ 0 → as_written format prev bytes ≡ bytes
unfolding as_written
written_empty format prev bytes is = ap (λ (n : ℕ). cond (not (n == 0) && not (shows_long format bytes)) (mended format prev bytes 32) bytes) is

pub written_long : (format : Format) (prev bytes : List ℕ) → shows_long format bytes ≡ true → as_written format prev bytes ≡ bytes
unfolding as_written
written_long format prev bytes is =
    ap (λ (b : Bool). cond b (mended format prev bytes 32) bytes) (and_right (not (size_at bytes == 0)) _ (ap (λ (b : Bool). not b) is))

pub written_tried : (format : Format) (prev bytes : List ℕ) → (size_at bytes ≡ 0 → ⊥) → shows_long format bytes ≡ false → as_written format prev bytes ≡ mended format prev bytes 32
unfolding as_written
written_tried format prev bytes some short =
    let a : nat_eq (size_at bytes) 0 ≡ false = grind (arith, nat_tests, some) in
    ap (λ (b : Bool). cond b (mended format prev bytes 32) bytes) (and_from _ _ (ap (λ (b : Bool). not b) a) (ap (λ (b : Bool). not b) short))

-- bytes too few for a record have no other length
mended_short : (format : Format) (prev bytes : List ℕ) (bits : ℕ) → length bytes < 36 → mended format prev bytes bits ≡ bytes
unfolding mended with_size
mended_short format prev bytes zero short = refl
mended_short format prev bytes (suc bit) short =
    let size : ℕ = flipped bytes bit in
    mended_next format prev bytes bit size refl
    (with_none format prev bytes size (none_short format prev (with_size size bytes) (omega (arith, short, length-append (to_be_bytes w32 size) (drop 4 bytes), length-size size, length-drop 4 bytes))))
    ∙ mended_short format prev bytes bit short

pub written_short : (format : Format) (prev bytes : List ℕ) → length bytes < 36 → as_written format prev bytes ≡ bytes
unfolding as_written
written_short format prev bytes short = elim (cases_Bool (not (size_at bytes == 0) && not (shows_long format bytes))) [
  | inl is ↦ ap (λ (b : Bool). cond b (mended format prev bytes 32) bytes) is ∙ mended_short format prev bytes 32 short
  | inr other ↦ ap (λ (b : Bool). cond b (mended format prev bytes 32) bytes) other
]

-- What comes after their record is what comes there, by its length: the same, or one that a window has room for.
pub rest_with : (size : ℕ) (bytes : List ℕ) → rest_at (with_size size bytes) ≡ drop (36 + size_at (with_size size bytes)) bytes
unfolding with_size
rest_with size bytes =
    let n : ℕ = size_at (with_size size bytes) in
    let k : 36 + n ≡ 4 + (32 + n) = omega arith in
    ap (λ (j : ℕ). drop j (with_size size bytes)) k ∙ sym (drop-drop (32 + n) 4 (with_size size bytes)) ∙ drop-drop (32 + n) 4 bytes ∙ ap (λ (j : ℕ). drop j bytes) (sym k)

rest_mended : (format : Format) (prev bytes : List ℕ) (bits : ℕ) → rest_at (mended format prev bytes bits) ≡ drop (36 + size_at (mended format prev bytes bits)) bytes
unfolding mended
rest_mended format prev bytes zero = refl
rest_mended format prev bytes (suc bit) = elim (cases_Bool (chains_with format prev bytes (flipped bytes bit))) [
  | inl is ↦ subst (λ x. rest_at x ≡ drop (36 + size_at x) bytes) (sym (mended_there format prev bytes bit (flipped bytes bit) refl is)) (rest_with (flipped bytes bit) bytes)
  | inr other ↦ subst (λ x. rest_at x ≡ drop (36 + size_at x) bytes) (sym (mended_next format prev bytes bit (flipped bytes bit) refl other)) (rest_mended format prev bytes bit)
]

pub rest_written : (format : Format) (prev bytes : List ℕ) → rest_at (as_written format prev bytes) ≡ drop (36 + size_at (as_written format prev bytes)) bytes
unfolding as_written
rest_written format prev bytes = elim (cases_Bool (not (size_at bytes == 0) && not (shows_long format bytes))) [
  | inl is ↦ subst (λ x. rest_at x ≡ drop (36 + size_at x) bytes) (sym (ap (λ (b : Bool). cond b (mended format prev bytes 32) bytes) is)) (rest_mended format prev bytes 32)
  | inr other ↦ subst (λ x. rest_at x ≡ drop (36 + size_at x) bytes) (sym (ap (λ (b : Bool). cond b (mended format prev bytes 32) bytes) other)) refl
]
