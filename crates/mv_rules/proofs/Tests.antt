-- What tests of keys, of timestamps and of truth values say.
use Rattle.std.proofs.Common.{◌≡◌, ℕ, ◌<◌, Bool, true, false, ◌&&◌, ◌||◌, ◌==◌, List, refl, arith}
use Rattle.std.specs.Prelude.{bytes_eq}
use Rattle.std.proofs.lemmas.Bool.Decides.{nat_tests}
use Rattle.std.proofs.lemmas.Slice.Eq.{bytes_eq-Decides}

pub same_key : (a b : List ℕ) → bytes_eq a b ≡ true → a ≡ b
same_key a b e = (bytes_eq-Decides a b).0 e

pub keys_differ : (a b : List ℕ) → bytes_eq a b ≡ false → a ≡ b → ⊥
keys_differ a b d e = let t : bytes_eq a b ≡ true = (bytes_eq-Decides a b).1 e in absurd (cc (t, d))

pub time_itself : (t : ℕ) → (t == t) ≡ true
time_itself t = grind (arith, nat_tests)

pub not_same : (t u : ℕ) → t < u → (u == t) ≡ false
not_same t u lt = grind (arith, nat_tests)

pub not_same_below : (t u : ℕ) → u < t → (u == t) ≡ false
not_same_below t u lt = grind (arith, nat_tests)

pub and_no : (b : Bool) → (b && false) ≡ false
and_no true = refl
and_no false = refl

pub or_false : (b : Bool) → (b || false) ≡ b
or_false true = refl
or_false false = refl

pub or_left : (a b : Bool) → b ≡ false → (a || b) ≡ true → a ≡ true
or_left true b e h = refl
or_left false b e h = absurd (cc (e, h))
