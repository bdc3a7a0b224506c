-- A field that is a number is the one that was written, and what was written is read again.
use Rattle.std.proofs.Common.{◌≡◌, ℕ, ◌<◌, Bool, true, false, cond, ltb, List, ◌++◌, length, take, drop, Option, Some, None, Result, Ok, Err, refl, ap}
use Rattle.std.specs.Int.{Width, byte_len, from_be_bytes, to_be_bytes}
use Rattle.std.specs.Option.{ok_or}
use Rattle.xa_bytes.specs.Numbers as numbers
use Rattle.xa_bytes.proofs.Digits as digits
use Rattle.xa_bytes.proofs.Digits.{IsBytes, IsWide, Takes}
use Rattle.xa_fields.proofs.Results.{ok_is}
use Rattle.xa_frame.specs.declared.fault.FrameFault.{FrameFault}
use Rattle.xa_frame.specs.declared.fault.FrameFault.TheVariants.{Short}
use Rattle.xa_frame.specs.Reading.{rest_of, number_at}
use Rattle.xa_frame.specs.Faults.{after_bytes}

abbrev pub done : {A : Type 0} → A → Result A FrameFault
done x = Ok x

-- a field that is there
some_of_ok : {A : Type 0} (o : Option A) (x : A) → ok_or o Short ≡ Ok x → o ≡ Some x
some_of_ok None x e = absurd cc
some_of_ok (Some y) x e = ap (λ (z : _). Some z) (ok_is y x e)

pub number_takes : (w : Width) (limit : ℕ) (wide : IsWide w limit) (bytes : List ℕ) (n : ℕ) (rest : List ℕ) → IsBytes bytes → number_at w bytes ≡ Ok (n, rest) → Takes bytes (to_be_bytes w n) rest × (n < limit)
unfolding number_at
number_takes w limit wide bytes n rest fits e = digits.number_takes w limit wide bytes n rest fits (some_of_ok (numbers.number_at w bytes) (n, rest) e)

pub number_again : (w : Width) (limit : ℕ) (wide : IsWide w limit) (n : ℕ) (rest : List ℕ) → n < limit → number_at w (to_be_bytes w n ++ rest) ≡ Ok (n, rest)
unfolding number_at
number_again w limit wide n rest lt = ap (λ (o : Option (ℕ × List ℕ)). ok_or o Short) (digits.number_again w limit wide n rest lt)

rest-cond : {A : Type 0} (b : Bool) (x : A) (bytes : List ℕ) → rest_of (ok_or (cond b None (Some (x, bytes))) Short) ≡ cond b (Err Short) (Ok bytes)
rest-cond true x bytes = refl
rest-cond false x bytes = refl

pub number_fault : (w : Width) (bytes : List ℕ) → rest_of (number_at w bytes) ≡ after_bytes (byte_len w) bytes
unfolding number_at
number_fault w bytes = rest-cond (ltb (length bytes) (byte_len w)) (from_be_bytes w (take (byte_len w) bytes)) (drop (byte_len w) bytes)
