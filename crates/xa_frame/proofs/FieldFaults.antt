-- Which fault of a content a field's fault is.
use Rattle.std.proofs.Common.{◌≡◌, ℕ, ◌||◌, Bool, true, false, cond, eqb, ltb, List, [], ◌∷◌, length, take, drop, Option, Some, None, Result, Ok, Err, refl, ap, ◌∙◌}
use Rattle.std.specs.Int.{w16, from_be_bytes}
use Rattle.std.specs.Option.{ok_or}
use Rattle.xa_codes.specs.declared.direction.Direction.{Direction}
use Rattle.xa_codes.specs.declared.direction.Direction.TheVariants.{Commit, Rollback}
use Rattle.xa_xid.specs.Triple.{Triple}
use Rattle.xa_xid.specs.Reading.{xid_at}
use Rattle.xa_limits.specs.declared.TheConstants.{MOST_VALUE}
use Rattle.xa_fields.specs.declared.fault.FieldFault.{FieldFault}
use Rattle.xa_fields.specs.declared.fault.FieldFault.TheVariants.{Cut, Limit}
use Rattle.xa_fields.specs.Reading.{◌>>=◌, bytes_at, short_at, key_at, value_at, direction_at, named, name_at}
use Rattle.xa_frame.specs.declared.fault.FrameFault.{FrameFault}
use Rattle.xa_frame.specs.declared.fault.FrameFault.TheVariants.{Short, Field}
use Rattle.xa_frame.specs.Faults.{after_bytes, after_info, after_key, after_value, after_direction, behind, after_xid}
use Rattle.xa_frame.specs.Fields.{of_field}
use Rattle.xa_frame.specs.Reading.{rest_of}

rest-bytes : (b : Bool) (x bytes : List ℕ) → rest_of (of_field (cond b (Err Cut) (Ok (x, bytes)))) ≡ cond b (Err Short) (Ok bytes)
rest-bytes true x bytes = refl
rest-bytes false x bytes = refl

bytes_fault : (n : ℕ) (bytes : List ℕ) → rest_of (of_field (bytes_at n bytes)) ≡ after_bytes n bytes
bytes_fault n bytes = rest-bytes (ltb (length bytes) n) (take n bytes) (drop n bytes)

rest-limit : {A : Type 0} (b : Bool) (r : Result (A × List ℕ) FieldFault) (s : Result (List ℕ) FrameFault) → rest_of (of_field r) ≡ s → rest_of (of_field (cond b (Err Limit) r)) ≡ cond b (Err Field) s
rest-limit true r s e = refl
rest-limit false r s e = e

pub info_fault : (bytes : List ℕ) → rest_of (of_field (short_at bytes)) ≡ after_info bytes
unfolding short_at
info_fault [] = refl
info_fault (n ∷ bytes) = bytes_fault n bytes

pub key_fault : (bytes : List ℕ) → rest_of (of_field (key_at bytes)) ≡ after_key bytes
unfolding key_at
key_fault [] = refl
key_fault (n ∷ bytes) = rest-limit (eqb n 0 || ltb 64 n) (bytes_at n bytes) (after_bytes n bytes) (bytes_fault n bytes)

rest-number : {A : Type 0} (b : Bool) (x : ℕ × List ℕ) (f : ℕ × List ℕ → Result (A × List ℕ) FieldFault)
    → rest_of (of_field (ok_or (cond b None (Some x)) Cut >>= f)) ≡ cond b (Err Short) (rest_of (of_field (f x)))
rest-number true x f = refl
rest-number false x f = refl

pub value_fault : (bytes : List ℕ) → rest_of (of_field (value_at bytes)) ≡ after_value bytes
unfolding value_at
value_fault bytes =
    let n = from_be_bytes w16 (take 2 bytes) in
    rest-number (ltb (length bytes) 2) (n, drop 2 bytes) (λ n. cond (ltb MOST_VALUE n.0) (Err Limit) (bytes_at n.0 n.1))
    ∙ ap (λ (r : Result (List ℕ) FrameFault). cond (ltb (length bytes) 2) (Err Short) r) (rest-limit (ltb MOST_VALUE n) (bytes_at n (drop 2 bytes)) (after_bytes n (drop 2 bytes)) (bytes_fault n (drop 2 bytes)))

abbrev found : Direction → List ℕ → Result (Direction × List ℕ) FieldFault
found d bytes = Ok (d, bytes)

rest-direction : (p q : Bool) (bytes : List ℕ) → rest_of (of_field (cond p (found Commit bytes) (cond q (found Rollback bytes) (Err Limit)))) ≡ cond (p || q) (Ok bytes) (Err Field)
rest-direction true q bytes = refl
rest-direction false true bytes = refl
rest-direction false false bytes = refl

pub direction_fault : (bytes : List ℕ) → rest_of (of_field (direction_at bytes)) ≡ after_direction bytes
unfolding direction_at
direction_fault [] = refl
direction_fault (b ∷ bytes) = rest-direction (eqb b 1) (eqb b 2) bytes

named_fault : (bytes : List ℕ) (o : Option (Triple × ℕ)) → rest_of (of_field (named bytes o)) ≡ behind bytes o
named_fault bytes None = refl
named_fault bytes (Some x) = refl

pub name_fault : (bytes : List ℕ) → rest_of (of_field (name_at bytes)) ≡ after_xid bytes
unfolding name_at
name_fault bytes = named_fault bytes (xid_at bytes)
