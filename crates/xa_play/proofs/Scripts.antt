-- What a read up to a limit tells of a reader's bytes.
use Rattle.std.proofs.Common.{◌≡◌, ◌⊎◌, ℕ, ◌<◌, ◌≤◌, List, length, take, Option, Some, None, IfOk, IfSome, OnErr, OnOk, Result, Ok, Err, ◌∙◌, ap, arith, inl, inr, length-take, sym, subst}
use Rattle.std.specs.Prelude.{IsErrOf}
use Rattle.std.specs.Option.{option_map}
use Rattle.std.proofs.lemmas.Bool.{cases_lt}
use Rattle.std.proofs.lemmas.List.{take_all}
use Rattle.xa_play.specs.declared.fault.PlayFault.{PlayFault}
use Rattle.xa_play.specs.declared.fault.PlayFault.TheVariants.{Memory, Read, TooLong}

-- the bytes up to a limit, where they are known
abbrev IsFront : ℕ → List ℕ → Option (List ℕ) → Type 0
IsFront limit items known = IfSome (option_map (take limit) known) (λ xs. items ≡ xs)

-- less than the limit is all
whole_read : (limit : ℕ) (items : List ℕ) (known : Option (List ℕ)) → IsFront limit items known → length items < limit → IfSome known (λ bytes. items ≡ bytes)
whole_read limit items None h below = tt
whole_read limit items (Some bytes) h below =
    let all : length bytes ≤ limit = omega (arith, length-take limit bytes, ap length h) in
    h ∙ take_all limit bytes all

-- as many as the limit are no more than there are
limit_read : (limit : ℕ) (items : List ℕ) (known : Option (List ℕ)) → IsFront limit items known → limit ≤ length items → IfSome known (λ bytes. limit ≤ length bytes)
limit_read limit items None h reached = tt
limit_read limit items (Some bytes) h reached = omega (arith, length-take limit bytes, ap length h)

-- the four ends of a reading, of a list that is seen in what was read
abbrev pub Reads : {V : Type 0} → Result V PlayFault → V → List ℕ → Option (List ℕ) → Type 0
Reads r script items known =
    (r ≡ Err Memory) ⊎ (r ≡ Err Read) ⊎ ((r ≡ Err TooLong) × IfSome known (λ bytes. 16_777_216 < length bytes))
    ⊎ ((r ≡ Ok script) × (length items ≤ 16_777_216) × IfSome known (λ bytes. items ≡ bytes))

pub reads : {V E : Type 0} (read : Result ℕ E) (r : Result V PlayFault) (script : V) (items : List ℕ) (known : Option (List ℕ)) →
    OnErr read (IsErrOf r Memory ⊎ IsErrOf r Read) → OnOk read (16_777_216 < length items → IsErrOf r TooLong) →
    OnOk read (length items ≤ 16_777_216 → r ≡ Ok script) → OnOk read (IsFront 16_777_217 items known) → Reads r script items known
reads (Err e) r script items known failed long short front = elim failed [ inl h ↦ inl h | inr h ↦ inr (inl h) ]
reads (Ok n) r script items known failed long short front =
    elim (cases_lt 16_777_216 (length items)) [
      | inl lt ↦ inr (inr (inl (long lt, longer known (limit_read 16_777_217 items known front (omega arith)))))
      | inr le ↦ inr (inr (inr (short le, le, whole_read 16_777_217 items known front (omega arith))))
    ]
  where
    longer : (known : Option (List ℕ)) → IfSome known (λ bytes. 16_777_217 ≤ length bytes) → IfSome known (λ bytes. 16_777_216 < length bytes)
    longer None h = tt
    longer (Some bytes) h = omega arith

pub if_ok : {V : Type 0} (r : Result V PlayFault) (script : V) (P : V → Type 0) → r ≡ Ok script → P script → IfOk r P
if_ok r script P e p = subst (λ r. IfOk r P) (sym e) p

pub if_err : {V : Type 0} (r : Result V PlayFault) (fault : PlayFault) (P : V → Type 0) → r ≡ Err fault → IfOk r P
if_err {V} r fault P e = let none : IfOk {T = V} (Err fault) P = tt in subst (λ r. IfOk r P) (sym e) none
