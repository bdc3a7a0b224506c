-- What an audit answers.
use Rattle.std.specs.Prelude.{◌≡◌, ℕ, ◌+◌, ◌-◌, ◌<◌, ◌⊎◌, Bool, true, false, ◌==◌, List, [], ◌∷◌, length, Some, slice_get, Result, Ok, Err}
use Rattle.std.specs.List.{list_any}
use Rattle.xa_history.specs.declared.receipt.Receipt.{Receipt}
use Rattle.xa_room.specs.declared.auditing.AuditFault.{AuditFault}
use Rattle.xa_room.specs.declared.auditing.AuditFault.TheVariants.{Count, Place, Repeats, Differs}

abbrev pub is_met : List ℕ → ℕ → Bool
is_met met place = list_any (λ q. q == place) met

-- there is no such place
abbrev pub IsOutside : List Receipt → Receipt → Type 0
IsOutside kept r = (r.place ≡ 0) ⊎ (length kept < r.place)

-- it is the room's receipt at its place
abbrev pub IsKept : List Receipt → Receipt → Type 0
IsKept kept r = slice_get kept (r.place - 1) ≡ Some r

-- the fault of the receipt of the index i, if these places were met before
abbrev pub HasFault : List Receipt → List ℕ → ℕ → Receipt → AuditFault → Type 0
HasFault kept met i r fault =
    (IsOutside kept r × (fault ≡ Place i r.place (length kept)))
    ⊎ (((IsOutside kept r → ⊥) × (is_met met r.place ≡ true) × (fault ≡ Repeats i))
    ⊎ ((IsOutside kept r → ⊥) × (is_met met r.place ≡ false) × (IsKept kept r → ⊥) × (fault ≡ Differs i)))

-- it has none
abbrev pub IsSound : List Receipt → List ℕ → Receipt → Type 0
IsSound kept met r = (IsOutside kept r → ⊥) × (is_met met r.place ≡ false) × IsKept kept r

-- The answer for the receipts from the index i on, if these places were met before: the fault of the first at fault,
-- or Ok.
abbrev pub Judges : List Receipt → List ℕ → ℕ → List Receipt → Result (Unit {0}) AuditFault → Type 0
Judges kept met i [] answer = answer ≡ Ok tt
Judges kept met i (r ∷ rs) answer =
    ((fault : AuditFault) × HasFault kept met i r fault × (answer ≡ Err fault))
    ⊎ (IsSound kept met r × Judges kept (r.place ∷ met) (i + 1) rs answer)

-- the room lost none of its receipts, and those that were told are as many as it kept, with those that were dropped
abbrev pub AddUp : List Receipt → ℕ → List Receipt → ℕ → Type 0
AddUp kept lost told dropped = (lost ≡ 0) × (length told + dropped ≡ length kept)

-- Count if they don't add up, otherwise as the receipts that were told are judged
abbrev pub Audits : List Receipt → ℕ → List Receipt → ℕ → Result (Unit {0}) AuditFault → Type 0
Audits kept lost told dropped answer =
    ((AddUp kept lost told dropped → ⊥) × (answer ≡ Err Count))
    ⊎ (AddUp kept lost told dropped × Judges kept [] 0 told answer)
