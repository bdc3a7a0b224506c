-- What a report of receipts becomes.
use Rattle.std.specs.Prelude.{ℕ, ◌≡◌, ◌⊎◌, ◌+◌, ◌-◌, ◌^◌, min, [], ◌∷◌, ◌++◌, length, Option, None, Some}
use Rattle.xa_history.specs.declared.receipt.Receipt.{Receipt}
use Rattle.xa_server.specs.declared.report.Report.{Report}

-- a count that stops at the greatest number
abbrev pub counted : ℕ → ℕ
counted n = min n (2 ^ 64 - 1)

-- it counts one more that found no memory
abbrev pub Drops : Report → Report → Type 0
Drops old new = (new.receipts.items ≡ old.receipts.items) × (new.dropped ≡ counted (old.dropped + 1))

-- a receipt comes after the others, or finds no memory
abbrev pub Keeps : Report → Option Receipt → Report → Type 0
Keeps old None new = Drops old new
Keeps old (Some r) new =
    ((new.receipts.items ≡ old.receipts.items ++ r ∷ []) × (new.dropped ≡ old.dropped)) ⊎ Drops old new

-- the receipts of both, and what both dropped; or those of the other found no memory, and were dropped, too
abbrev pub Joins : Report → Report → Report → Type 0
Joins one other new =
    ((new.receipts.items ≡ one.receipts.items ++ other.receipts.items)
    × (new.dropped ≡ counted (one.dropped + other.dropped)))
    ⊎ ((new.receipts.items ≡ one.receipts.items)
    × (new.dropped ≡ counted (counted (one.dropped + other.dropped) + length other.receipts.items)))
