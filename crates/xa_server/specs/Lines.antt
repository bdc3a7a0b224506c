-- The lines that show what is told of a history.
use Rattle.std.specs.Prelude.{ℕ, ◌==◌, Bool, true, false, List, [], ◌∷◌, ◌++◌, codes, if◌then◌else◌}
use Rattle.std.specs.Fmt.{decimal}
use Rattle.xa_server.specs.declared.audited.Audited.{Audited}

abbrev pub found_word : Bool → List ℕ
found_word true = codes "ok"
found_word false = codes "failed"

-- the line of receipts that were dropped, if there are any, and then the others
abbrev pub with_dropped : ℕ → List ℕ → List ℕ
with_dropped n lines = (if n == 0 then lines else codes "receipts dropped " ++ (decimal n ++ 10 ∷ lines))

-- how many entries it has, how many receipts were dropped, and what its audit found
abbrev pub lines_of : Audited → List ℕ
lines_of told = codes "calls " ++ (decimal told.calls
    ++ 10 ∷ with_dropped told.dropped (codes "audit " ++ (found_word told.is_whole ++ 10 ∷ [])))
