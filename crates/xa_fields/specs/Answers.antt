-- What a reading answers.
use Rattle.std.specs.Prelude.{◌≡◌, Result, Ok, Err}

-- what a function returned, seen by view, is what the definition reads
abbrev pub Gives : {X Y F : Type 0} → (X → Y) → Result X F → Result Y F → Type 0
Gives view (Ok x) read = read ≡ Ok (view x)
Gives view (Err e) read = read ≡ Err e
