-- What asks a server to shut down.
use Rattle.std.specs.Prelude.{ℕ, List, [], ◌∷◌}

-- the number of the operation
abbrev pub shutdown_operation : ℕ
shutdown_operation = 69

-- the version, the operation, no field
abbrev pub shutdown_content : List ℕ
shutdown_content = 1 ∷ shutdown_operation ∷ []
