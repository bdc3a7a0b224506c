-- Which boundaries each reader's ranges have, until the low water has passed it.
use Rattle.std.specs.Prelude.{ℕ, ◌<◌, Vec}
use Rattle.std.specs.List.{All}
use Rattle.std.specs.BTreeMap.{BTreeMap, keys}
use Rattle.std.specs.declared.alloc.Global.{Global}

abbrev pub Notes : Type 0
Notes = BTreeMap ℕ (Vec (Vec ℕ Global) Global)

-- the low water has passed no reader of which something is noted
abbrev pub IsDrained : ℕ → Notes → Type 0
IsDrained low notes = All (λ reader. low < reader) (keys notes)
