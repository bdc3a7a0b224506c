-- Words of the code, as contracts have them.
use Rattle.std.specs.Prelude.{ℕ, Option, List, Vec, option_map}
use Rattle.std.specs.declared.alloc.Global.{Global}
use Rattle.mv_chain.specs.declared.fate.Fate.{Fate}
use Rattle.mv_chain.specs.declared.fate.Fate.TheVariants.{Committed, RolledBack}
use Rattle.xa_codes.specs.declared.direction.Direction.{Direction}
use Rattle.xa_codes.specs.declared.direction.Direction.TheVariants.{Commit, Rollback}

-- the fate of a branch that is completed in this direction
abbrev pub fate_of : Direction → Fate
fate_of Commit = Committed
fate_of Rollback = RolledBack

-- the bytes of a value
abbrev pub items_of : Option (Vec ℕ Global) → Option (List ℕ)
items_of value = option_map (λ v. v.items) value
