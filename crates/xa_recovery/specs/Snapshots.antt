-- Bodies of records, one after another.
use Rattle.std.specs.Prelude.{◌≡◌, ℕ, List, ◌++◌, map, Vec}
use Rattle.std.specs.declared.alloc.Global.{Global}
use Rattle.xa_codes.specs.declared.direction.Direction.{Direction}
use Rattle.xa_codes.specs.declared.write.Write.{Write}
use Rattle.xa_xid.specs.Triple.{Triple}
use Rattle.xa_record.specs.Spelling.{spelled}
use Rattle.xa_model.specs.Fold.{base, held, known}
use Rattle.xa_recovery.specs.declared.durable.InDoubt.{InDoubt}
use Rattle.xa_recovery.specs.Durable.{as_committed, as_prepared, as_decided}

-- the bytes of bodies
abbrev pub bytes_of : List (Vec ℕ Global) → List (List ℕ)
bytes_of bodies = map (λ b. b.items) bodies

-- these bodies stand after those that were there
abbrev pub Puts : Vec (List ℕ) Global → List (List ℕ) → Vec (List ℕ) Global → Type 0
Puts old more new = new.items ≡ old.items ++ more

-- the body of an entry: of a committed branch, of one in doubt, of what the operator decided

abbrev pub base_body : (ℕ × List Write) → List ℕ
base_body e = spelled (base (as_committed e))

abbrev pub held_body : (ℕ × InDoubt) → List ℕ
held_body e = spelled (held (as_prepared e))

abbrev pub known_body : (Triple × Direction) → List ℕ
known_body e = spelled (known (as_decided e))
