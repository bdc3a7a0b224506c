use Rattle.std.proofs.Common.{◌≡◌, ◌<◌, ◌++◌, length, All}
use Rattle.xa_xid.specs.Spelling.{hex}
use Rattle.xa_xid.proofs.text.unhex.Given as goal

abbrev pub invariant-loop-rest : goal.invariant-loop-rest
invariant-loop-rest l = All (λ b. b < 256) l.bytes.items × (l.fn.text ≡ hex l.bytes.items ++ l.rest)

abbrev pub decreases-loop-rest : goal.decreases-loop-rest
decreases-loop-rest l = length l.rest
