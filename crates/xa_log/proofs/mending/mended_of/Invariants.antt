use Rattle.std.proofs.Common.{◌≡◌, ◌≤◌, List, ℕ}
use Rattle.xa_log.specs.Believed.LeftOut.{mended}
use Rattle.xa_log.specs.Shown.{IsFrontOf}
use Rattle.xa_log.specs.declared.format.Format.{Format}
use Rattle.xa_log.proofs.mending.mended_of.Given as goal

abbrev pub invariant-bits : goal.invariant-bits
invariant-bits l = record {
  within : l.bit ≤ 32;
  same : (format : Format) (bytes : List ℕ) → IsFrontOf l.fn.front bytes → mended format l.fn.prev bytes 32 ≡ mended format l.fn.prev bytes l.bit;
}

abbrev pub decreases-bits : goal.decreases-bits
decreases-bits l = l.bit
