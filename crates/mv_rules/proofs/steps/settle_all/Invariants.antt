use Rattle.std.proofs.Common.{take}
use Rattle.mv_chain.specs.Within.{KeepsWithin}
use Rattle.mv_rules.specs.Held.{IsHeld}
use Rattle.mv_rules.proofs.Listed.{SettledUpto}
use Rattle.mv_rules.proofs.steps.settle_all.Given as goal

abbrev pub invariant-loop-written : goal.invariant-loop-written
invariant-loop-written l = record {
  settled : IsHeld l.fn.pool l.fn.chains → SettledUpto l.ts l.fate (take l.written-index l.own) l.fn.pool l.fn.chains l.pool l.chains;
  within : KeepsWithin l.fn.pool l.pool;
}
