use Rattle.mv_rules.specs.Committed.{branches_in}
use Rattle.mv_rules.proofs.Passed.{IsGathered}
use Rattle.mv_rules.proofs.records.Records.committed.Given as goal

abbrev pub invariant-loop-key : goal.invariant-loop-key
invariant-loop-key l = IsGathered l.self l.key-iterator (branches_in l.committed.entries)
