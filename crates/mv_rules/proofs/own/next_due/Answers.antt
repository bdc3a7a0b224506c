use Rattle.std.proofs.Common.{◌≡◌, [], inl, inr, arith}
use Rattle.std.proofs.lemmas.Bool.Decides.{nat_tests}
use Rattle.mv_rules.specs.Tidy.{due, not_due}
use Rattle.mv_rules.proofs.Tidied.{none_due, is_not_due, has_first}
use Rattle.mv_rules.proofs.own.next_due.Goals as goal
use Rattle.mv_rules.proofs.own.next_due.Goals.{in-Some+then-ts-low, in-Some+else-ts-low, in-None}

stuck : (c : goal.Then-not-is_due) → (due c.args.low c.args.notes.now.entries ≡ []) × (c.args.notes.now.entries ≡ not_due c.args.low c.args.notes.now.entries)
stuck c = none_due c.args.low c.args.notes.now.entries (λ e here. elim c.match-first_key_value.branch [
  | in-Some+then-ts-low w ↦ is_not_due c.args.low w.in-Some.ts.now w.in-Some.noted.now c.args.notes.now.entries e w.in-Some.ensures.first here (inr (grind (arith, nat_tests, w.is_empty.ensures, w.is_due-is, c.if-not-is_due.true, w.in-Some.noted.now.written.ok.0)))
  | in-Some+else-ts-low w ↦ is_not_due c.args.low w.in-Some.ts.now w.in-Some.noted.now c.args.notes.now.entries e w.in-Some.ensures.first here (inl (grind (arith, nat_tests, w.if-ts-low.false)))
  | in-None w ↦ absurd (cc (w.in-None.ensures.variant.1 (has_first c.args.notes.now.entries e here)))
])

pub returns-then-not-is_due-clause-none : goal.returns-then-not-is_due-clause-none
returns-then-not-is_due-clause-none c = (stuck c).0

pub returns-then-not-is_due-clause-left : goal.returns-then-not-is_due-clause-left
returns-then-not-is_due-clause-left c = (stuck c).1
