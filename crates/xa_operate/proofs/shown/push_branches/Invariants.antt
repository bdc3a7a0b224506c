use Rattle.std.proofs.Common.{◌≡◌, ◌++◌, take}
use Rattle.xa_operate.specs.Shown.{shown_lines}
use Rattle.xa_operate.proofs.shown.push_branches.Given as goal

abbrev pub invariant-loop-branch : goal.invariant-loop-branch
invariant-loop-branch l = l.text.items ≡ l.initial.text.items ++ shown_lines l.format l.task (take l.branch-index l.branches)
