use Rattle.std.proofs.Common.{◌≡◌, ◌++◌, take}
use Rattle.xa_script.specs.Replies.{branches_text}
use Rattle.xa_script.proofs.reply.push_branches.Given as goal

abbrev pub invariant-loop-branch : goal.invariant-loop-branch
invariant-loop-branch l = l.line.items ≡ l.initial.line.items ++ branches_text (take l.branch-index l.branches)
