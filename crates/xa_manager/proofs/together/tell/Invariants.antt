use Rattle.std.proofs.Common.{◌≡◌, ◌≤◌, length, map, take, vec_capacity}
use Rattle.xa_manager.specs.GroupAnswers.{told}
use Rattle.xa_manager.proofs.together.tell.Given as goal

abbrev pub invariant-members : goal.invariant-members
invariant-members l = record {
  told : l.replies.items ≡ map (told l.answer) (take l.member-index l.members);
  room : length l.members ≤ vec_capacity l.replies;
}
