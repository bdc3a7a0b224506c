use Rattle.std.proofs.Common.{take}
use Rattle.std.specs.List.{AllByRecursion}
use Rattle.xa_frame.specs.Limits.{IsRequest}
use Rattle.xa_handles.specs.Mail.{AreLetters}
use Rattle.xa_handles.proofs.mail.copy_calls.Given as goal

abbrev pub invariant-loop-letter : goal.invariant-loop-letter
invariant-loop-letter g l = record {
  so_far : AreLetters (take l.letter-index l.letters) l.calls.items;
  limits : AllByRecursion (λ c. IsRequest c.request) l.calls.items;
}
