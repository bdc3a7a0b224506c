use Rattle.std.proofs.Common.{◌+◌, ◌++◌, [], ◌∷◌, List, Option, subst, sym, take}
use Rattle.std.specs.List.{AllByRecursion}
use Rattle.xa_frame.specs.Limits.{IsRequest}
use Rattle.xa_handles.specs.Mail.{AreLetters, IsCallOf, Mailed}
use Rattle.xa_handles.proofs.Letters.{all_more, one_more, take_more}
use Rattle.xa_manager.specs.declared.together.Asked.{Asked}
use Rattle.xa_handles.proofs.mail.copy_calls.Goals as goal

pub loop-letter-preserved : goal.loop-letter-preserved
loop-letter-preserved g c =
    let was = c.loop-letter.invariant in
    let items = sym (c.if-not-push.ensures) in
    let letters = sym (take_more c.args.letters.now c.loop-letter.letter-index c.letter-item.result c.loop-letter-test.true) in
    record {
      so_far = subst (λ (cs : List Asked). AreLetters (take (c.loop-letter.letter-index + 1) c.args.letters.now) cs) items
          (subst (λ (ls : List (Option Mailed)). AreLetters ls (c.loop-letter.calls.items ++ c.in-Some.call ∷ [])) letters
          (one_more (take c.loop-letter.letter-index c.args.letters.now) c.loop-letter.calls.items _ c.in-Some.call was.so_far
          (subst (λ (l : Option Mailed). IsCallOf l c.in-Some.call) c.letter-item.is c.in-Some.ensures.is)));
      limits = subst (λ (cs : List Asked). AllByRecursion (λ x. IsRequest x.request) cs) items (all_more c.loop-letter.calls.items c.in-Some.call was.limits c.in-Some.ensures.limits);
    }
