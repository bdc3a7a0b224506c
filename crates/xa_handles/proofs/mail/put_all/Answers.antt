use Rattle.std.proofs.Common.{List, [], ◌∷◌, ap, arith, length}
use Rattle.std.proofs.lemmas.List.{length-append}
use Rattle.std.specs.Prelude.{Option}
use Rattle.xa_handles.specs.Mail.{Mailed}
use Rattle.xa_handles.proofs.Letters.{moved, skipped}
use Rattle.xa_handles.proofs.mail.put_all.Goals as goal

pub loop-slot-preserved-in_default-put : goal.loop-slot-preserved-in_default-put
loop-slot-preserved-in_default-put g c = record {
  less = omega (arith, c.loop-slot.invariant.less, ap (λ (xs : List (Option Mailed)). length xs) c.in-Some.ensures.items, length-append c.pop.new.self.items (c.in-Some.slot ∷ []));
  weighs = λ weigh.
      moved weigh c.loop-slot.letters.items c.pop.new.self.items c.loop-slot.trays c.put.new.self c.in-Some.slot c.in-Some-slot.letter _
      (c.loop-slot.invariant.weighs weigh) c.in-Some.ensures.items c.in-Some-slot.is c.in_default-put.ensures;
}

pub loop-slot-preserved : goal.loop-slot-preserved
loop-slot-preserved g c = record {
  less = omega (arith, c.loop-slot.invariant.less, ap (λ (xs : List (Option Mailed)). length xs) c.in-Some.ensures.items, length-append c.pop.new.self.items (c.in-Some.slot ∷ []));
  weighs = λ weigh.
      skipped weigh c.loop-slot.letters.items c.pop.new.self.items c.in-Some.slot _ _ (c.loop-slot.invariant.weighs weigh) c.in-Some.ensures.items c.in_default-slot.is;
}
