use Rattle.std.proofs.Common.{refl}
use Rattle.xa_model.proofs.examples.worked_low_water.Goals as goal

pub returns : goal.returns
returns c = record {
  when_new = refl;
  when_begun = refl;
  when_two = refl;
  when_later_ends = refl;
  when_prepared = refl;
  when_first_ends = refl;
  when_decided = refl;
  when_all_end = refl;
  when_later_and_first_end = refl;
}
