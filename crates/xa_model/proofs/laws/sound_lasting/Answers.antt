use Rattle.std.proofs.Common.{◌≡◌, arith}
use Rattle.std.proofs.lemmas.Bool.Decides.{nat_tests}
use Rattle.xa_model.specs.State.{holders_of}
use Rattle.xa_model.proofs.Doubts.{prepared_sound, decided_sound, forgotten_sound}
use Rattle.xa_model.proofs.laws.sound_lasting.Goals as goal

pub returns-clause-prepared : goal.returns-clause-prepared
returns-clause-prepared c = λ s xid h idle.
    let free : holders_of s.associations xid ≡ 0 = grind (arith, nat_tests) in prepared_sound s xid h free

pub returns-clause-decided : goal.returns-clause-decided
returns-clause-decided c = decided_sound

pub returns-clause-forgotten : goal.returns-clause-forgotten
returns-clause-forgotten c = forgotten_sound
