use Rattle.xa_model.proofs.SoundTurns.{step_sound}
use Rattle.xa_model.proofs.laws.sound.Goals as goal

pub returns : goal.returns
returns c = step_sound
