use Rattle.sound.proofs.Whole.{pass}
use Rattle.sound.proofs.pass.Goals as goal

pub returns : goal.returns
returns c = pass
