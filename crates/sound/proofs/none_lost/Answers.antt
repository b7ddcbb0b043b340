use Rattle.sound.proofs.Tree.{none_lost}
use Rattle.sound.proofs.none_lost.Goals as goal

pub returns : goal.returns
returns c = none_lost
