use Rattle.sound.proofs.Found.{found_or_not}
use Rattle.sound.proofs.found_or_not.Goals as goal

pub returns : goal.returns
returns c = found_or_not
