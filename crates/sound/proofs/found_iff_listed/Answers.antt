use Rattle.sound.proofs.Found.{found_iff_listed}
use Rattle.sound.proofs.found_iff_listed.Goals as goal

pub returns : goal.returns
returns c = found_iff_listed
