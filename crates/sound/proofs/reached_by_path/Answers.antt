use Rattle.sound.proofs.Fit.{reached_by_path}
use Rattle.sound.proofs.reached_by_path.Goals as goal

pub returns : goal.returns
returns c = reached_by_path
