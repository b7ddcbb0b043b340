use Rattle.sound.proofs.AnyDirectory.{none_lost_in_any_directory}
use Rattle.sound.proofs.none_lost_in_any_directory.Goals as goal

pub returns : goal.returns
returns c = none_lost_in_any_directory
