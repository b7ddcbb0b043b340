use Rattle.sound.proofs.AnyPaths.{reached_by_path_in_any_directory}
use Rattle.sound.proofs.reached_by_path_in_any_directory.Goals as goal

pub returns : goal.returns
returns c = reached_by_path_in_any_directory
