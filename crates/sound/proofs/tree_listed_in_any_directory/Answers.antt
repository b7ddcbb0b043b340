use Rattle.sound.proofs.AnyDirectory.{tree_listed_in_any_directory}
use Rattle.sound.proofs.tree_listed_in_any_directory.Goals as goal

pub returns : goal.returns
returns c = tree_listed_in_any_directory
