use Rattle.sound.proofs.Tree.{tree_listed}
use Rattle.sound.proofs.tree_listed.Goals as goal

pub returns : goal.returns
returns c = tree_listed
