use Rattle.claims.proofs.Leaves.{split}
use Rattle.claims.proofs.reference_split.Goals as goal

pub returns : goal.returns
returns c = split
