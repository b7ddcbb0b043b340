use Rattle.claims.proofs.Leaves.{names_total}
use Rattle.claims.proofs.names_are_total.Goals as goal

pub returns : goal.returns
returns c = names_total
