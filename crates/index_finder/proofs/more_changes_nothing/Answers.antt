use Rattle.index_finder.proofs.Allowances.{more_for}
use Rattle.index_finder.proofs.more_changes_nothing.Goals as goal

pub returns : goal.returns
returns g c = λ kind. more_for kind
