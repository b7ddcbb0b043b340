use Rattle.index_run.proofs.More.{more_changes_nothing}
use Rattle.claims.proofs.more_allowance.Goals as goal

pub returns : goal.returns
returns c = more_changes_nothing
