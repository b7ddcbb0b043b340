use Rattle.index_run.proofs.More.{full_listing}
use Rattle.index_run.proofs.full_listing.Goals as goal

pub returns : goal.returns
returns c = full_listing
