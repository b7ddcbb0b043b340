use Rattle.index_run.proofs.More.{full_listing}
use Rattle.claims.proofs.full_listing.Goals as goal

pub returns : goal.returns
returns c = full_listing
