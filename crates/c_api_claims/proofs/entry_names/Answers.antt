use Rattle.c_api_claims.proofs.Words.{entry_names}
use Rattle.c_api_claims.proofs.entry_names.Goals as goal

pub returns : goal.returns
returns c = entry_names
