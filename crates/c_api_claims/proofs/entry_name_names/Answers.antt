use Rattle.c_api_claims.proofs.Named.{tells_name}
use Rattle.c_api_claims.proofs.entry_name_names.Goals as goal

pub returns : goal.returns
returns c = tells_name
