use Rattle.c_api_claims.proofs.Words.{numbers_name}
use Rattle.c_api_claims.proofs.numbers_name.Goals as goal

pub returns : goal.returns
returns c = numbers_name
