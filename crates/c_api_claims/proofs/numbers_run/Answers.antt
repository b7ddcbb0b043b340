use Rattle.c_api_claims.proofs.Run.{words_run}
use Rattle.c_api_claims.proofs.numbers_run.Goals as goal

pub returns : goal.returns
returns c = words_run
