use Rattle.sound.proofs.CodeWalks.{code_walks_so}
use Rattle.sound.proofs.code_walks_so.Goals as goal

pub returns : goal.returns
returns c = code_walks_so
