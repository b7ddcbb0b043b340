use Rattle.std.proofs.Common.{arith}
use Rattle.std.proofs.lemmas.Grind.{common_steps}
use Rattle.capture_show.proofs.FrontLemmas.{front_same}
use Rattle.capture_show.proofs.listing_text.write_capture.Goals as goal

pub returns-in-Ok-clause-front : goal.returns-in-Ok-clause-front
returns-in-Ok-clause-front g c = front_same _ _ _ _ c.write_lines.ensures.front (grind (arith, common_steps))

pub returns-in-Err-clause-front : goal.returns-in-Err-clause-front
returns-in-Err-clause-front g c = front_same _ _ _ _ c.write_front.ensures.front (grind (arith, common_steps))
