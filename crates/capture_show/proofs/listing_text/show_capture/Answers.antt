use Rattle.std.proofs.Common.{codes}
use Rattle.capture.specs.Format.{parsed}
use Rattle.capture_line.specs.Text.{ended}
use Rattle.capture_show.specs.Text.{lines_of}
use Rattle.capture_show.proofs.FrontLemmas.{front_more, front_longer}
use Rattle.capture_show.proofs.listing_text.show_capture.Goals as goal

pub returns-in_err-write_front-clause-front : goal.returns-in_err-write_front-clause-front
returns-in_err-write_front-clause-front g c = front_longer _ _ (ended (codes "entries")) (lines_of (parsed c.args.input.now)) c.write_front.ensures.front

pub returns-clause-front : goal.returns-clause-front
returns-clause-front g c =
    front_more _ _ _ (ended (codes "entries")) (lines_of (parsed c.args.input.now)) c.in_ok-write_front.ensures.ok c.write_capture.ensures.front
