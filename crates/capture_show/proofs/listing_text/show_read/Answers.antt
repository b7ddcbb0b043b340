use Rattle.std.proofs.Common.{◌≡◌, length, arith}
use Rattle.std.proofs.lemmas.Grind.{common_steps}
use Rattle.std.proofs.lemmas.Result.{on_ok_weaker}
use Rattle.capture_show.specs.Text.{most_read}
use Rattle.capture_show.proofs.TextLemmas.{known_read, shown, shown_front}
use Rattle.capture_show.proofs.listing_text.show_read.Goals as goal

pub returns-clause-ok : goal.returns-clause-ok
returns-clause-ok g c =
    let full : length c.read_front-length.new.buffer ≡ most_read = grind (arith, common_steps) in
    let read = known_read _ _ _ _ _ _ full c.read_front-length.ensures.bound c.read_front-length.ensures.bytes c.in_ok-ended.was c.read_front-length.ensures.end in
    on_ok_weaker c.show_capture.result (λ wrote. shown _ _ _ _ read wrote) c.show_capture.ensures.ok

pub returns-clause-front : goal.returns-clause-front
returns-clause-front g c =
    let full : length c.read_front-length.new.buffer ≡ most_read = grind (arith, common_steps) in
    let read = known_read _ _ _ _ _ _ full c.read_front-length.ensures.bound c.read_front-length.ensures.bytes c.in_ok-ended.was c.read_front-length.ensures.end in
    shown_front _ _ _ _ read c.show_capture.ensures.front
