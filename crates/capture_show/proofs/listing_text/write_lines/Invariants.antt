use Rattle.std.proofs.Common.{◌-◌}
use Rattle.directory.specs.Seen.{lent}
use Rattle.index.specs.Cursor.{new_cursor}
use Rattle.capture_show.specs.Text.{most_steps, lines_from}
use Rattle.capture_show.proofs.FrontLemmas.{Written}
use Rattle.capture_show.proofs.listing_text.write_lines.Given as goal

-- what is left are the lines of the steps that are left
abbrev pub invariant-loop-step : goal.invariant-loop-step
invariant-loop-step g l =
    Written (g.W.Write.contents l.fn.writer) (g.W.Write.contents l.writer) (lines_from most_steps (lent l.directory) new_cursor)
    (lines_from (most_steps - l.step) (lent l.directory) l.cursor)
