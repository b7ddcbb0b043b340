-- The levels read so far.
use Rattle.std.proofs.Common.{◌≡◌, length, take}
use Rattle.c_api.specs.Words.{levels_from}
use Rattle.c_api.proofs.cursor.cursor_from.Given as goal

abbrev pub invariant-loop-at : goal.invariant-loop-at
invariant-loop-at l = (length l.level-items ≡ 8) × (take l.at l.level-items ≡ levels_from l.at l.words)
