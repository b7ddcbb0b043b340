-- The numbers written so far.
use Rattle.std.proofs.Common.{◌≡◌, ◌∷◌, length, take}
use Rattle.c_api.specs.Words.{kept_word, level_start, levels_words}
use Rattle.c_api.proofs.cursor.cursor_words.Given as goal

abbrev pub invariant-loop-at : goal.invariant-loop-at
invariant-loop-at l = (length l.words ≡ 43)
    × (take (level_start l.at) l.words ≡ l.cursor.depth ∷ l.cursor.opened ∷ kept_word l.cursor.refusal ∷ levels_words l.at l.cursor.levels)
