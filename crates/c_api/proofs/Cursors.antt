-- A cursor's numbers, a level at a time.
use Rattle.std.proofs.Common.{ℕ, ◌≡◌, ◌+◌, List, [], ◌∷◌, ◌++◌, slice_index_or, refl, add-one}
use Rattle.index.specs.declared.cursor.Level.{Level}
use Rattle.index.specs.Cursor.{blank}
use Rattle.c_api.specs.Words.{level_words, level_start, level_from, levels_words, levels_from}

pub levels_words-none : (levels : List Level) → levels_words 0 levels ≡ []
unfolding levels_words
levels_words-none levels = refl

pub levels_words-next : (levels : List Level) (n : ℕ) → levels_words (n + 1) levels ≡ levels_words n levels ++ level_words (slice_index_or levels n blank)
unfolding levels_words
levels_words-next levels n = rw (add-one n) refl

pub levels_from-none : (w : List ℕ) → levels_from 0 w ≡ []
unfolding levels_from
levels_from-none w = refl

pub levels_from-next : (w : List ℕ) (n : ℕ) → levels_from (n + 1) w ≡ levels_from n w ++ level_from w (level_start n) ∷ []
unfolding levels_from
levels_from-next w n = rw (add-one n) refl

pub ruleset of_levels = (levels_words-none, levels_words-next, levels_from-none, levels_from-next)
