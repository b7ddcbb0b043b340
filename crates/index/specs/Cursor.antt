-- A cursor, and its levels as a list.
use Rattle.std.specs.Prelude.{zero, suc, ℕ, ◌≡◌, ◌≤◌, List, [], ◌∷◌, length, slice_index_or, slice_set, replicate, Option, None}
use Rattle.directory.specs.Limits.{level_limit}
use Rattle.refusal.specs.declared.Refusal.{Refusal}
use Rattle.index.specs.declared.cursor.NodeName.TheVariants.{Root}
use Rattle.index.specs.declared.cursor.Stage.TheVariants.{Fresh}
use Rattle.index.specs.declared.cursor.Level.{Level}
use Rattle.index.specs.declared.cursor.Cursor.{Cursor}

abbrev pub blank : Level
blank = record { node = Root; next = 0; stage = Fresh }

-- the levels in use, the deepest first
unfoldable pub frames : List Level → ℕ → List Level
frames slots zero = []
frames slots (suc depth) = slice_index_or slots depth blank ∷ frames slots depth

abbrev pub levels_of : Cursor → List Level
levels_of cursor = frames cursor.levels cursor.depth

-- the slots of such levels: the root first, blank past the deepest
unfoldable pub slots_of : List Level → List Level
slots_of [] = replicate level_limit blank
slots_of (level ∷ above) = slice_set (slots_of above) (length above) level

abbrev pub cursor_of : List Level → ℕ → Option Refusal → Cursor
cursor_of levels o kept = record { levels = slots_of levels; depth = length levels; opened = o; refusal = kept }

-- one level, the root, not begun
abbrev pub new_cursor : Cursor
new_cursor = cursor_of (blank ∷ []) 0 None

-- no more levels than there may be, and blank past the deepest
pub record IsTidy (cursor : Cursor) : Type 0 where
  pub within : cursor.depth ≤ level_limit
  pub blanks : cursor.levels ≡ slots_of (levels_of cursor)
