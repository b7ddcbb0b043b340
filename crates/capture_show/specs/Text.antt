-- The text that the program writes of what it reads.
use Rattle.std.specs.Prelude.{ℕ, zero, suc, List, [], ◌++◌, take, codes, Option, Some, None, Result, Ok, Err}
use Rattle.std.specs.List.{concat}
use Rattle.refusal.specs.declared.Refusal.{Refusal}
use Rattle.directory.specs.Answer.{Answered}
use Rattle.directory.specs.Directory.{spent_at}
use Rattle.directory.specs.Lent.{EntryPlaced, Lent}
use Rattle.index.specs.declared.cursor.Cursor.{Cursor}
use Rattle.index.specs.Cursor.{new_cursor}
use Rattle.index.specs.Step.{step}
use Rattle.capture.specs.Format.{Contents, parsed}
use Rattle.capture_line.specs.Text.{ended, line_of, opened_line, refused_line}

-- of a capture 65,536 bytes are read: one more than the longest has
abbrev pub most_read : ℕ
most_read = 65536

-- as many records as are opened for a listing
abbrev pub allowance : ℕ
allowance = 64

-- more steps than a capture takes
abbrev pub most_steps : ℕ
most_steps = 32768

-- the directory that a capture holds
abbrev pub directory_of : Contents → Lent
directory_of capture = record { root = capture.root; pool = concat capture.records; cluster_size = capture.cluster_size }

-- an entry's line, and then the rest; or the closing line
abbrev pub entry_text : Option EntryPlaced → ℕ → List ℕ → List ℕ
entry_text (Some entry) opened rest = line_of entry.bytes ++ rest
entry_text None opened rest = opened_line opened

abbrev pub answer_text : Answered → List ℕ → List ℕ
answer_text (Ok told) rest = entry_text told.entry told.opened rest
answer_text (Err fault) rest = refused_line fault.refusal

-- the lines of so many steps from a cursor on
unfoldable pub lines_from : ℕ → Lent → Cursor → List ℕ
lines_from zero d cursor = []
lines_from (suc more) d cursor = answer_text (step d (spent_at allowance) cursor).answer (lines_from more d (step d (spent_at allowance) cursor).cursor)

abbrev pub lines_of : Result Contents Refusal → List ℕ
lines_of (Ok capture) = lines_from most_steps (directory_of capture) new_cursor
lines_of (Err refusal) = refused_line refusal

-- the listing of a capture
abbrev pub listing_text : List ℕ → List ℕ
listing_text capture = ended (codes "entries") ++ lines_of (parsed capture)

-- all that is written of an input
abbrev pub output_of : List ℕ → List ℕ
output_of input = listing_text (take most_read input)
