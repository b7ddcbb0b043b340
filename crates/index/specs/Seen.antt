-- The code's answers, as the definitions have them.
use Rattle.std.specs.Prelude.{List, [], Option, Some, None, Result, Ok, Err}
use Rattle.refusal.specs.declared.Fault.{Fault}
use Rattle.refusal.specs.declared.Refusal.{Refusal}
use Rattle.directory.specs.declared.answer.Answer.{Answer}
use Rattle.directory.specs.declared.node.PlacedEntry.{PlacedEntry}
use Rattle.directory.specs.Seen.{entry_seen, told, answer_seen}
use Rattle.index.specs.declared.cursor.Cursor.{Cursor}
use Rattle.index.specs.declared.cursor.Level.{Level}
use Rattle.index.specs.declared.steps.Turned.{Turned}
use Rattle.index.specs.declared.steps.Turned.TheVariants.{Yields, Ends, GoesOn}
use Rattle.index.specs.declared.steps.Stepped.{Stepped}
use Rattle.index.specs.Cursor.{levels_of}
use Rattle.index.specs.Step.{Turn, yields, ends, refuses, goes_on, Outcome, comes_out, StepTaken}

abbrev pub turned : Result Turned Refusal → Cursor → Turn
turned (Ok (Yields entry)) cursor = yields (entry_seen entry) cursor.opened (levels_of cursor)
turned (Ok Ends) cursor = ends cursor.opened
turned (Ok GoesOn) cursor = goes_on (levels_of cursor) cursor.opened
turned (Err refusal) cursor = refuses refusal cursor.opened

abbrev pub levels_left : Result (Option PlacedEntry) Refusal → Cursor → List Level
levels_left (Ok (Some entry)) cursor = levels_of cursor
levels_left (Ok None) cursor = levels_of cursor
levels_left (Err refusal) cursor = []

abbrev pub came_out : Result (Option PlacedEntry) Refusal → Cursor → Outcome
came_out outcome cursor = comes_out (told outcome cursor.opened) (levels_left outcome cursor)

abbrev pub taken : Result Answer Fault → Cursor → StepTaken
taken answer cursor = record { answer = answer_seen answer; cursor = cursor }

abbrev pub stepped : Stepped → StepTaken
stepped its = taken its.answer its.cursor

-- p, where a turn has come to the end
abbrev pub AtEnd : Result Turned Refusal → Type 0 → Type 0
AtEnd (Ok Ends) p = p
AtEnd (Ok GoesOn) p = Unit {0}
AtEnd (Ok (Yields entry)) p = Unit {0}
AtEnd (Err refusal) p = Unit {0}
