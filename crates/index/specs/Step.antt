-- A step of a listing, for any cursor, any memory and any allowance.
use Rattle.std.specs.Prelude.{zero, suc, ℕ, ◌+◌, ◌-◌, ◌*◌, nat_lt, Bool, true, false, List, [], ◌∷◌, length, if◌then◌else◌, Option, Some, None, Result, Ok, Err}
use Rattle.directory.specs.Limits.{level_limit}
use Rattle.refusal.specs.declared.Refusal.{Refusal}
use Rattle.refusal.specs.declared.Refusal.TheVariants.{TooManyLevels}
use Rattle.refusal.specs.Then.{◌>>=◌}
use Rattle.index_entry.specs.Entry.{is_last}
use Rattle.directory.specs.declared.place.Place.{Place}
use Rattle.directory.specs.declared.place.Place.TheVariants as places
use Rattle.directory.specs.Answer.{Answered, some, none, refused}
use Rattle.directory.specs.Lent.{Lent, Passed, EntryPlaced, NodeSeen}
use Rattle.directory.specs.Directory.{passed, root_node, subnode, again}
use Rattle.directory.specs.Node.{entry_in, entries_at, first}
use Rattle.index.specs.declared.cursor.NodeName.{NodeName}
use Rattle.index.specs.declared.cursor.NodeName.TheVariants.{Root, Record}
use Rattle.index.specs.declared.cursor.Stage.{Stage}
use Rattle.index.specs.declared.cursor.Stage.TheVariants.{Fresh, Going, Due, Ended}
use Rattle.index.specs.declared.cursor.Level.{Level}
use Rattle.index.specs.declared.cursor.Cursor.{Cursor}
use Rattle.index.specs.Cursor.{levels_of, cursor_of}

-- what a turn comes to
pub data Turn : Type 0 where
  yields : EntryPlaced → ℕ → List Level → Turn
  ends : ℕ → Turn
  refuses : Refusal → ℕ → Turn
  goes_on : List Level → ℕ → Turn

abbrev pub level_at : NodeName → ℕ → Stage → Level
level_at node next stage = record { node = node; next = next; stage = stage }

-- the node that a level is in, as it now stands: 13 to 17 for a record
unfoldable pub node_at : Passed → NodeName → Result NodeSeen Refusal
node_at d Root = Ok (root_node d)
node_at d (Record vcn) = again d vcn

-- by what a level keeps a node
abbrev pub name_of : Place → NodeName
name_of places.Root = Root
name_of (places.Record number vcn) = Record vcn

-- an entry without a subnode: yielded; after a LAST_ENTRY the level is over
abbrev pub passes : Bool → NodeName → ℕ → EntryPlaced → ℕ → List Level → Turn
passes true node at entry o above = goes_on above o
passes false node at entry o above = yields entry o (level_at node (at + length entry.bytes) Going ∷ above)

-- an entry whose subnode is entered: put off; after a LAST_ENTRY the level has ended
abbrev pub put_off : Bool → NodeName → ℕ → List ℕ → Level
put_off true node at entry = level_at node (at + length entry) Ended
put_off false node at entry = level_at node (at + length entry) (Due at)

abbrev pub on_subnode : Result (Option NodeSeen) Refusal → NodeName → ℕ → EntryPlaced → ℕ → List Level → Turn
on_subnode (Ok (Some below)) node at entry o above =
    goes_on (level_at (name_of below.place) below.start Going ∷ put_off (is_last entry.bytes) node at entry.bytes ∷ above) (o + 1)
on_subnode (Ok None) node at entry o above = passes (is_last entry.bytes) node at entry o above
on_subnode (Err refusal) node at entry o above = refuses refusal o

-- levels left below the deepest one, where so many stand above it
abbrev pub left_below : List Level → ℕ
left_below above = level_limit - (length above + 1)

abbrev pub on_entry : Passed → (ℕ → Bool) → Result EntryPlaced Refusal → NodeName → ℕ → ℕ → List Level → Turn
on_entry d spent (Ok entry) node at o above = on_subnode (subnode d (left_below above) (spent o) entry.bytes) node at entry o above
on_entry d spent (Err refusal) node at o above = refuses refusal o

abbrev pub on_next : Passed → (ℕ → Bool) → Option (Result EntryPlaced Refusal) → NodeName → ℕ → ℕ → List Level → Turn
on_next d spent (Some entry) node at o above = on_entry d spent entry node at o above
on_next d spent None node at o above = goes_on above o

-- an entry that was put off is yielded as it now stands; the node goes on at its kept next start
abbrev pub on_due : Result EntryPlaced Refusal → NodeName → ℕ → ℕ → List Level → Turn
on_due (Ok entry) node next o above = yields entry o (level_at node next Going ∷ above)
on_due (Err refusal) node next o above = refuses refusal o

abbrev pub by_stage : Passed → (ℕ → Bool) → Stage → NodeSeen → NodeName → ℕ → ℕ → List Level → Turn
by_stage d spent Fresh its node next o above = goes_on (level_at node its.start Going ∷ above) o
by_stage d spent Going its node next o above = on_next d spent (first (entries_at its next)) node next o above
by_stage d spent (Due at) its node next o above = on_due (entry_in its at) node next o above
by_stage d spent Ended its node next o above = goes_on above o

abbrev pub on_level : Passed → (ℕ → Bool) → Result NodeSeen Refusal → Level → ℕ → List Level → Turn
on_level d spent (Ok its) level o above = by_stage d spent level.stage its level.node level.next o above
on_level d spent (Err refusal) level o above = refuses refusal o

-- a turn: one look at the deepest level
unfoldable pub turn : Passed → (ℕ → Bool) → List Level → ℕ → Turn
turn d spent [] o = ends o
turn d spent (level ∷ above) o = on_level d spent (node_at d level.node) level o above

-- how many turns a level can take before something is yielded, where so many levels are left below it
abbrev pub weight_of : Stage → ℕ → ℕ
weight_of Fresh left = 2 * left + 3
weight_of Going left = 2 * left + 2
weight_of (Due at) left = 1
weight_of Ended left = 1

unfoldable pub weight : List Level → ℕ
weight [] = 0
weight (level ∷ above) = weight_of level.stage (left_below above) + weight above

-- how a walk comes out, and the levels then: none after the end and after a refusal
pub record Outcome : Type 0 where
  pub answer : Answered
  pub levels : List Level

abbrev pub comes_out : Answered → List Level → Outcome
comes_out answer levels = record { answer = answer; levels = levels }

-- turns, one after another
abbrev pub then_turns : (List Level → ℕ → Outcome) → Turn → Outcome
then_turns more (yields entry o levels) = comes_out (some entry o) levels
then_turns more (ends o) = comes_out (none o) []
then_turns more (refuses refusal o) = comes_out (refused refusal o) []
then_turns more (goes_on levels o) = more levels o

unfoldable pub turns : ℕ → Passed → (ℕ → Bool) → List Level → ℕ → Outcome
turns zero d spent levels o = comes_out (none o) []
turns (suc most) d spent levels o = then_turns (λ ls x. turns most d spent ls x) (turn d spent levels o)

-- turns until something is yielded, refused, or all is listed
unfoldable pub walk : Passed → (ℕ → Bool) → List Level → ℕ → Outcome
walk d spent levels o = turns (suc (weight levels)) d spent levels o

-- a level before a step: its node, then 8 for an entry put off
abbrev pub judge_stage : Stage → NodeSeen → Result (Unit {0}) Refusal
judge_stage Fresh its = Ok tt
judge_stage Going its = Ok tt
judge_stage (Due at) its = entry_in its at >>= λ entry. Ok tt
judge_stage Ended its = Ok tt

unfoldable pub judge : Passed → Level → Result (Unit {0}) Refusal
judge d level = node_at d level.node >>= λ its. judge_stage level.stage its

-- all levels, from the root down
unfoldable pub judge_all : Passed → List Level → Result (Unit {0}) Refusal
judge_all d [] = Ok tt
judge_all d (level ∷ above) = judge_all d above >>= λ fine. judge d level

-- before a step: 1 to 7, 11 for more levels than there may be, then each level
unfoldable pub checked : Lent → Cursor → Result Passed Refusal
checked lent cursor =
    passed lent >>= λ d.
    (if nat_lt level_limit cursor.depth then Err TooManyLevels else judge_all d (levels_of cursor)) >>= λ fine.
    Ok d

abbrev pub walk_in : (ℕ → Bool) → Result Passed Refusal → List Level → ℕ → Outcome
walk_in spent (Ok d) levels o = walk d spent levels o
walk_in spent (Err refusal) levels o = comes_out (refused refusal o) []

-- what a step answers, and the cursor then
pub record StepTaken : Type 0 where
  pub answer : Answered
  pub cursor : Cursor

abbrev pub count_in : Answered → ℕ
count_in (Ok told) = told.opened
count_in (Err fault) = fault.opened

abbrev pub kept_from : Answered → Option Refusal
kept_from (Ok told) = None
kept_from (Err fault) = Some fault.refusal

abbrev pub walked : Outcome → StepTaken
walked its = record { answer = its.answer; cursor = cursor_of its.levels (count_in its.answer) (kept_from its.answer) }

abbrev pub stand : Answered → Cursor → StepTaken
stand answer cursor = record { answer = answer; cursor = cursor }

-- with no level left a step says "end", before any check
abbrev pub on_depth : Lent → (ℕ → Bool) → ℕ → Cursor → StepTaken
on_depth lent spent zero cursor = stand (none cursor.opened) cursor
on_depth lent spent (suc above) cursor = walked (walk_in spent (checked lent cursor) (levels_of cursor) cursor.opened)

-- a step after a refusal repeats it before any check and changes nothing
abbrev pub on_kept : Lent → (ℕ → Bool) → Option Refusal → Cursor → StepTaken
on_kept lent spent (Some refusal) cursor = stand (refused refusal cursor.opened) cursor
on_kept lent spent None cursor = on_depth lent spent cursor.depth cursor

unfoldable pub step : Lent → (ℕ → Bool) → Cursor → StepTaken
step lent spent cursor = on_kept lent spent cursor.refusal cursor
