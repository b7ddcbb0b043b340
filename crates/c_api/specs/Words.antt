-- The answer of a step, a lookup or a check, an entry's name, and a cursor, as numbers: what crosses to C and Rust.
use Rattle.std.specs.Prelude.{ℕ, zero, suc, ◌+◌, ◌*◌, Bool, ℤ, List, [], ◌∷◌, ◌++◌, length, slice_index, slice_index_or}
use Rattle.std.specs.Prelude.{Option, Some, None, Result, Ok, Err}
use Rattle.std.specs.Int.{cast_unsigned, w64}
use Rattle.le.specs.Le.{signed64}
use Rattle.refusal.specs.declared.Fault.{Fault}
use Rattle.refusal.specs.declared.Refusal.{Refusal}
use Rattle.refusal.specs.declared.Refusal.TheVariants.{RootTooShort, RootStartOutside, RootEndOutside, RootStartPastEnd, LargeWithoutPool}
use Rattle.refusal.specs.declared.Refusal.TheVariants.{SizeNotAllowed, PoolNotWholeRecords, EntrySize, EntryDataRange, SubnodeWithoutPool}
use Rattle.refusal.specs.declared.Refusal.TheVariants.{TooManyLevels, AllowanceSpent, VcnNowhere, Signature, AllocatedSize, IndexSize, OwnVcn}
use Rattle.refusal.specs.declared.Refusal.TheVariants.{KeyUnreadable, TableLength, NameTooLong, MarksTooShort, ReachedTwice, NodeEnd, KeyMissing}
use Rattle.refusal.specs.declared.Refusal.TheVariants.{NameFalls, MalformedCapture}
use Rattle.refusal.specs.Number.{number_of}
use Rattle.refusal.specs.Then.{◌>>=◌}
use Rattle.file_reference.specs.declared.FileReference.{FileReference}
use Rattle.file_reference.specs.Reference.{reference_of, record_number_of, sequence_of}
use Rattle.index_entry.specs.Entry.{entry_at, key_of, header_size}
use Rattle.file_name.specs.Key.{name_of}
use Rattle.directory.specs.Answer.{Answered}
use Rattle.directory.specs.Lent.{Lent, EntryPlaced}
use Rattle.index.specs.declared.cursor.NodeName.{NodeName}
use Rattle.index.specs.declared.cursor.NodeName.TheVariants.{Root, Record}
use Rattle.index.specs.declared.cursor.Stage.{Stage}
use Rattle.index.specs.declared.cursor.Stage.TheVariants.{Fresh, Going, Due, Ended}
use Rattle.index.specs.declared.cursor.Level.{Level}
use Rattle.index.specs.declared.cursor.Cursor.{Cursor}
use Rattle.index.specs.Cursor.{blank}
use Rattle.index.specs.Step.{StepTaken, level_at, step}
use Rattle.directory.specs.Limits.{level_limit}
use Rattle.c_api.specs.declared.answer.Span.{Span}
use Rattle.c_api.specs.Lies.{holder_of, start_of}

-- a directory as it is lent
abbrev pub lent_as : (root pool : List ℕ) → (cluster : ℕ) → Lent
lent_as root pool cluster = record { root = root; pool = pool; cluster_size = cluster }

-- where the bytes of an entry lie: in the root, 0, or in the pool, 1; from which byte of it; how many
abbrev pub span_of : Lent → EntryPlaced → Span
span_of d entry = record { holder = holder_of entry.node; offset = start_of d entry.node + entry.at; size = length entry.bytes }

-- an answer is six numbers: what, refusal, opened, holder, offset, size; what is 1 for an entry
abbrev pub span_words : ℕ → Span → List ℕ
span_words opened span = 1 ∷ 0 ∷ opened ∷ span.holder ∷ span.offset ∷ span.size ∷ []

-- 0 for the end, or not found
abbrev pub entry_words : Lent → Option EntryPlaced → ℕ → List ℕ
entry_words d (Some entry) opened = span_words opened (span_of d entry)
entry_words d None opened = 0 ∷ 0 ∷ opened ∷ 0 ∷ 0 ∷ 0 ∷ []

-- 2 for a refusal; of a step and of a lookup
abbrev pub answer_words : Lent → Answered → List ℕ
answer_words d (Ok told) = entry_words d told.entry told.opened
answer_words d (Err fault) = 2 ∷ number_of fault.refusal ∷ fault.opened ∷ 0 ∷ 0 ∷ 0 ∷ []

-- of a check, three numbers: what, refusal, count; what is 1 for a pass, 2 for a refusal
abbrev pub verdict_words : Result ℕ Fault → List ℕ
verdict_words (Ok count) = 1 ∷ 0 ∷ count ∷ []
verdict_words (Err fault) = 2 ∷ number_of fault.refusal ∷ fault.opened ∷ []

-- where the name begins in a key, and where it begins in an entry: after the entry's header
abbrev pub key_offset : ℕ
key_offset = 66

abbrev pub name_offset : ℕ
name_offset = header_size + key_offset

-- what a key's bytes 64 and 65 say of its name: how many units it has, and its namespace
pub record KeyName : Type 0 where
  pub namespace : ℕ
  pub units : ℕ

-- of a key: 18 where it is no file name
abbrev pub key_name : List ℕ → Result KeyName Refusal
key_name key = name_of key >>= λ name. Ok (record { namespace = slice_index key 65; units = slice_index key 64 })

-- of the key part: no key; 9; or a key
abbrev pub part_name : Result (Option (List ℕ)) Refusal → Result (Option KeyName) Refusal
part_name (Ok (Some key)) = key_name key >>= λ name. Ok (Some name)
part_name (Ok None) = Ok None
part_name (Err refusal) = Err refusal

-- of an entry
abbrev pub name_in : List ℕ → Result (Option KeyName) Refusal
name_in entry = part_name (key_of entry)

-- an entry's file reference and name, seven numbers: what, refusal, record number, sequence, namespace, offset, units;
-- what is 1 for a name, 0 where there is no key, 2 for a refusal
abbrev pub name_words : FileReference → Result (Option KeyName) Refusal → List ℕ
name_words reference (Ok (Some name)) = 1 ∷ 0 ∷ record_number_of reference ∷ sequence_of reference ∷ name.namespace ∷ name_offset ∷ name.units ∷ []
name_words reference (Ok None) = 0 ∷ 0 ∷ record_number_of reference ∷ sequence_of reference ∷ 0 ∷ 0 ∷ 0 ∷ []
name_words reference (Err refusal) = 2 ∷ number_of refusal ∷ record_number_of reference ∷ sequence_of reference ∷ 0 ∷ 0 ∷ 0 ∷ []

-- of what stands where an entry should: its reference, whatever its key; 8 has none
abbrev pub entry_read_words : Result (List ℕ) Refusal → List ℕ
entry_read_words (Ok entry) = name_words (reference_of entry) (name_in entry)
entry_read_words (Err refusal) = 2 ∷ number_of refusal ∷ 0 ∷ 0 ∷ 0 ∷ 0 ∷ 0 ∷ []

-- of the entry that lent bytes begin with
unfoldable pub entry_name_words : List ℕ → List ℕ
entry_name_words bytes = entry_read_words (entry_at bytes 0)

-- the 64 bits of a signed number
abbrev pub bits64 : ℤ → ℕ
bits64 vcn = cast_unsigned w64 vcn

-- which node: 0 the root, 1 a record
abbrev pub node_word : NodeName → ℕ
node_word Root = 0
node_word (Record vcn) = 1

-- the VCN of a record, 0 of the root
abbrev pub vcn_word : NodeName → ℕ
vcn_word Root = 0
vcn_word (Record vcn) = bits64 vcn

-- and back: every number but 0 is a record
abbrev pub node_from : (node vcn : ℕ) → NodeName
node_from zero vcn = Root
node_from (suc n) vcn = Record (signed64 vcn)

-- a stage: 0 not begun, 1 going, 2 an entry put off, 3 ended
abbrev pub stage_word : Stage → ℕ
stage_word Fresh = 0
stage_word Going = 1
stage_word (Due at) = 2
stage_word Ended = 3

-- the start of the entry put off, 0 where none is
abbrev pub due_word : Stage → ℕ
due_word Fresh = 0
due_word Going = 0
due_word (Due at) = at
due_word Ended = 0

-- and back: every number past 2 is ended
abbrev pub stage_from : (stage due : ℕ) → Stage
stage_from zero due = Fresh
stage_from (suc zero) due = Going
stage_from (suc (suc zero)) due = Due due
stage_from (suc (suc (suc n))) due = Ended

-- a refusal kept: 0 none, else its number
abbrev pub kept_word : Option Refusal → ℕ
kept_word None = 0
kept_word (Some refusal) = number_of refusal

-- what each number keeps, from 0 on; every number past them keeps none
abbrev pub kept_numbers : List (Option Refusal)
kept_numbers =
    None
    ∷ Some RootTooShort
    ∷ Some RootStartOutside
    ∷ Some RootEndOutside
    ∷ Some RootStartPastEnd
    ∷ Some LargeWithoutPool
    ∷ Some SizeNotAllowed
    ∷ Some PoolNotWholeRecords
    ∷ Some EntrySize
    ∷ Some EntryDataRange
    ∷ Some SubnodeWithoutPool
    ∷ Some TooManyLevels
    ∷ Some AllowanceSpent
    ∷ Some VcnNowhere
    ∷ Some Signature
    ∷ Some AllocatedSize
    ∷ Some IndexSize
    ∷ Some OwnVcn
    ∷ Some KeyUnreadable
    ∷ Some TableLength
    ∷ Some NameTooLong
    ∷ Some MarksTooShort
    ∷ Some ReachedTwice
    ∷ Some NodeEnd
    ∷ Some KeyMissing
    ∷ Some NameFalls
    ∷ Some MalformedCapture
    ∷ []

-- and back: the refusal of that number
abbrev pub kept_from : ℕ → Option Refusal
kept_from number = slice_index_or kept_numbers number None

-- a level is five numbers: node, VCN, next start, stage, start of the entry put off
abbrev pub level_words : Level → List ℕ
level_words level = node_word level.node ∷ vcn_word level.node ∷ level.next ∷ stage_word level.stage ∷ due_word level.stage ∷ []

-- where the numbers of a level begin: those of depth, opened and the refusal kept stand before the first level's
abbrev pub level_start : ℕ → ℕ
level_start i = 3 + 5 * i

-- and back: the level whose five numbers begin at a place
abbrev pub level_from : List ℕ → ℕ → Level
level_from w at =
    level_at (node_from (slice_index w at) (slice_index w (at + 1))) (slice_index w (at + 2)) (stage_from (slice_index w (at + 3)) (slice_index w (at + 4)))

-- the numbers of the first so many levels
unfoldable pub levels_words : ℕ → List Level → List ℕ
levels_words zero levels = []
levels_words (suc n) levels = levels_words n levels ++ level_words (slice_index_or levels n blank)

-- the first so many levels back
unfoldable pub levels_from : ℕ → List ℕ → List Level
levels_from zero w = []
levels_from (suc n) w = levels_from n w ++ (level_from w (level_start n) ∷ [])

-- a cursor is 43 numbers: depth, opened, refusal kept, the 8 levels
unfoldable pub cursor_words : Cursor → List ℕ
cursor_words cursor = cursor.depth ∷ cursor.opened ∷ kept_word cursor.refusal ∷ levels_words level_limit cursor.levels

-- and back, whatever the numbers
unfoldable pub cursor_from : List ℕ → Cursor
cursor_from w = record {
  levels = levels_from level_limit w;
  depth = slice_index w 0;
  opened = slice_index w 1;
  refusal = kept_from (slice_index w 2);
}

-- a step from a cursor's numbers
abbrev pub step_by_words : Lent → (ℕ → Bool) → List ℕ → StepTaken
step_by_words d spent w = step d spent (cursor_from w)
