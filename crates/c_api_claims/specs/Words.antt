-- What crosses to C and Rust as numbers: an entry's three name its bytes, and steps that hand a cursor's numbers on answer the listing;
-- of the seven that an entry's bytes say, offset and units name the name in its key.
use Rattle.std.specs.Prelude.{zero, suc, ℕ, ◌+◌, ◌*◌, ◌/◌, ◌%◌, ◌^◌, ◌≤◌, ◌<◌, ◌≡◌, Bool, List, [], ◌∷◌, ◌++◌, length, take, drop, slice_index, Some, Ok}
use Rattle.index_entry.specs.Entry.{entry_at, key_of}
use Rattle.file_name.specs.Key.{name_of}
use Rattle.collation.specs.Kind.{Kind}
use Rattle.directory.specs.Answer.{Answered, some}
use Rattle.directory.specs.Lent.{Lent, EntryPlaced}
use Rattle.index.specs.declared.cursor.Cursor.{Cursor}
use Rattle.index.specs.declared.cursor.NodeName.{NodeName}
use Rattle.index.specs.Cursor.{new_cursor}
use Rattle.index.specs.Listing.{listing}
use Rattle.index.specs.Step.{step}
use Rattle.index_finder.specs.Find.{find}
use Rattle.index_finder.specs.FileNames.{find_file_name}
use Rattle.index_run.specs.Run.{said_at}
use Rattle.c_api.specs.Lies.{held_by}
use Rattle.index_node.specs.Bytes.{place_bytes}
use Rattle.c_api.specs.Words.{answer_words, step_by_words, cursor_words, entry_name_words}
use Rattle.c_api_claims.specs.Places.{SpanNames, place_span}

-- an answer's holder, offset and size lie in the slice that the holder names, and are these bytes there
pub record Names (d : Lent) (w bytes : List ℕ) : Type 0 where
  pub within : slice_index w 4 + slice_index w 5 ≤ length (held_by d (slice_index w 3))
  pub same : take (slice_index w 5) (drop (slice_index w 4) (held_by d (slice_index w 3))) ≡ bytes

-- those of an answered entry name its bytes
abbrev pub AnswerNames : Lent → Answered → Type 0
AnswerNames d answer = (entry : EntryPlaced) (opened : ℕ) → answer ≡ some entry opened → Names d (answer_words d answer) entry.bytes

-- of each entry that a step answers, whatever the cursor; of each that is listed; and of each that a lookup answers;
-- and the three numbers of any place name the bytes that the place has
pub record NumbersName : Type 0 where
  pub of_step : (d : Lent) (spent : ℕ → Bool) (cursor : Cursor) → AnswerNames d (step d spent cursor).answer
  pub of_listing : (d : Lent) (spent : ℕ → Bool) (at : ℕ) → AnswerNames d (said_at (listing d spent) at)
  pub of_lookup : (d : Lent) (spent : ℕ → Bool) (kind : Kind (List ℕ)) (sought : List ℕ) → AnswerNames d (find d spent kind sought)
  pub of_file_name : (d : Lent) (spent : ℕ → Bool) (table name : List ℕ) → AnswerNames d (find_file_name d spent table name)
  pub of_place : (d : Lent) (node : NodeName) (at size : ℕ) → SpanNames d (place_span d node at size) (place_bytes d node at size)

-- the numbers of the answer of the step after so many others, each handed the numbers that the one before it left
unfoldable pub words_at : Lent → (spent : ℕ → Bool) → ℕ → List ℕ → List ℕ
words_at d spent zero w = answer_words d (step_by_words d spent w).answer
words_at d spent (suc before) w = words_at d spent before (cursor_words (step_by_words d spent w).cursor)

-- from the numbers of a new cursor, step after step, over unchanged memory: the items of the listing, then its ending for ever
abbrev pub NumbersRun : Type 0
NumbersRun =
    (d : Lent) (spent : ℕ → Bool) (before : ℕ) → length d.pool < 2 ^ 63
    → words_at d spent before (cursor_words new_cursor) ≡ answer_words d (said_at (listing d spent) before)

-- w tells the name of the entry that lent bytes begin with: from its offset on, two for each of its units, they are the name in the entry's key
pub record TellsName (lent w entry key : List ℕ) : Type 0 where
  pub entry_there : entry_at lent 0 ≡ Ok entry
  pub key_there : key_of entry ≡ Ok (Some key)
  pub within : slice_index w 5 + 2 * slice_index w 6 ≤ length lent
  pub same : name_of key ≡ Ok (take (2 * slice_index w 6) (drop (slice_index w 5) lent))

-- where the first number of an entry's name is 1, the bytes lent begin with an entry that has a key, and offset and units tell the name in it
abbrev pub EntryNameNames : Type 0
EntryNameNames =
    (lent : List ℕ) → slice_index (entry_name_words lent) 0 ≡ 1
    → (entry : List ℕ) × (key : List ℕ) × TellsName lent (entry_name_words lent) entry key

-- n in so many bytes, the lowest first
abbrev pub bytes : ℕ → ℕ → List ℕ
bytes zero n = []
bytes (suc count) n = n % 256 ∷ bytes count (n / 256)

-- an entry of 88 bytes, record 41, sequence 3: its key length and flags, and in the key a namespace and the name A
abbrev pub entry_a : (size flags namespace : ℕ) → List ℕ
entry_a size flags namespace =
    bytes 6 41 ++ bytes 2 3 ++ bytes 2 88 ++ bytes 2 size ++ bytes 4 flags ++ bytes 64 0 ++ (1 ∷ namespace ∷ 65 ∷ 0 ∷ []) ++ bytes 4 0

-- an entry's header alone: no reference, its length, a key length of 68, no flag
abbrev pub header : ℕ → List ℕ
header size = bytes 8 0 ++ bytes 2 size ++ bytes 2 68 ++ bytes 4 0

abbrev pub Says : List ℕ → List ℕ → Type 0
Says lent words = entry_name_words lent ≡ words

-- 01's whole case, and then with one field changed: LAST_ENTRY, a key past the entry's end, one too short for its name, a namespace of 4; last P5's entry
pub record EntryNames : Type 0 where
  pub named : Says (entry_a 68 0 1) (1 ∷ 0 ∷ 41 ∷ 3 ∷ 1 ∷ 82 ∷ 1 ∷ [])
  pub last : Says (entry_a 68 2 1) (0 ∷ 0 ∷ 41 ∷ 3 ∷ 0 ∷ 0 ∷ 0 ∷ [])
  pub past : Says (entry_a 73 0 1) (2 ∷ 9 ∷ 41 ∷ 3 ∷ 0 ∷ 0 ∷ 0 ∷ [])
  pub short : Says (entry_a 67 0 1) (2 ∷ 18 ∷ 41 ∷ 3 ∷ 0 ∷ 0 ∷ 0 ∷ [])
  pub namespace : Says (entry_a 68 0 4) (2 ∷ 18 ∷ 41 ∷ 3 ∷ 0 ∷ 0 ∷ 0 ∷ [])
  pub none : Says (header 15) (2 ∷ 8 ∷ 0 ∷ 0 ∷ 0 ∷ 0 ∷ 0 ∷ [])
