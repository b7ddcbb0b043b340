-- Where an answered entry lies in what was lent.
use Rattle.std.specs.Prelude.{ℕ, zero, suc, ◌+◌, ◌*◌, ◌≤◌, ◌≡◌, List, length, take, drop, Option, Some, None, Ok, Err}
use Rattle.directory.specs.declared.place.Place.{Place}
use Rattle.directory.specs.declared.place.Place.TheVariants.{Root, Record}
use Rattle.directory.specs.Answer.{Answered}
use Rattle.directory.specs.Lent.{Lent, EntryPlaced}
use Rattle.index_root.specs.Root.{record_size_of}

-- the number of the slice that holds a node: the root 0, the pool 1
abbrev pub holder_of : Place → ℕ
holder_of Root = 0
holder_of (Record number vcn) = 1

-- from which byte of it on the node lies: a record from its number times the record size
abbrev pub start_of : Lent → Place → ℕ
start_of d Root = 0
start_of d (Record number vcn) = number * record_size_of d.root

-- the slice of that number
abbrev pub held_by : Lent → ℕ → List ℕ
held_by d zero = d.root
held_by d (suc n) = d.pool

-- so many bytes of a slice from one on, all there
pub record AreAt (held : List ℕ) (from : ℕ) (bytes : List ℕ) : Type 0 where
  pub within : from + length bytes ≤ length held
  pub same : take (length bytes) (drop from held) ≡ bytes

-- an entry lies where its place says
abbrev pub Lies : Lent → EntryPlaced → Type 0
Lies d entry = AreAt (held_by d (holder_of entry.node)) (start_of d entry.node + entry.at) entry.bytes

abbrev pub EntryLies : Lent → Option EntryPlaced → Type 0
EntryLies d (Some entry) = Lies d entry
EntryLies d None = Unit {0}

-- so does the entry of an answer, if it has one
abbrev pub AnswerLies : Lent → Answered → Type 0
AnswerLies d (Ok told) = EntryLies d told.entry
AnswerLies d (Err fault) = Unit {0}
