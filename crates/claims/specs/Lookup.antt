-- Lookup: what it answers in 01's examples, and what a larger allowance changes.
use Rattle.std.specs.Prelude.{ℕ, ◌+◌, ◌≤◌, ◌≡◌, List, [], ◌∷◌, ◌++◌, Option, Some, None, Ok, Err}
use Rattle.refusal.specs.declared.Refusal.TheVariants.{AllowanceSpent}
use Rattle.refusal.specs.Number.{number_of}
use Rattle.file_reference.specs.Reference.{reference_of, record_number_of}
use Rattle.directory.specs.Answer.{Answered, refused}
use Rattle.directory.specs.Directory.{spent_at}
use Rattle.directory.specs.Lent.{Lent, EntryPlaced}
use Rattle.collation.specs.Kind.{Kind}
use Rattle.index_finder.specs.Allowance.{MoreFor}
use Rattle.index_finder.specs.FileNames.{find_file_name}
use Rattle.claims.specs.Bench.{bench_table, bytes, zeros, ending, record_with, root_with, lends, Row, p, All}

-- entries of record n with the digit n as their name; the second above the record at a VCN
abbrev pub digit : ℕ → List ℕ
digit n = zeros 64 ++ (1 ∷ 1 ∷ (48 + n) ∷ 0 ∷ [])

abbrev pub named : ℕ → List ℕ
named n = bytes 8 n ++ bytes 2 88 ++ bytes 2 68 ++ bytes 4 0 ++ digit n ++ zeros 4

abbrev pub named_branch : (n vcn : ℕ) → List ℕ
named_branch n vcn = bytes 8 n ++ bytes 2 96 ++ bytes 2 68 ++ bytes 4 1 ++ digit n ++ zeros 4 ++ bytes 8 vcn

-- the tree of P12, with names
abbrev pub names : Lent
names =
    lends (root_with 304 (named_branch 4 0 ++ named 5 ++ named 6 ++ ending))
    (record_with 0 240 (named 1 ++ named_branch 3 1 ++ ending) 248 ++ record_with 1 144 (named 2 ++ ending) 344)

-- a root whose start equals its used end, both inside
abbrev pub bare : Lent
bare = lends (root_with 16 (zeros 1)) (record_with 0 56 ending 432)

-- an answer: the record number of the entry found, or nothing, or a refusal; and the count
pub data Shown : Type 0 where
  finds : (entry opened : ℕ) → Shown
  misses : (opened : ℕ) → Shown
  refuses : (number opened : ℕ) → Shown

abbrev pub shown_entry : Option EntryPlaced → ℕ → Shown
shown_entry (Some entry) o = finds (record_number_of (reference_of entry.bytes)) o
shown_entry None o = misses o

abbrev pub shown : Answered → Shown
shown (Ok told) = shown_entry told.entry told.opened
shown (Err fault) = refuses (number_of fault.refusal) fault.opened

abbrev pub looks : Lent → (name : List ℕ) (allowance : ℕ) → Shown
looks d name allowance = shown (find_file_name d (spent_at allowance) bench_table name)

abbrev pub rows : List Row
rows =
    p 12 (looks names (53 ∷ []) 1) (finds 5 0)
    ∷ p 12 (looks names (50 ∷ []) 1) (refuses 12 1)
    ∷ p 12 (looks names (50 ∷ []) 2) (finds 2 2)
    ∷ p 12 (looks names (55 ∷ []) 2) (misses 0)
    ∷ p 12 (looks names (zeros 255) 2) (misses 1)
    ∷ p 12 (looks names (zeros 256) 2) (refuses 20 0)
    ∷ p 12 (shown (find_file_name names (spent_at 2) (0 ∷ bench_table) (zeros 256))) (refuses 19 0)
    ∷ p 12 (looks bare (53 ∷ []) 2) (misses 0)
    ∷ []

-- lookups in the tree of P12, names of 255 and 256 units, a table that is too long, a bare root
abbrev pub Lookups : Type 0
Lookups = All rows

-- an answer of a lookup other than 12 is the same under any larger allowance: of a name, and of a key of any kind
abbrev pub MoreForLookup : Type 0
MoreForLookup = (d : Lent) (table name : List ℕ) (few more : ℕ) → few ≤ more
    → ((opened : ℕ) → find_file_name d (spent_at few) table name ≡ refused AllowanceSpent opened → ⊥)
    → find_file_name d (spent_at more) table name ≡ find_file_name d (spent_at few) table name

abbrev pub MoreForAnyKind : Type 1
MoreForAnyKind = (K : Type 0) (kind : Kind K) → MoreFor kind
