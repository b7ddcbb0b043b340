-- In a directory that has passed a lookup finds exactly what is listed.
use Rattle.std.specs.Prelude.{ℕ, ◌≡◌, ◌≤◌, ◌↔◌, ◌⊎◌, List, length, Contains}
use Rattle.std.specs.Cmp.{IsTotalOrder}
use Rattle.upcase_table.specs.UpcaseTable.{mapped_by}
use Rattle.collation.specs.Kind.{Kind}
use Rattle.collation.specs.Names.{name_limit, file_names}
use Rattle.directory.specs.Answer.{Answered, some, none}
use Rattle.directory.specs.Directory.{spent_at}
use Rattle.directory.specs.Lent.{Lent, EntryPlaced}
use Rattle.directory.specs.Limits.{below_root}
use Rattle.index_finder.specs.Find.{find}
use Rattle.index_finder.specs.FileNames.{find_file_name}
use Rattle.index.specs.Listing.{listing}
use Rattle.sound.specs.Fit.{yielded}
use Rattle.sound.specs.Keys.{Equals}
use Rattle.sound.specs.Pass.{Passes}
use Rattle.sound.specs.Sorted.{Sorted}
use Rattle.index_run.specs.More.{never}

-- entries among which one compares equal
pub record Holds {K : Type 0} (kind : Kind K) (sought : K) (entries : List EntryPlaced) : Type 0 where
  pub entry : EntryPlaced
  pub member : Contains entries entry
  pub equals : Equals kind sought entry

-- a lookup's answer is such an entry
pub record Finds {K : Type 0} (kind : Kind K) (sought : K) (entries : List EntryPlaced) (answer : Answered) : Type 0 where
  pub holds : Holds kind sought entries
  pub count : ℕ
  pub is : answer ≡ some holds.entry count

-- the entries of the full listing
abbrev pub full_entries : Lent → List EntryPlaced
full_entries lent = yielded (listing lent never)

-- in a directory that passed, with an allowance of 7 or more, a name of at most 255 units: lookup finds an entry that compares equal
-- exactly if the full listing holds one
abbrev pub FoundIffListed : Type 0
FoundIffListed = (table name : List ℕ) (lent : Lent) (marks : List ℕ) (allowance : ℕ) → Passes table lent marks → below_root ≤ allowance
    → length name ≤ name_limit
    → Finds (file_names (mapped_by table)) name (full_entries lent) (find_file_name lent (spent_at allowance) table name)
    ↔ Holds (file_names (mapped_by table)) name (full_entries lent)

-- and otherwise its answer is "not found"
abbrev pub FoundOrNot : Type 0
FoundOrNot = (table name : List ℕ) (lent : Lent) (marks : List ℕ) (allowance : ℕ) → Passes table lent marks → below_root ≤ allowance → length name ≤ name_limit
    → Finds (file_names (mapped_by table)) name (full_entries lent) (find_file_name lent (spent_at allowance) table name)
    ⊎ ((count : ℕ) × (find_file_name lent (spent_at allowance) table name ≡ none count))

-- the same for a key of any kind in a total order
abbrev pub FoundFor : {K : Type 0} → Kind K → Type 0
FoundFor {K} kind = IsTotalOrder kind.order → (sought : K) (lent : Lent) (marks : List ℕ) (allowance : ℕ) → Sorted kind lent marks → below_root ≤ allowance
    → Finds kind sought (full_entries lent) (find lent (spent_at allowance) kind sought) ↔ Holds kind sought (full_entries lent)

abbrev pub FoundForAnyKind : Type 1
FoundForAnyKind = (K : Type 0) (kind : Kind K) → FoundFor kind
