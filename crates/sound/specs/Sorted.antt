-- What a pass is to mean, and the marks after it and after a refusal.
use Rattle.std.specs.Prelude.{ℕ, ◌≡◌, ◌<◌, ◌≤◌, List, [], length, get_or, Contains, Result, Ok, Err}
use Rattle.refusal.specs.declared.Refusal.{Refusal}
use Rattle.collation.specs.Kind.{Kind}
use Rattle.directory.specs.Limits.{level_limit}
use Rattle.directory.specs.Directory.{passed, records_in, root_node}
use Rattle.directory.specs.Lent.{Lent, Passed, EntryPlaced, NodeSeen}
use Rattle.directory.specs.Node.{entries_of}
use Rattle.sound.specs.Tree.{Leads}
use Rattle.sound.specs.Fit.{Has, Down, number_in, reached, Fit}

-- a path leads to a record within so many levels: some node reached has an entry whose subnode it is
pub record Reaches (d : Passed) (levels : ℕ) (root : NodeSeen) (number : ℕ) : Type 0 where
  pub steps : ℕ
  pub few : steps < levels
  pub from : NodeSeen
  pub entry : EntryPlaced
  pub to : NodeSeen
  pub path : Down d steps root from
  pub has : Has (entries_of from) entry
  pub leads : Leads d entry.bytes to
  pub is : number_in to.place ≡ number

-- none of 1 to 7, no 21
pub record Ready (lent : Lent) (marks : List ℕ) : Type 0 where
  pub d : Passed
  pub no_1_to_7 : passed lent ≡ Ok d
  pub no_21 : records_in d.allocation ≤ length marks

-- and at most 8 levels, every node well formed, no record reached twice, names that never fall
pub record Sorted {K : Type 0} (kind : Kind K) (lent : Lent) (marks : List ℕ) : Type 0 where
  pub ready : Ready lent marks
  pub fit : Fit ready.d kind level_limit (root_node ready.d)

-- how many records there are
abbrev pub records_of_passed : Result Passed Refusal → ℕ
records_of_passed (Ok d) = records_in d.allocation
records_of_passed (Err refusal) = 0

unfoldable pub records_of : Lent → ℕ
records_of lent = records_of_passed (passed lent)

-- the records that a directory's entries lead to, in the order of the listing
abbrev pub reached_root : Result Passed Refusal → List ℕ
reached_root (Ok d) = reached d level_limit (root_node d)
reached_root (Err refusal) = []

unfoldable pub reached_of : Lent → List ℕ
reached_of lent = reached_root (passed lent)

-- after a pass: 1 for each record reached and 0 for each other; bytes past the record count are as they were
pub record Marked (lent : Lent) (marks after : List ℕ) (count : ℕ) : Type 0 where
  pub counted : count ≡ length (reached_of lent)
  pub size : length after ≡ length marks
  pub inside : (i : ℕ) → Contains (reached_of lent) i → i < records_of lent
  pub ones : (i : ℕ) → Contains (reached_of lent) i → get_or after i 0 ≡ 1
  pub zeros : (i : ℕ) → i < records_of lent → (Contains (reached_of lent) i → ⊥) → get_or after i 0 ≡ 0
  pub beyond : (i : ℕ) → records_of lent ≤ i → get_or after i 0 ≡ get_or marks i 0

-- after a fault of the walk: 0 for every record
pub record Cleared (lent : Lent) (marks after : List ℕ) : Type 0 where
  pub size : length after ≡ length marks
  pub zeros : (i : ℕ) → i < records_of lent → get_or after i 0 ≡ 0
  pub beyond : (i : ℕ) → records_of lent ≤ i → get_or after i 0 ≡ get_or marks i 0
