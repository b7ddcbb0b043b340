-- A directory all of whose nodes are well formed, as a tree.
use Rattle.std.proofs.Common.{suc, ℕ, ◌≡◌, ◌≤◌, ◌+◌, true, List, [], ◌∷◌, ◌++◌, length, set, Some, None, Ok}
use Rattle.index_entry.specs.Entry.{is_last, subnode_of}
use Rattle.collation.specs.Kind.{Kind}
use Rattle.directory.specs.Directory.{passed, root_node}
use Rattle.directory.specs.Lent.{Lent, Passed, EntryPlaced, NodeSeen}
use Rattle.directory.specs.Limits.{below_root}
use Rattle.directory.specs.Node.{Entries, entries_of}
use Rattle.sound.specs.Fit.{number_in, NoRepeat}
use Rattle.sound.specs.Keys.{key_read, NeverFall}
use Rattle.sound.specs.Tree.{Leads, Tree, end, down, leaf, fork, keys}

-- entries of a node from a position on, up to its used end, with so many levels left below it:
-- a LAST_ENTRY that ends there, or a named entry and more, each with a subnode or without
pub data WellTree (d : Passed) {K : Type 0} (kind : Kind K) : (left used at : ℕ) → Entries → Type 0 where
  end_here : (left used at : ℕ) (entry : EntryPlaced) (rest : Entries) → is_last entry.bytes ≡ true → at + length entry.bytes ≡ used
      → subnode_of entry.bytes ≡ Ok None
      → WellTree d kind left used at (Ok entry ∷ rest)
  end_below : (left used at : ℕ) (entry : EntryPlaced) (rest : Entries) → is_last entry.bytes ≡ true → at + length entry.bytes ≡ used → (node : NodeSeen)
      → Leads d entry.bytes node
      → WellTree d kind left node.end node.start (entries_of node) → WellTree d kind (suc left) used at (Ok entry ∷ rest)
  name_here : (left used at : ℕ) (entry : EntryPlaced) (rest : Entries) (name : K) → key_read kind entry.bytes ≡ Ok (Some name)
      → at + length entry.bytes ≤ used → subnode_of entry.bytes ≡ Ok None
      → WellTree d kind left used (at + length entry.bytes) rest → WellTree d kind left used at (Ok entry ∷ rest)
  name_below : (left used at : ℕ) (entry : EntryPlaced) (rest : Entries) (name : K) → key_read kind entry.bytes ≡ Ok (Some name)
      → at + length entry.bytes ≤ used → (node : NodeSeen) → Leads d entry.bytes node
      → WellTree d kind left node.end node.start (entries_of node) → WellTree d kind (suc left) used (at + length entry.bytes) rest
      → WellTree d kind (suc left) used at (Ok entry ∷ rest)

-- it is a tree
abbrev pub tree_of : {d : Passed} {K : Type 0} {kind : Kind K} {left used at : ℕ} {es : Entries} → WellTree d kind left used at es → Tree d kind left es
tree_of (end_here left used at entry rest last ends alone) = end left entry rest last alone
tree_of (end_below left used at entry rest last ends node leads below) = down left entry rest last node leads (tree_of below)
tree_of (name_here left used at entry rest name named ends alone more) = leaf left entry rest name named alone (tree_of more)
tree_of (name_below left used at entry rest name named ends node leads below more) = fork left entry rest name named node leads (tree_of below) (tree_of more)

-- its names in order
abbrev pub names : {d : Passed} {K : Type 0} {kind : Kind K} {left used at : ℕ} {es : Entries} → WellTree d kind left used at es → List K
names t = keys (tree_of t)

-- the numbers of the records that are reached, in order
abbrev pub records : {d : Passed} {K : Type 0} {kind : Kind K} {left used at : ℕ} {es : Entries} → WellTree d kind left used at es → List ℕ
records (end_here left used at entry rest last ends alone) = []
records (end_below left used at entry rest last ends node leads below) = number_in node.place ∷ records below
records (name_here left used at entry rest name named ends alone more) = records more
records (name_below left used at entry rest name named ends node leads below more) = number_in node.place ∷ records below ++ records more

-- the marks with those of some records set
abbrev pub mark_all : List ℕ → List ℕ → List ℕ
mark_all [] marks = marks
mark_all (number ∷ more) marks = mark_all more (set marks number 1)

-- what passes: 1 to 7 do not arise, well formed within eight levels, no record reached twice, names never falling
pub record IsSound (lent : Lent) {K : Type 0} (kind : Kind K) : Type 0 where
  pub d : Passed
  pub opens : passed lent ≡ Ok d
  pub tree : WellTree d kind below_root (root_node d).end (root_node d).start (entries_of (root_node d))
  pub once : NoRepeat (records tree)
  pub rises : NeverFall kind.order None (names tree)
