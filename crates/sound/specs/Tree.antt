-- A directory as a finite tree: each key can be read and each subnode opened. That it is one, the tree itself shows.
use Rattle.std.specs.Prelude.{suc, ℕ, ◌≡◌, ◌≤◌, true, false, List, [], ◌∷◌, ◌++◌, Contains, Some, None, Ok}
use Rattle.index_entry.specs.Entry.{is_last, subnode_of}
use Rattle.collation.specs.Kind.{Kind}
use Rattle.directory.specs.Answer.{Answered, some, none}
use Rattle.directory.specs.Directory.{subnode, spent_at}
use Rattle.directory.specs.Lent.{Passed, EntryPlaced, NodeSeen}
use Rattle.directory.specs.Node.{Entries, entries_of}
use Rattle.index_finder.specs.Find.{find_below}
use Rattle.index.specs.Listing.{Listing, done, item, list_below}
use Rattle.index_run.specs.More.{never}
use Rattle.std.specs.Cmp.{IsTotalOrder}
use Rattle.sound.specs.Keys.{key_read, NeverFall, Equals, NoneEqual}

-- an entry's subnode, opened where a level is left and the allowance is not spent: none of 9, 10, 13 to 17
abbrev pub Leads : Passed → List ℕ → NodeSeen → Type 0
Leads d entry node = subnode d 1 false entry ≡ Ok (Some node)

-- the entries of a node with at most so many levels below it; one that runs out, or that ends with a LAST_ENTRY, or a named entry and more
pub data Tree (d : Passed) {K : Type 0} (kind : Kind K) : (left : ℕ) → Entries → Type 0 where
  out : (left : ℕ) → Tree d kind left []
  end : (left : ℕ) (entry : EntryPlaced) (rest : Entries) → is_last entry.bytes ≡ true → subnode_of entry.bytes ≡ Ok None → Tree d kind left (Ok entry ∷ rest)
  down : (left : ℕ) (entry : EntryPlaced) (rest : Entries) → is_last entry.bytes ≡ true → (node : NodeSeen) → Leads d entry.bytes node
      → Tree d kind left (entries_of node)
      → Tree d kind (suc left) (Ok entry ∷ rest)
  leaf : (left : ℕ) (entry : EntryPlaced) (rest : Entries) (name : K) → key_read kind entry.bytes ≡ Ok (Some name) → subnode_of entry.bytes ≡ Ok None
      → Tree d kind left rest
      → Tree d kind left (Ok entry ∷ rest)
  fork : (left : ℕ) (entry : EntryPlaced) (rest : Entries) (name : K) → key_read kind entry.bytes ≡ Ok (Some name) → (node : NodeSeen)
      → Leads d entry.bytes node → Tree d kind left (entries_of node)
      → Tree d kind (suc left) rest → Tree d kind (suc left) (Ok entry ∷ rest)

-- the entries in the order of the listing, and their names
abbrev pub items : {d : Passed} {K : Type 0} {kind : Kind K} {left : ℕ} {es : Entries} → Tree d kind left es → List EntryPlaced
items (out left) = []
items (end left entry rest last alone) = []
items (down left entry rest last node leads below) = items below
items (leaf left entry rest name named alone more) = entry ∷ items more
items (fork left entry rest name named node leads below more) = items below ++ entry ∷ items more

abbrev pub keys : {d : Passed} {K : Type 0} {kind : Kind K} {left : ℕ} {es : Entries} → Tree d kind left es → List K
keys (out left) = []
keys (end left entry rest last alone) = []
keys (down left entry rest last node leads below) = keys below
keys (leaf left entry rest name named alone more) = name ∷ keys more
keys (fork left entry rest name named node leads below more) = keys below ++ name ∷ keys more

-- a listing yields these entries and ends, with that count
pub data Lists : Listing → List EntryPlaced → ℕ → Type 0 where
  lists_none : (o : ℕ) → Lists (done o) [] o
  lists_one : (entry : EntryPlaced) (o : ℕ) (rest : Listing) (more : List EntryPlaced) (n : ℕ) → Lists rest more n → Lists (item entry o rest) (entry ∷ more) n

-- a lookup's answer where these entries are listed, with these names: one of them that is equal, or not found and none is equal
pub data Searched {K : Type 0} (kind : Kind K) (sought : K) (entries : List EntryPlaced) (names : List K) (answer : Answered) : Type 0 where
  hit : (entry : EntryPlaced) (o : ℕ) → answer ≡ some entry o → Contains entries entry → Equals kind sought entry → Searched kind sought entries names answer
  miss : (o : ℕ) → answer ≡ none o → NoneEqual kind.order sought names → Searched kind sought entries names answer

-- the full listing of a tree yields its entries, and ends
abbrev pub TreeListedFor : {K : Type 0} → Kind K → Type 0
TreeListedFor kind = (d : Passed) (left : ℕ) (es : Entries) (t : Tree d kind left es) → (n : ℕ) × Lists (list_below d never left es 0) (items t) n

abbrev pub TreeListedForAnyKind : Type 1
TreeListedForAnyKind = (K : Type 0) (kind : Kind K) → TreeListedFor kind

-- in every kind whose names are lists of numbers
abbrev pub TreeListed : Type 0
TreeListed = (kind : Kind (List ℕ)) → TreeListedFor kind

-- over any total order, in a tree whose names never fall, going down as lookup does loses no equal entry
abbrev pub NoneLostFor : {K : Type 0} → Kind K → Type 0
NoneLostFor {K} kind = (sought : K) → IsTotalOrder kind.order → (d : Passed) (left : ℕ) (es : Entries) (t : Tree d kind left es) (allowance : ℕ)
    → left ≤ allowance → NeverFall kind.order None (keys t)
    → Searched kind sought (items t) (keys t) (find_below d (spent_at allowance) kind sought left es 0)

abbrev pub NoneLostForAnyKind : Type 1
NoneLostForAnyKind = (K : Type 0) (kind : Kind K) → NoneLostFor kind

abbrev pub NoneLost : Type 0
NoneLost = (kind : Kind (List ℕ)) → NoneLostFor kind
