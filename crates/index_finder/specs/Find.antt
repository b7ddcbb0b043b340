-- Looking a name up: a recursion on the levels left, and in each node on its entries.
use Rattle.std.specs.Prelude.{zero, suc, ℕ, ◌+◌, Bool, List, [], ◌∷◌, Option, Some, None, Result, Ok, Err}
use Rattle.std.specs.declared.cmp.Ordering.{Ordering}
use Rattle.std.specs.declared.cmp.Ordering.TheVariants.{Less, Equal, Greater}
use Rattle.refusal.specs.declared.Refusal.{Refusal}
use Rattle.refusal.specs.declared.Refusal.TheVariants.{TooManyLevels}
use Rattle.index_entry.specs.Entry.{key_of}
use Rattle.directory.specs.Answer.{Answered, some, none, refused}
use Rattle.directory.specs.Lent.{Lent, Passed, EntryPlaced, NodeSeen}
use Rattle.directory.specs.Limits.{below_root}
use Rattle.directory.specs.Directory.{passed, root_node, subnode}
use Rattle.directory.specs.Node.{Entries, entries_of}
use Rattle.collation.specs.Kind.{Kind, name_to_key}

-- how the sought name stands to an entry's key; one without a key is after all names
abbrev pub stands_to : {K : Type 0} → Kind K → K → Result (Option (List ℕ)) Refusal → Result Ordering Refusal
stands_to kind sought (Ok (Some key)) = name_to_key kind sought key
stands_to kind sought (Ok None) = Ok Less
stands_to kind sought (Err refusal) = Err refusal

unfoldable pub stands : {K : Type 0} → Kind K → K → List ℕ → Result Ordering Refusal
stands kind sought entry = stands_to kind sought (key_of entry)

-- equal: found; greater: the next entry; less, or no key: the subnode
abbrev pub choose : Result Ordering Refusal → EntryPlaced → ℕ → (next down : Answered) → Answered
choose (Ok Equal) entry o next down = some entry o
choose (Ok Greater) entry o next down = next
choose (Ok Less) entry o next down = down
choose (Err refusal) entry o next down = refused refusal o

-- a node's entries; its: how the sought name stands to an entry; down: what the subnode of an entry answers
abbrev pub find_node : (List ℕ → Result Ordering Refusal) → (List ℕ → ℕ → Answered) → Entries → ℕ → Answered
find_node its down [] o = none o
find_node its down (Err refusal ∷ rest) o = refused refusal o
find_node its down (Ok entry ∷ rest) o = choose (its entry.bytes) entry o (find_node its down rest o) (down entry.bytes o)

-- an entry's subnode, if it has one; below: what a node answers there
abbrev pub into : (Entries → ℕ → Answered) → Result (Option NodeSeen) Refusal → ℕ → Answered
into below (Ok (Some node)) o = below (entries_of node) (o + 1)
into below (Ok None) o = none o
into below (Err refusal) o = refused refusal o

-- the entries of a node with so many levels left below it
unfoldable pub find_below : {K : Type 0} → Passed → (ℕ → Bool) → Kind K → K → ℕ → Entries → ℕ → Answered
find_below d spent kind sought zero entries o =
    find_node (stands kind sought) (λ entry x. into (λ es y. refused TooManyLevels y) (subnode d 0 (spent x) entry) x) entries o
find_below d spent kind sought (suc left) entries o =
    find_node (stands kind sought) (λ entry x. into (λ es y. find_below d spent kind sought left es y) (subnode d (suc left) (spent x) entry) x) entries o

abbrev pub find_in : {K : Type 0} → (ℕ → Bool) → Kind K → K → Result Passed Refusal → Answered
find_in spent kind sought (Ok d) = find_below d spent kind sought below_root (entries_of (root_node d)) 0
find_in spent kind sought (Err refusal) = refused refusal 0

-- 1 to 7, then the walk from the root
unfoldable pub find : {K : Type 0} → Lent → (ℕ → Bool) → Kind K → K → Answered
find d spent kind sought = find_in spent kind sought (passed d)
