-- A listing: a recursion on the levels left, and in each node on its entries.
use Rattle.std.specs.Prelude.{zero, suc, ℕ, ◌+◌, Bool, true, false, List, [], ◌∷◌, Option, Some, None, Result, Ok, Err}
use Rattle.directory.specs.Limits.{below_root}
use Rattle.refusal.specs.declared.Refusal.{Refusal}
use Rattle.refusal.specs.declared.Refusal.TheVariants.{TooManyLevels}
use Rattle.index_entry.specs.Entry.{is_last}
use Rattle.directory.specs.Lent.{Lent, Passed, EntryPlaced, NodeSeen}
use Rattle.directory.specs.Directory.{passed, root_node, subnode}
use Rattle.directory.specs.Node.{Entries, entries_of}

-- the entries one after another, each with the records opened so far, and then the end or a refusal
pub data Listing : Type 0 where
  done : ℕ → Listing
  stop : Refusal → ℕ → Listing
  item : EntryPlaced → ℕ → Listing → Listing

-- one listing, and where it ends, another
abbrev pub and_then : Listing → (ℕ → Listing) → Listing
and_then (done o) next = next o
and_then (stop refusal o) next = stop refusal o
and_then (item entry o rest) next = item entry o (and_then rest next)

-- an entry's subnode, if it has one; below: the listing of a node there
abbrev pub list_subnode : (Entries → ℕ → Listing) → Result (Option NodeSeen) Refusal → ℕ → Listing
list_subnode below (Ok (Some node)) o = below (entries_of node) (o + 1)
list_subnode below (Ok None) o = done o
list_subnode below (Err refusal) o = stop refusal o

-- a LAST_ENTRY is not listed, and nothing follows it
abbrev pub list_entry : Bool → EntryPlaced → ℕ → Listing → Listing
list_entry true entry o rest = done o
list_entry false entry o rest = item entry o rest

-- a node's entries: of each its subnode first, then the entry; sub: the listing of an entry's subnode
abbrev pub list_node : (List ℕ → ℕ → Listing) → Entries → ℕ → Listing
list_node sub [] o = done o
list_node sub (Err refusal ∷ rest) o = stop refusal o
list_node sub (Ok entry ∷ rest) o = and_then (sub entry.bytes o) (λ x. list_entry (is_last entry.bytes) entry x (list_node sub rest x))

-- the entries of a node with so many levels left below it
unfoldable pub list_below : Passed → (ℕ → Bool) → ℕ → Entries → ℕ → Listing
list_below d spent zero entries o = list_node (λ entry x. list_subnode (λ es y. stop TooManyLevels y) (subnode d 0 (spent x) entry) x) entries o
list_below d spent (suc left) entries o =
    list_node (λ entry x. list_subnode (λ es y. list_below d spent left es y) (subnode d (suc left) (spent x) entry) x) entries o

abbrev pub list_in : (ℕ → Bool) → Result Passed Refusal → Listing
list_in spent (Ok d) = list_below d spent below_root (entries_of (root_node d)) 0
list_in spent (Err refusal) = stop refusal 0

-- the whole directory: 1 to 7, then the walk from the root
unfoldable pub listing : Lent → (ℕ → Bool) → Listing
listing d spent = list_in spent (passed d)
