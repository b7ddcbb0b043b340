-- What makes a directory whole, said without the check of one: levels, well formed nodes, records reached, none twice, names that never fall.
use Rattle.std.specs.Prelude.{zero, suc, ℕ, ◌≡◌, ◌<◌, ◌≤◌, ◌+◌, ◌-◌, ◌⊎◌, true, false, List, [], ◌∷◌, ◌++◌, length, Contains, if◌then◌else◌, Option, Some, None}
use Rattle.std.specs.Prelude.{Result, Ok, Err}
use Rattle.refusal.specs.declared.Refusal.{Refusal}
use Rattle.index_entry.specs.Entry.{is_last, subnode_of}
use Rattle.collation.specs.Kind.{Kind}
use Rattle.directory.specs.declared.place.Place.{Place}
use Rattle.directory.specs.declared.place.Place.TheVariants as places
use Rattle.directory.specs.Directory.{subnode}
use Rattle.directory.specs.Lent.{Passed, EntryPlaced, NodeSeen}
use Rattle.directory.specs.Node.{Entries, entries_of}
use Rattle.index.specs.Listing.{Listing, done, stop, item, list_below}
use Rattle.sound.specs.Keys.{key_read, keys_of, NeverFall}
use Rattle.sound.specs.Tree.{Leads}
use Rattle.index_run.specs.More.{never}

-- an entry of a node; none stands behind a LAST_ENTRY
pub data Has : Entries → EntryPlaced → Type 0 where
  at_first : (entry : EntryPlaced) (rest : Entries) → Has (Ok entry ∷ rest) entry
  later : (entry first : EntryPlaced) (rest : Entries) → is_last first.bytes ≡ false → Has rest entry → Has (Ok first ∷ rest) entry

-- no number twice
abbrev pub NoRepeat : List ℕ → Type 0
NoRepeat [] = Unit {0}
NoRepeat (n ∷ more) = (Contains more n → ⊥) × NoRepeat more

-- the entries that a listing yields
unfoldable pub yielded : Listing → List EntryPlaced
yielded (done o) = []
yielded (stop refusal o) = []
yielded (item entry o rest) = entry ∷ yielded rest

-- the number of the record that is a node
abbrev pub number_in : Place → ℕ
number_in places.Root = 0
number_in (places.Record number vcn) = number

module _ (d : Passed) where
  -- a node is reached from another by going down that many times
  pub data Down : ℕ → NodeSeen → NodeSeen → Type 0 where
    here : (node : NodeSeen) → Down 0 node node
    into : (steps : ℕ) (node below to : NodeSeen) (entry : EntryPlaced) → Has (entries_of node) entry → Leads d entry.bytes below → Down steps below to
        → Down (suc steps) node to

  abbrev pub AtMost : ℕ → NodeSeen → Type 0
  AtMost levels node = (steps : ℕ) (to : NodeSeen) → Down steps node to → steps < levels

  -- the records reached within so many levels, in the order of the listing
  abbrev pub reached_sub : (below : NodeSeen → List ℕ) → Result (Option NodeSeen) Refusal → List ℕ
  reached_sub below (Ok (Some node)) = number_in node.place ∷ below node
  reached_sub below (Ok None) = []
  reached_sub below (Err refusal) = []

  unfoldable pub reached_in : (below : NodeSeen → List ℕ) → Entries → List ℕ
  reached_in below [] = []
  reached_in below (Err refusal ∷ rest) = []
  reached_in below (Ok entry ∷ rest) = reached_sub below (subnode d 1 false entry.bytes) ++ (if is_last entry.bytes then [] else reached_in below rest)

  unfoldable pub reached : ℕ → NodeSeen → List ℕ
  reached zero node = []
  reached (suc levels) node = reached_in (reached levels) (entries_of node)

  -- no subnode, or one that shows none of 9, 10, 13 to 17
  abbrev pub SubFine : List ℕ → Type 0
  SubFine entry = (subnode_of entry ≡ Ok None) ⊎ ((node : NodeSeen) × Leads d entry node)

  module _ {K : Type 0} (kind : Kind K) where
    -- entries from a position on: named ones that end at the used end at most, and then a LAST_ENTRY that ends there
    pub data WellFrom (used : ℕ) : (at : ℕ) → Entries → Type 0 where
      ends : (at : ℕ) (entry : EntryPlaced) (rest : Entries) → is_last entry.bytes ≡ true → at + length entry.bytes ≡ used → SubFine entry.bytes
          → WellFrom used at (Ok entry ∷ rest)
      goes_on : (at : ℕ) (entry : EntryPlaced) (rest : Entries) (name : K) → key_read kind entry.bytes ≡ Ok (Some name) → at + length entry.bytes ≤ used
          → SubFine entry.bytes
          → WellFrom used (at + length entry.bytes) rest → WellFrom used at (Ok entry ∷ rest)

    -- a node is well formed if it shows none of 8, 9, 10, 13 to 18, 23 and 24
    abbrev pub Well : NodeSeen → Type 0
    Well node = WellFrom node.end node.start (entries_of node)

    abbrev pub AllWell : NodeSeen → Type 0
    AllWell node = (steps : ℕ) (to : NodeSeen) → Down steps node to → Well to

    -- the names of the full listing
    abbrev pub listed_keys : ℕ → NodeSeen → List K
    listed_keys levels node = keys_of kind (yielded (list_below d never (levels - 1) (entries_of node) 0))

    -- a node with all that is below it
    pub record Fit (levels : ℕ) (node : NodeSeen) : Type 0 where
      pub at_most : AtMost levels node
      pub well : AllWell node
      pub once : NoRepeat (reached levels node)
      pub rising : NeverFall kind.order None (listed_keys levels node)
