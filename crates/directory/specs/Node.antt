-- The entries of one node, in the order in which they stand.
use Rattle.std.specs.Prelude.{zero, suc, ℕ, ◌+◌, ◌-◌, nat_lt, List, [], ◌∷◌, length, if◌then◌else◌, Option, Some, None, Result, Ok, Err}
use Rattle.refusal.specs.declared.Refusal.{Refusal}
use Rattle.refusal.specs.Then.{◌>>=◌}
use Rattle.index_entry.specs.Entry.{entry_at, is_last}
use Rattle.directory.specs.declared.place.Place.{Place}
use Rattle.directory.specs.Lent.{EntryPlaced, NodeSeen}

abbrev pub placed_at : Place → ℕ → List ℕ → EntryPlaced
placed_at node at entry = record { node = node; at = at; bytes = entry }

-- the entry that begins at `at` in a node; 8
unfoldable pub entry_in : NodeSeen → ℕ → Result EntryPlaced Refusal
entry_in node at = entry_at node.bytes at >>= λ entry. Ok (placed_at node.place at entry)

-- where the walk goes on after what stands at `at`: at the used end, where it ends with a LAST_ENTRY or a refusal
abbrev pub start_after : NodeSeen → ℕ → Result EntryPlaced Refusal → ℕ
start_after node at (Ok entry) = if is_last entry.bytes then node.end else (at + length entry.bytes)
start_after node at (Err refusal) = node.end

-- a node's entries, each decoded, up to the refusal that ends them
abbrev pub Entries : Type 0
Entries = List (Result EntryPlaced Refusal)

-- at most `steps` of the entries from `at` up to the used end
unfoldable pub entries_within : ℕ → NodeSeen → ℕ → Entries
entries_within zero node at = []
entries_within (suc steps) node at =
    if nat_lt at node.end then entry_in node at ∷ entries_within steps node (start_after node at (entry_in node at))
    else []

-- the entries from `at` on: each has its header, so there are no more of them than bytes up to the used end
unfoldable pub entries_at : NodeSeen → ℕ → Entries
entries_at node at = entries_within (node.end - at) node at

abbrev pub first : Entries → Option (Result EntryPlaced Refusal)
first [] = None
first (entry ∷ rest) = Some entry

-- all of a node's entries
abbrev pub entries_of : NodeSeen → Entries
entries_of node = entries_at node node.start
