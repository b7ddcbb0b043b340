-- The bytes that a place names: a part of the root or of the pool, and none where it names none.
use Rattle.std.specs.Prelude.{ℕ, ◌+◌, ◌*◌, nat_le, List, [], length, take, drop, if◌then◌else◌, Option, Some, None, Result, Ok, Err}
use Rattle.refusal.specs.declared.Refusal.{Refusal}
use Rattle.index_root.specs.Root.{record_size_of}
use Rattle.index_allocation.specs.Allocation.{RecordPlaced, record_at}
use Rattle.directory.specs.Lent.{Lent}
use Rattle.index.specs.declared.cursor.NodeName.{NodeName}
use Rattle.index.specs.declared.cursor.NodeName.TheVariants as names
use Rattle.index_node.specs.Node.{record_placed}

-- size bytes from `at`; a part that does not lie in the bytes, first to last, is empty
unfoldable pub part_of : List ℕ → (at size : ℕ) → List ℕ
part_of bytes at size = if nat_le (at + size) (length bytes) then take size (drop at bytes) else []

-- what holds a node's bytes
abbrev pub holder : Lent → NodeName → List ℕ
holder d names.Root = d.root
holder d (names.Record vcn) = d.pool

-- a node's bytes, by where they lie in what holds it
unfoldable pub view_bytes : Lent → NodeName → (from size : ℕ) → List ℕ
view_bytes d node from size = part_of (holder d node) from size

-- where a record begins in the pool
abbrev pub start_numbered : (size : ℕ) → Result ℕ Refusal → ℕ
start_numbered size (Ok number) = number * size
start_numbered size (Err refusal) = 0

-- where a node begins in what holds it; 0 at a VCN that leads nowhere
unfoldable pub node_start : Lent → NodeName → ℕ
node_start d names.Root = 0
node_start d (names.Record vcn) = start_numbered (record_size_of d.root) (record_at vcn d.cluster_size (record_size_of d.root) (length d.pool))

-- the bytes of a record; at a VCN that leads nowhere there are none
abbrev pub bytes_placed : Result RecordPlaced Refusal → List ℕ
bytes_placed (Ok placed) = placed.bytes
bytes_placed (Err refusal) = []

-- the whole node: the root, or the record at the VCN
unfoldable pub node_bytes : Lent → NodeName → List ℕ
node_bytes d names.Root = d.root
node_bytes d (names.Record vcn) = bytes_placed (record_placed d vcn)

-- the bytes of an entry by its place: its node, where in it the entry begins, its length
unfoldable pub place_bytes : Lent → NodeName → (at size : ℕ) → List ℕ
place_bytes d node at size = part_of (node_bytes d node) at size

-- an entry's bytes, none where 8 is given
abbrev pub bytes_of : Result (List ℕ) Refusal → List ℕ
bytes_of (Ok bytes) = bytes
bytes_of (Err refusal) = []

-- a key's bytes, none where there is no key or 9 is given
abbrev pub key_bytes_of : Result (Option (List ℕ)) Refusal → List ℕ
key_bytes_of (Ok (Some key)) = key
key_bytes_of (Ok None) = []
key_bytes_of (Err refusal) = []
