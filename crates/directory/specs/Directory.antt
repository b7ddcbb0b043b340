-- A directory: what passes, where a VCN leads, what the record there holds.
use Rattle.std.specs.Prelude.{ℕ, ℤ, ◌/◌, ◌==◌, nat_le, Bool, List, length, if◌then◌else◌, Option, Some, None, Result, Ok, Err}
use Rattle.refusal.specs.declared.Refusal.{Refusal}
use Rattle.refusal.specs.declared.Refusal.TheVariants.{LargeWithoutPool, SubnodeWithoutPool, TooManyLevels, AllowanceSpent, VcnNowhere}
use Rattle.refusal.specs.Then.{◌>>=◌}
use Rattle.directory.specs.declared.place.Place.{Place}
use Rattle.directory.specs.declared.place.Place.TheVariants as places
use Rattle.directory.specs.Lent.{Lent, Passed, NodeSeen}
use Rattle.index_entry.specs.Entry.{subnode_of}
use Rattle.index_root.specs.Root.{Root, root_of}
use Rattle.index_allocation.specs.Allocation.{Allocation, RecordPlaced, allocation_of, placed_in, record_bytes}
use Rattle.index_record.specs.Record.{record_of}

-- beside an empty pool 5 alone, else 6 and 7
abbrev pub allocation_in : Lent → Root → Result (Option Allocation) Refusal
allocation_in d root =
    if length d.pool == 0 then (if root.large then Err LargeWithoutPool else Ok None)
    else allocation_of d.pool root.record_size d.cluster_size >>= λ allocation. Ok (Some allocation)

-- 1 to 7
unfoldable pub passed : Lent → Result Passed Refusal
passed d =
    root_of d.root >>= λ root.
    allocation_in d root >>= λ allocation.
    Ok (record { root = root; allocation = allocation })

-- how many records there are
abbrev pub records_in : Option Allocation → ℕ
records_in (Some a) = length a.pool / a.record_size
records_in None = 0

-- the root as a node
abbrev pub root_node : Passed → NodeSeen
root_node d = record { bytes = d.root.bytes; start = d.root.start; end = length d.root.bytes; place = places.Root }

-- the bytes of a node, out of the root or of the pool, whichever holds it
abbrev pub bytes_in : Option Allocation → ℕ → Option (List ℕ)
bytes_in (Some a) number = record_bytes a number
bytes_in None number = None

abbrev pub node_bytes : Passed → Place → Option (List ℕ)
node_bytes d places.Root = Some d.root.bytes
node_bytes d (places.Record number vcn) = bytes_in d.allocation number

-- the record that a VCN leads to: 13
unfoldable pub placed : Option Allocation → ℤ → Result RecordPlaced Refusal
placed (Some a) vcn = placed_in a vcn
placed None vcn = Err VcnNowhere

-- the record that a subnode is, with so many levels left: 10 to 13
unfoldable pub wanted : Option Allocation → ℕ → Bool → ℤ → Result RecordPlaced Refusal
wanted None left spent vcn = Err SubnodeWithoutPool
wanted (Some a) left spent vcn =
    if left == 0 then Err TooManyLevels
    else if spent then Err AllowanceSpent
    else placed_in a vcn

-- what it holds: 14 to 17
unfoldable pub node_in : RecordPlaced → Result NodeSeen Refusal
node_in r = record_of r.bytes r.vcn >>= λ held.
    Ok (record { bytes = held.bytes; start = held.start; end = held.end; place = places.Record r.number r.vcn })

-- as many records opened as allowed, or more
abbrev pub spent_at : ℕ → ℕ → Bool
spent_at allowance opened = nat_le allowance opened

-- a subnode, opened: 10 to 17
unfoldable pub opening : Passed → ℕ → Bool → ℤ → Result NodeSeen Refusal
opening d left spent vcn = wanted d.allocation left spent vcn >>= node_in

abbrev pub opening_of : Passed → ℕ → Bool → Result (Option ℤ) Refusal → Result (Option NodeSeen) Refusal
opening_of d left spent (Ok (Some vcn)) = opening d left spent vcn >>= λ node. Ok (Some node)
opening_of d left spent (Ok None) = Ok None
opening_of d left spent (Err refusal) = Err refusal

-- an entry's subnode, if it has one, opened: 9, then 10 to 17
unfoldable pub subnode : Passed → ℕ → Bool → List ℕ → Result (Option NodeSeen) Refusal
subnode d left spent entry = opening_of d left spent (subnode_of entry)

-- a record that was opened before: 13 to 17
unfoldable pub again : Passed → ℤ → Result NodeSeen Refusal
again d vcn = placed d.allocation vcn >>= node_in
