-- A node by its name, over any directory: the root under 1 to 7, a record under 13 to 17, whatever 1 to 7 say of its root.
use Rattle.std.specs.Prelude.{ℕ, ℤ, ◌==◌, Bool, List, length, if◌then◌else◌, Option, Some, None, Result, Ok, Err}
use Rattle.refusal.specs.declared.Refusal.{Refusal}
use Rattle.refusal.specs.declared.Refusal.TheVariants.{LargeWithoutPool}
use Rattle.refusal.specs.Then.{◌>>=◌}
use Rattle.index_root.specs.Root.{Root, root_of, record_size_of}
use Rattle.index_allocation.specs.Allocation.{Allocation, RecordPlaced, sizes_judged, placed_in}
use Rattle.directory.specs.Lent.{Lent, NodeSeen}
use Rattle.directory.specs.Directory.{passed, root_node, wanted, node_in}
use Rattle.index.specs.declared.cursor.NodeName.{NodeName}
use Rattle.index.specs.declared.cursor.NodeName.TheVariants as names

-- 5 beside an empty pool, else 6 and 7; of the pool its length alone matters
unfoldable pub pool_judged : (record_size : ℕ) → (large : Bool) → (cluster_size pool : ℕ) → Result (Unit {0}) Refusal
pool_judged record_size large cluster_size pool =
    if pool == 0 then (if large then Err LargeWithoutPool else Ok tt)
    else sizes_judged record_size cluster_size pool

-- 1 to 7
unfoldable pub root_in : List ℕ → (cluster_size pool : ℕ) → Result Root Refusal
root_in root cluster_size pool =
    root_of root >>= λ its.
    pool_judged its.record_size its.large cluster_size pool >>= λ fine.
    Ok its

-- the pool as it is lent, its records of the size that the root says
abbrev pub pool_lent : Lent → Allocation
pool_lent d = record { pool = d.pool; record_size = record_size_of d.root; cluster_size = d.cluster_size }

-- and none where it is empty
abbrev pub pool_there : Lent → Option Allocation
pool_there d = if length d.pool == 0 then None else Some (pool_lent d)

-- the record that a VCN leads to: 13
unfoldable pub record_placed : Lent → ℤ → Result RecordPlaced Refusal
record_placed d vcn = placed_in (pool_lent d) vcn

-- a node: 1 to 7, or 13 to 17
unfoldable pub view_of : Lent → NodeName → Result NodeSeen Refusal
view_of d names.Root = passed d >>= λ its. Ok (root_node its)
view_of d (names.Record vcn) = record_placed d vcn >>= node_in

-- a record opened on the way down, with so many levels left: 10 to 17
unfoldable pub opened_node : Lent → ℕ → Bool → ℤ → Result NodeSeen Refusal
opened_node d left spent vcn = wanted (pool_there d) left spent vcn >>= node_in
