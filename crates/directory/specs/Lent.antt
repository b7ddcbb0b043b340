-- What a reader believes of what is lent.
use Rattle.std.specs.Prelude.{ℕ, List, Option}
use Rattle.directory.specs.declared.place.Place.{Place}
use Rattle.index_root.specs.Root.{Root}
use Rattle.index_allocation.specs.Allocation.{Allocation}

-- a directory: its root, the pool of its records, the size of a cluster
pub record Lent : Type 0 where
  pub root : List ℕ
  pub pool : List ℕ
  pub cluster_size : ℕ

-- a directory that passed 1 to 7; an empty pool is no index allocation
pub record Passed : Type 0 where
  pub root : Root
  pub allocation : Option Allocation

-- an entry of a node: where the node stands, where in it the entry begins, its bytes
pub record EntryPlaced : Type 0 where
  pub node : Place
  pub at : ℕ
  pub bytes : List ℕ

-- a node that was opened: its bytes, where its entries start, its used end, where it stands
pub record NodeSeen : Type 0 where
  pub bytes : List ℕ
  pub start : ℕ
  pub end : ℕ
  pub place : Place
