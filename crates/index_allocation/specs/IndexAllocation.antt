-- A pool, as the code has it.
use Rattle.std.specs.Prelude.{ℕ, List, Option, Some, None, Result, Ok, Err}
use Rattle.std.specs.Borrow.{Bor}
use Rattle.refusal.specs.declared.Refusal.{Refusal}
use Rattle.index_allocation.specs.declared.IndexAllocation.{IndexAllocation}
use Rattle.index_allocation.specs.declared.PlacedRecord.{PlacedRecord}
use Rattle.index_allocation.specs.Allocation.{Allocation, RecordPlaced}

abbrev pub pool_seen : IndexAllocation → Allocation
pool_seen a = record { pool = a.pool.now; record_size = a.record_size; cluster_size = a.cluster_size }

abbrev pub read : Result IndexAllocation Refusal → Result Allocation Refusal
read (Ok a) = Ok (pool_seen a)
read (Err refusal) = Err refusal

abbrev pub place_seen : PlacedRecord → RecordPlaced
place_seen r = record { number = r.number; vcn = r.vcn; bytes = r.bytes.now }

abbrev pub found : Result PlacedRecord Refusal → Result RecordPlaced Refusal
found (Ok r) = Ok (place_seen r)
found (Err refusal) = Err refusal

abbrev pub lent : Option (Bor (List ℕ)) → Option (List ℕ)
lent (Some bytes) = Some bytes.now
lent None = None
