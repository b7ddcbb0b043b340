-- A pool of records, and where a VCN leads in it.
use Rattle.std.specs.Prelude.{ℕ, ℤ, pos, negsuc, ◌+◌, ◌*◌, ◌/◌, ◌%◌, ◌==◌, nat_lt, nat_le, not, Bool, ◌&&◌, ◌||◌, List, [], ◌∷◌, length, take, drop, if◌then◌else◌, Option, Some, None, Result, Ok, Err}
use Rattle.std.specs.List.{list_any}
use Rattle.refusal.specs.declared.Refusal.{Refusal}
use Rattle.refusal.specs.declared.Refusal.TheVariants.{SizeNotAllowed, PoolNotWholeRecords, VcnNowhere}
use Rattle.refusal.specs.Then.{◌>>=◌}

-- a pool that was seen, with its sizes
pub record Allocation : Type 0 where
  pub pool : List ℕ
  pub record_size : ℕ
  pub cluster_size : ℕ

-- a record that a VCN leads to, not yet read
pub record RecordPlaced : Type 0 where
  pub number : ℕ
  pub vcn : ℤ
  pub bytes : List ℕ

-- the powers of two from 512 to 65,536
abbrev pub powers : List ℕ
powers = 512 ∷ 1024 ∷ 2048 ∷ 4096 ∷ 8192 ∷ 16384 ∷ 32768 ∷ 65536 ∷ []

-- a power of two from 512 to most
abbrev pub is_size : ℕ → ℕ → Bool
is_size most size = list_any (λ power. power == size) powers && nat_le size most

-- the largest record, the largest cluster
abbrev pub record_limit : ℕ
record_limit = 4096

abbrev pub cluster_limit : ℕ
cluster_limit = 65536

-- the sizes beside a pool of so many bytes that is not empty: 6, then 7
unfoldable pub sizes_judged : (record_size cluster_size pool : ℕ) → Result (Unit {0}) Refusal
sizes_judged record_size cluster_size pool =
    if not (is_size record_limit record_size && is_size cluster_limit cluster_size) then Err SizeNotAllowed
    else if not (pool % record_size == 0) then Err PoolNotWholeRecords
    else Ok tt

unfoldable pub allocation_of : List ℕ → (record_size cluster_size : ℕ) → Result Allocation Refusal
allocation_of pool record_size cluster_size =
    sizes_judged record_size cluster_size (length pool) >>= λ fine.
    Ok (record { pool = pool; record_size = record_size; cluster_size = cluster_size })

-- a VCN without its sign: a negative one lies nowhere (13)
unfoldable pub block_of : ℤ → Result ℕ Refusal
block_of (pos vcn) = Ok vcn
block_of (negsuc below) = Err VcnNowhere

-- the number of the record at an offset: a multiple of the record size, the whole record within the pool (13)
unfoldable pub record_in : (offset record_size pool : ℕ) → Result ℕ Refusal
record_in offset record_size pool =
    if not (offset % record_size == 0) then Err VcnNowhere
    else if nat_lt pool (offset + record_size) then Err VcnNowhere
    else Ok (offset / record_size)

-- the number of the record that a VCN leads to, VCN v at byte v × cluster size; a size of 0, which 6 refuses, leads nowhere
unfoldable pub record_at : ℤ → (cluster_size record_size pool : ℕ) → Result ℕ Refusal
record_at vcn cluster_size record_size pool =
    block_of vcn >>= λ cluster.
    if record_size == 0 || cluster_size == 0 then Err VcnNowhere else record_in (cluster * cluster_size) record_size pool

-- the bytes of a record
abbrev pub bytes_of : Allocation → ℕ → List ℕ
bytes_of a number = take a.record_size (drop (number * a.record_size) a.pool)

-- the record that a VCN leads to; 13
abbrev pub placed_in : Allocation → ℤ → Result RecordPlaced Refusal
placed_in a vcn =
    record_at vcn a.cluster_size a.record_size (length a.pool) >>= λ number.
    Ok (record { number = number; vcn = vcn; bytes = bytes_of a number })

-- the bytes of a record, if there is one of that number
abbrev pub record_bytes : Allocation → ℕ → Option (List ℕ)
record_bytes a number = if nat_lt number (length a.pool / a.record_size) then Some (bytes_of a number) else None
