-- The bench examples P1 to P12, as one table. T is the identity but for 0x61 to 0x7A, which lose 32.
use Rattle.std.specs.Prelude.{zero, suc, ℕ, pos, negsuc, ◌≡◌, ◌+◌, ◌-◌, ◌/◌, ◌%◌, nat_le, ◌&&◌, List, [], ◌∷◌, ◌++◌, if◌then◌else◌, Option, Some}
use Rattle.std.specs.Prelude.{None, Result, Ok, Err}
use Rattle.std.specs.declared.cmp.Ordering.{Ordering}
use Rattle.std.specs.declared.cmp.Ordering.TheVariants.{Less, Equal, Greater}
use Rattle.refusal.specs.declared.Refusal.{Refusal}
use Rattle.refusal.specs.Number.{number_of}
use Rattle.file_reference.specs.Reference.{reference_of, record_number_of}
use Rattle.index_entry.specs.Entry.{entry_at, key_of, subnode_of}
use Rattle.upcase_table.specs.Names.{name_order, units_of}
use Rattle.upcase_table.specs.UpcaseTable.{mapped_by, table_size}
use Rattle.index_allocation.specs.Allocation.{block_of}
use Rattle.directory.specs.Lent.{Lent}
use Rattle.index.specs.Listing.{Listing, done, stop, item, listing}
use Rattle.index_run.specs.More.{never}

abbrev pub bench_unit : ℕ → ℕ
bench_unit unit = if nat_le 0x61 unit && nat_le unit 0x7a then unit - 32 else unit

abbrev pub bench_units : (count unit : ℕ) → List ℕ
bench_units zero unit = []
bench_units (suc count) unit = bench_unit unit ∷ bench_units count (unit + 1)

abbrev pub bench_table : List ℕ
bench_table = bench_units table_size 0

-- a sought name against a name in a key's bytes, under T
abbrev pub compares : List ℕ → List ℕ → Ordering
compares name key = name_order (mapped_by bench_table) name (units_of key)

-- what the paper says: nothing there, a refusal's number, or what is there
pub data Said (A : Type 0) : Type 0 where
  nothing : Said A
  number : ℕ → Said A
  value : A → Said A

abbrev pub said : {A : Type 0} → Result (Option A) Refusal → Said A
said (Ok (Some x)) = value x
said (Ok None) = nothing
said (Err refusal) = number (number_of refusal)

abbrev pub said_one : {A : Type 0} → Result A Refusal → Said A
said_one (Ok x) = value x
said_one (Err refusal) = number (number_of refusal)

-- n in so many bytes, the lowest first
abbrev pub bytes : (count n : ℕ) → List ℕ
bytes zero n = []
bytes (suc count) n = n % 256 ∷ bytes count (n / 256)

abbrev pub zeros : ℕ → List ℕ
zeros count = bytes count 0

-- an entry's header: no reference, its length, a key length of 68, its flags
abbrev pub header : (size flags : ℕ) → List ℕ
header size flags = zeros 8 ++ bytes 2 size ++ bytes 2 68 ++ bytes 4 flags

-- numbers of eight bytes, each its own offset
abbrev pub offsets : (count at : ℕ) → List ℕ
offsets zero at = []
offsets (suc count) at = bytes 8 at ++ offsets count (at + 8)

-- eight bytes 0xFF
abbrev pub ones : List ℕ
ones = bytes 8 0xffff_ffff_ffff_ffff

-- entries without keys: of record n; of record n, above the record at a VCN; and the LAST_ENTRY
abbrev pub leaf : ℕ → List ℕ
leaf n = bytes 8 n ++ bytes 2 16 ++ bytes 2 0 ++ bytes 4 0

abbrev pub branch : (n vcn : ℕ) → List ℕ
branch n vcn = bytes 8 n ++ bytes 2 24 ++ bytes 2 0 ++ bytes 4 1 ++ bytes 8 vcn

abbrev pub ending : List ℕ
ending = bytes 8 0 ++ bytes 2 16 ++ bytes 2 0 ++ bytes 4 2

-- a node header: where the entries start, where they end, how much is allocated, the flags
abbrev pub node_header : (offset used allocated flags : ℕ) → List ℕ
node_header offset used allocated flags = bytes 4 offset ++ bytes 4 used ++ bytes 4 allocated ++ bytes 4 flags

-- a record of 512 bytes, its entries from 64
abbrev pub record_with : (vcn used : ℕ) → List ℕ → (free : ℕ) → List ℕ
record_with vcn used entries free = bytes 4 0x58444e49 ++ zeros 12 ++ bytes 8 vcn ++ node_header 40 used 488 0 ++ zeros 24 ++ entries ++ zeros free

-- a root of records of 512 bytes, flagged large
abbrev pub root_with : (used : ℕ) → List ℕ → List ℕ
root_with used entries = bytes 4 48 ++ bytes 4 1 ++ bytes 4 512 ++ bytes 4 1 ++ node_header 16 used used 1 ++ entries

-- with clusters of 512 bytes
abbrev pub lends : (root pool : List ℕ) → Lent
lends root pool = record { root = root; pool = pool; cluster_size = 512 }

-- the tree of P12: the root holds 4 5 6; under 4, at VCN 0, are 1 3; under 3, at VCN 1, is 2
abbrev pub tree : Lent
tree =
    lends (root_with 88 (branch 4 0 ++ leaf 5 ++ leaf 6 ++ ending))
    (record_with 0 96 (leaf 1 ++ branch 3 1 ++ ending) 392 ++ record_with 1 72 (leaf 2 ++ ending) 416)

-- the record numbers of the entries that a listing yields, and how it ends: a refusal, or how many records it opened
abbrev pub yielded : Listing → List ℕ
yielded (done o) = []
yielded (stop refusal o) = []
yielded (item entry o rest) = record_number_of (reference_of entry.bytes) ∷ yielded rest

abbrev pub opens : Listing → Said ℕ
opens (done o) = value o
opens (stop refusal o) = number (number_of refusal)
opens (item entry o rest) = opens rest

-- a row: the example's number, what the definitions give, and what the paper says
pub data Row : Type 1 where
  p : ℕ → {A : Type 0} → A → A → Row

abbrev pub Holds : Row → Type 0
Holds (p n given said) = given ≡ said

abbrev pub All : List Row → Type 0
All [] = Unit {0}
All (row ∷ rows) = Holds row × All rows

abbrev pub rows : List Row
rows =
    p 1 (compares (0x61 ∷ []) (0x41 ∷ 0 ∷ [])) Equal
    ∷ p 2 (compares [] (0x41 ∷ 0 ∷ [])) Less
    ∷ p 3 (compares (0x61 ∷ 0x62 ∷ []) (0x41 ∷ 0 ∷ [])) Greater
    ∷ p 4 (compares (0x61 ∷ []) (0x5f ∷ 0 ∷ [])) Less
    ∷ p 5 (said_one (entry_at (header 15 0) 0)) (number 8)
    ∷ p 6 (said (key_of (header 16 2))) nothing
    ∷ p 6 (said (subnode_of (header 16 2))) nothing
    ∷ p 7 (said (subnode_of (header 16 3))) (number 9)
    ∷ p 8 (said (subnode_of (header 23 1 ++ zeros 7))) (number 9)
    ∷ p 9 (said (subnode_of (header 24 3 ++ offsets 1 16))) (value (pos 16))
    ∷ p 10 (said (subnode_of (header 96 1 ++ offsets 10 16))) (value (pos 88))
    ∷ p 11 (said (subnode_of (header 24 1 ++ ones))) (value (negsuc 0))
    ∷ p 11 (said_one (block_of (negsuc 0))) (number 13)
    ∷ p 12 (yielded (listing tree never)) (1 ∷ 2 ∷ 3 ∷ 4 ∷ 5 ∷ 6 ∷ [])
    ∷ p 12 (opens (listing tree never)) (value 2)
    ∷ []

-- P1 to P12
abbrev pub Bench : Type 0
Bench = All rows
