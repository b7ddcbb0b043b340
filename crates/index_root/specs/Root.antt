-- The root of an index, over its bytes.
use Rattle.std.specs.Prelude.{ℕ, ◌+◌, ◌==◌, nat_lt, nat_le, bit_and, not, Bool, List, length, take, slice_index, if◌then◌else◌, Result, Ok, Err}
use Rattle.le.specs.Le.{le_at}
use Rattle.refusal.specs.declared.Refusal.{Refusal}
use Rattle.refusal.specs.declared.Refusal.TheVariants.{RootTooShort, RootStartOutside, RootEndOutside, RootStartPastEnd}

-- a root that was seen: its bytes up to the used end, where its entries start, the size of a record, the large flag
pub record Root : Type 0 where
  pub bytes : List ℕ
  pub start : ℕ
  pub record_size : ℕ
  pub large : Bool

-- the record size is at 8; the node header at 16: entries offset, index size, allocated size, four bytes each
abbrev pub record_size_of : List ℕ → ℕ
record_size_of root = le_at 4 root 8

abbrev pub start_of : List ℕ → ℕ
start_of root = 16 + le_at 4 root 16

abbrev pub used_end_of : List ℕ → ℕ
used_end_of root = 16 + le_at 4 root 20

-- and the flags at byte 12 of that header: 0x01 means large
abbrev pub is_large : List ℕ → Bool
is_large root = not (bit_and (slice_index root 28) 1 == 0)

-- 1 to 4
unfoldable pub root_of : List ℕ → Result Root Refusal
root_of root =
    if nat_lt (length root) 32 then Err RootTooShort
    else if nat_le (length root) (start_of root) then Err RootStartOutside
    else if nat_lt (length root) (used_end_of root) then Err RootEndOutside
    else if nat_lt (used_end_of root) (start_of root) then Err RootStartPastEnd
    else Ok (record { bytes = take (used_end_of root) root; start = start_of root; record_size = record_size_of root; large = is_large root })
