-- An entry of a node, over its bytes: its header, its key, its subnode.
use Rattle.std.specs.Prelude.{ℕ, ℤ, ◌+◌, ◌-◌, ◌==◌, nat_lt, max, bit_and, not, Bool, List, length, take, drop, slice_index, if◌then◌else◌, Option, Some, None, Result, Ok, Err}
use Rattle.le.specs.Le.{le_at, signed_at}
use Rattle.refusal.specs.declared.Refusal.{Refusal}
use Rattle.refusal.specs.declared.Refusal.TheVariants.{EntrySize, EntryDataRange}

-- the header's bytes, before any key
abbrev pub header_size : ℕ
header_size = 16

-- its length is at 8, its key length at 10, two bytes each, its flags at 12
abbrev pub entry_length_of : List ℕ → ℕ
entry_length_of entry = le_at 2 entry 8

abbrev pub key_length_of : List ℕ → ℕ
key_length_of entry = le_at 2 entry 10

abbrev pub flags_of : List ℕ → ℕ
flags_of entry = slice_index entry 12

-- whether a flag is set
abbrev pub has_flag : ℕ → List ℕ → Bool
has_flag flag entry = not (bit_and (flags_of entry) flag == 0)

-- 0x01 HAS_SUBNODE
unfoldable pub has_subnode : List ℕ → Bool
has_subnode entry = has_flag 1 entry

-- 0x02 LAST_ENTRY
unfoldable pub is_last : List ℕ → Bool
is_last entry = has_flag 2 entry

-- the bytes of the entry at `at`; 8 where fewer than 16 bytes remain, its length is under 16, or exceeds what remains
unfoldable pub entry_at : List ℕ → ℕ → Result (List ℕ) Refusal
entry_at node at =
    let size = le_at 2 node (at + 8) in
    if nat_lt (length node) (at + header_size) then Err EntrySize
    else if nat_lt size header_size then Err EntrySize
    else if nat_lt (length node) (at + size) then Err EntrySize
    else Ok (take size (drop at node))

-- a key exists if the key length is not 0 and LAST_ENTRY is clear; 9 where it ends outside the entry
unfoldable pub key_of : List ℕ → Result (Option (List ℕ)) Refusal
key_of entry =
    if key_length_of entry == 0 then Ok None
    else if is_last entry then Ok None
    else if nat_lt (length entry) (header_size + key_length_of entry) then Err EntryDataRange
    else Ok (Some (take (key_length_of entry) (drop header_size entry)))

-- where the subnode's VCN stands
abbrev pub vcn_start : List ℕ → ℕ
vcn_start entry = max (length entry - 8) header_size

-- the signed number there; 9 where it ends outside the entry
unfoldable pub subnode_of : List ℕ → Result (Option ℤ) Refusal
subnode_of entry =
    if has_subnode entry then
    (if nat_lt (length entry) (vcn_start entry + 8) then Err EntryDataRange
    else Ok (Some (signed_at entry (vcn_start entry))))
    else Ok None
