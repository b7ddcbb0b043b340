-- The capture format: fields of a one-byte tag, a two-byte little-endian length, the bytes; anything else is 26.
use Rattle.std.specs.Prelude.{ℕ, Bool, option_map, ◌+◌, ◌-◌, ◌*◌, ◌/◌, ◌%◌, ◌==◌, ◌&&◌, nat_eq, nat_lt, nat_le, not, List, [], ◌∷◌, ◌++◌, length}
use Rattle.std.specs.Prelude.{take, drop, map, slice_index, if◌then◌else◌, Option, Some, None, option_and_then, ok_or, Result}
use Rattle.std.specs.List.{list_all, starts_with, concat}
use Rattle.std.specs.Option.{option_map_or}
use lib.Pointwise.{pointwise}
use Rattle.std.specs.Int.{from_le_bytes, w32}
use Rattle.std.specs.Simd.{first_chunks}
use Rattle.refusal.specs.declared.Refusal.{Refusal}
use Rattle.refusal.specs.declared.Refusal.TheVariants.{MalformedCapture}

-- what a capture holds; with no records the cluster size is 0
pub record Contents : Type 0 where
  pub root : List ℕ
  pub cluster_size : ℕ
  pub records : List (List ℕ)

-- at most 65,535 bytes, and of these at most 57,344 of records
abbrev pub most_bytes : ℕ
most_bytes = 65535

abbrev pub most_pool : ℕ
most_pool = 57344

abbrev pub root_tag : ℕ
root_tag = 1

abbrev pub cluster_tag : ℕ
cluster_tag = 2

abbrev pub record_tag : ℕ
record_tag = 3

-- what stands before a field's bytes
abbrev pub head_size : ℕ
head_size = 3

-- the last field: tag 255, length 0
abbrev pub end_field : List ℕ
end_field = 255 ∷ 0 ∷ 0 ∷ []

-- the bytes of the field in front, if it has this tag, and what follows it
unfoldable pub split_field : List ℕ → ℕ → Option (List ℕ × List ℕ)
split_field s tag =
    let size = slice_index s 1 + 256 * slice_index s 2 in
    if nat_lt (length s) head_size then None
    else if not (slice_index s 0 == tag) then None
    else if nat_lt (length s) (head_size + size) then None
    else Some (take size (drop head_size s), drop size (drop head_size s))

-- fields so wide, one after the other
abbrev pub fields_of : (width : ℕ) → List ℕ → List (List ℕ)
fields_of width s = first_chunks width (length s / width) s

-- the records in fields that have so many bytes each behind their heads
abbrev pub records_of : (size : ℕ) → List ℕ → List (List ℕ)
records_of size s = map (drop head_size) (fields_of (head_size + size) s)

-- all of one length, at most 57,344 bytes together
unfoldable pub fits_pool : (size : ℕ) → List ℕ → Bool
fits_pool size s = (length s % (head_size + size) == 0) && nat_le (length (concat (records_of size s))) most_pool

-- each begins as the first does
unfoldable pub is_one_head : (width : ℕ) → List ℕ → Bool
is_one_head width s = list_all (λ field. starts_with nat_eq field (take head_size s)) (fields_of width s)

-- records, each a field of tag 3: one or more
unfoldable pub records_in : List ℕ → Option (List (List ℕ))
records_in s = option_and_then (λ first.
    let size = length first.0 in
    if fits_pool size s && is_one_head (head_size + size) s then Some (records_of size s) else None) (split_field s record_tag)

-- how many bytes each of them has
unfoldable pub record_size_in : List ℕ → Option ℕ
record_size_in s = option_and_then (λ first.
    let size = length first.0 in
    if fits_pool size s && is_one_head (head_size + size) s then Some size else None) (split_field s record_tag)

abbrev pub is_end : List ℕ → Bool
is_end s = pointwise nat_eq s end_field

-- tag 255, length 0, last; nothing after it: what stands before it
abbrev pub before_end : List ℕ → Option (List ℕ)
before_end s = if is_end (drop (length s - length end_field) s) then Some (take (length s - length end_field) s) else None

-- the four bytes of a cluster size
abbrev pub cluster_size_in : List ℕ → Option ℕ
cluster_size_in bytes = if length bytes == 4 then Some (from_le_bytes w32 bytes) else None

-- the root, once, first; then the end, or a cluster size and records and the end
unfoldable pub captured : List ℕ → Option Contents
captured s =
    if nat_lt most_bytes (length s) then None
    else option_and_then (λ root.
    if is_end root.1 then Some (record { root = root.0; cluster_size = 0; records = [] })
    else option_and_then (λ cluster.
    option_and_then (λ size.
    option_and_then (λ fields.
    option_map (λ records. record { root = root.0; cluster_size = size; records = records }) (records_in fields))
    (before_end cluster.1)) (cluster_size_in cluster.0)) (split_field root.1 cluster_tag)) (split_field s root_tag)

-- how many bytes each record has, and the fields of all of them; with no records 0, and none
unfoldable pub captured_fields : List ℕ → Option (ℕ × List ℕ)
captured_fields s =
    if nat_lt most_bytes (length s) then None
    else option_and_then (λ root.
    if is_end root.1 then Some (0, [])
    else option_and_then (λ cluster.
    option_and_then (λ size.
    option_and_then (λ fields.
    option_map (λ record_size. (record_size, fields)) (record_size_in fields))
    (before_end cluster.1)) (cluster_size_in cluster.0)) (split_field root.1 cluster_tag)) (split_field s root_tag)

unfoldable pub parsed : List ℕ → Result Contents Refusal
parsed s = ok_or (captured s) MalformedCapture

-- the root's bytes, of a capture that is well formed
unfoldable pub root_of : List ℕ → List ℕ
root_of s = option_map_or (λ capture. capture.root) (captured s) []

-- in front of what was there before
abbrev pub put_over : (old bytes : List ℕ) → List ℕ
put_over old bytes = bytes ++ drop (length bytes) old

-- the records' bytes, end to end
unfoldable pub pool_of : List ℕ → List ℕ
pool_of s = option_map_or (λ capture. concat capture.records) (captured s) []
