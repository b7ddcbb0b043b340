-- A capture as it is written.
use Rattle.std.specs.Prelude.{ℕ, ◌/◌, ◌%◌, List, ◌∷◌, ◌++◌, length, map}
use Rattle.std.specs.List.{concat}
use Rattle.capture.specs.Format.{root_tag, cluster_tag, record_tag, end_field}

-- a field: its tag, the number of its bytes, the bytes
abbrev pub field_with : (tag : ℕ) → List ℕ → List ℕ
field_with tag bytes = tag ∷ length bytes % 256 ∷ length bytes / 256 ∷ bytes

-- the fields of records
abbrev pub fields_with : List (List ℕ) → List ℕ
fields_with records = concat (map (field_with record_tag) records)

-- a root, a cluster size, records
abbrev pub written : (root cluster_size : List ℕ) → List (List ℕ) → List ℕ
written root cluster_size records =
    field_with root_tag root ++ (field_with cluster_tag cluster_size ++ (fields_with records ++ end_field))
