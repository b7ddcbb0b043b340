-- What is promised of captures, besides that each function is its definition.
use Rattle.std.specs.Prelude.{ℕ, ◌≤◌, ◌≡◌, List, ◌∷◌, length, All, Ok}
use Rattle.std.specs.List.{concat}
use Rattle.std.specs.Int.{from_le_bytes, w32}
use Rattle.capture.specs.Format.{most_bytes, most_pool, parsed}
use Rattle.capture.specs.Written.{written}

-- the number of records refuses none: one or more of one length, written as fields, are read as they were written
abbrev pub AnyNumberOfRecords : Type 0
AnyNumberOfRecords =
    (root cluster_size first : List ℕ) (records : List (List ℕ)) → length cluster_size ≡ 4
    → All (λ bytes. length bytes ≡ length first) records → length (concat (first ∷ records)) ≤ most_pool
    → length (written root cluster_size (first ∷ records)) ≤ most_bytes
    → parsed (written root cluster_size (first ∷ records))
    ≡ Ok (record { root = root; cluster_size = from_le_bytes w32 cluster_size; records = first ∷ records })
