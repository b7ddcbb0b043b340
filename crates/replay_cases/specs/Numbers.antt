-- Numbers in bytes, the lowest byte first, and parts of them.
use Rattle.std.specs.Prelude.{ℕ, ◌+◌, List, [], cond, leb, length}
use Rattle.std.specs.List.{slice_range}
use Rattle.le.specs.Le.{le_at}

-- the number at `at`, or 0 where its four bytes do not lie in the bytes
abbrev pub number_in : List ℕ → ℕ → ℕ
number_in bytes at = le_at 4 bytes at

-- the part of `size` at `at`, or nothing where there is no whole one
abbrev pub part_in : List ℕ → ℕ → ℕ → List ℕ
part_in bytes at size = cond (leb (at + size) (length bytes)) (slice_range bytes at (at + size)) []
