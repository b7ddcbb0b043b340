-- Little-endian numbers in bytes.
use Rattle.std.specs.Prelude.{zero, suc, ℕ, ℤ, ◌+◌, ◌*◌, nat_le, List, length, slice_index, if◌then◌else◌}
use Rattle.std.specs.Int.{cast_signed, w64}

-- the number whose `count` bytes begin at `at`, the lowest first
abbrev pub bytes_at : ℕ → List ℕ → ℕ → ℕ
bytes_at zero bytes at = 0
bytes_at (suc count) bytes at = slice_index bytes at + 256 * bytes_at count bytes (at + 1)

-- the number of `count` bytes at `at`; one that does not lie in the bytes, first to last, is 0
abbrev pub le_at : ℕ → List ℕ → ℕ → ℕ
le_at count bytes at = if nat_le (at + count) (length bytes) then bytes_at count bytes at else 0

-- 64 bits in two's complement
abbrev pub signed64 : ℕ → ℤ
signed64 number = cast_signed w64 number

-- the signed number of 64 bits at `at`
unfoldable pub signed_at : List ℕ → ℕ → ℤ
signed_at bytes at = signed64 (le_at 8 bytes at)
