-- A file reference: record number in the low 48 bits, sequence in the high 16, of the eight bytes.
use Rattle.std.specs.Prelude.{ℕ, ◌/◌, ◌%◌, ◌^◌, List}
use Rattle.le.specs.Le.{le_at}
use Rattle.file_reference.specs.declared.FileReference.{FileReference}

-- the first eight bytes; where there are fewer, 0
unfoldable pub reference_of : List ℕ → FileReference
reference_of s = record { raw = le_at 8 s 0 }

abbrev pub record_number_of : FileReference → ℕ
record_number_of f = f.raw % 2 ^ 48

abbrev pub sequence_of : FileReference → ℕ
sequence_of f = f.raw / 2 ^ 48
