-- The lines of a capture's listing: decimal numbers, upper-case hex, a space between, a newline at the end.
use Rattle.std.specs.Prelude.{ℕ, ◌+◌, ◌/◌, ◌%◌, List, [], ◌∷◌, ◌++◌, slice_index, nat_lt, if◌then◌else◌, Option, Some, None, Result, Ok, Err, codes, length}
use Rattle.std.specs.List.{flat_map}
use Rattle.std.specs.Simd.{first_chunks}
use Rattle.std.specs.Fmt.{decimal}
use Rattle.refusal.specs.declared.Refusal.{Refusal}
use Rattle.refusal.specs.Number.{number_of}
use Rattle.file_reference.specs.Reference.{reference_of, record_number_of, sequence_of}
use Rattle.index_entry.specs.Entry.{key_of}
use Rattle.file_name.specs.Key.{name_of}
use Rattle.file_name.specs.FileName.{namespace_code}
use Rattle.file_name.specs.declared.file_name.FileName.{FileName}

-- an upper-case hex digit
abbrev pub hex_digit : ℕ → ℕ
hex_digit d = if nat_lt d 10 then 48 + d else 55 + d

abbrev pub hex_byte : ℕ → List ℕ
hex_byte byte = hex_digit (byte / 16) ∷ hex_digit (byte % 16) ∷ []

-- a unit as four hex digits; its low byte stands first in the pair, and last in the text
abbrev pub hex_pair : List ℕ → List ℕ
hex_pair pair = hex_byte (slice_index pair 1) ++ hex_byte (slice_index pair 0)

abbrev pub hex_pairs : List (List ℕ) → List ℕ
hex_pairs pairs = flat_map hex_pair pairs

-- a name's units without gaps; `.` for a name of none
abbrev pub units_text : List (List ℕ) → List ℕ
units_text [] = codes "."
units_text (pair ∷ pairs) = hex_pairs (pair ∷ pairs)

abbrev pub name_text : List ℕ → List ℕ
name_text name = units_text (first_chunks 2 (length name / 2) name)

-- a space, and then the text
abbrev pub spaced : List ℕ → List ℕ
spaced text = 32 ∷ text

-- a text with a newline behind it
abbrev pub ended : List ℕ → List ℕ
ended text = text ++ 10 ∷ []

-- `- -` where the key is absent or reading it gives 9 or 18
abbrev pub unreadable : List ℕ
unreadable = codes "- -"

-- namespace and name
abbrev pub key_text : Result (List ℕ) Refusal → List ℕ → List ℕ
key_text (Ok name) key = decimal (slice_index key 65) ++ spaced (name_text name)
key_text (Err refusal) key = unreadable

abbrev pub key_part_text : Result (Option (List ℕ)) Refusal → List ℕ
key_part_text (Ok (Some key)) = key_text (name_of key) key
key_part_text (Ok None) = unreadable
key_part_text (Err refusal) = unreadable

-- per entry: record number, sequence, namespace, units
abbrev pub line_of : List ℕ → List ℕ
line_of entry =
    ended (decimal (record_number_of (reference_of entry)) ++ spaced (decimal (sequence_of (reference_of entry)) ++ spaced (key_part_text (key_of entry))))

-- `opened N`, or `refused R` in its place
abbrev pub opened_line : ℕ → List ℕ
opened_line opened = ended (codes "opened " ++ decimal opened)

abbrev pub refused_line : Refusal → List ℕ
refused_line refusal = ended (codes "refused " ++ decimal (number_of refusal))

abbrev pub closing_line : Result ℕ Refusal → List ℕ
closing_line (Ok opened) = opened_line opened
closing_line (Err refusal) = refused_line refusal

-- a name that was read, as the code has it
abbrev pub named_text : Option FileName → List ℕ
named_text (Some name) = decimal (namespace_code name.namespace) ++ spaced (name_text name.units.now)
named_text None = unreadable
