-- What is promised of the leaves, besides that each function is its definition.
use Rattle.std.specs.Prelude.{ℕ, ◌≤◌, ◌<◌, ◌≡◌, ◌⊎◌, List, length, slice_index, Ok}
use Rattle.std.specs.declared.cmp.Ordering.{Ordering}
use Rattle.std.specs.declared.cmp.Ordering.TheVariants.{Less, Equal}
use Rattle.std.specs.Ordering.{ordering_reverse}
use Rattle.le.specs.Le.{le_at}
use Rattle.file_reference.specs.Reference.{reference_of, record_number_of, sequence_of}
use Rattle.index_entry.specs.Entry.{entry_length_of, entry_at}
use Rattle.upcase_table.specs.Names.{name_order}

-- b is not less than a
abbrev pub NotLess : {K : Type 0} → (K → K → Ordering) → K → K → Type 0
NotLess order a b = order b a ≡ Less → ⊥

pub record Total {K : Type 0} (order : K → K → Ordering) : Type 0 where
  pub reflexive : (a : K) → order a a ≡ Equal
  pub transitive : (a b c : K) → NotLess order a b → NotLess order b c → NotLess order a c
  pub connected : (a b : K) → NotLess order a b ⊎ NotLess order b a
  pub exchange : (a b : K) → order b a ≡ ordering_reverse (order a b)

-- under every table the order of names is reflexive, transitive and connected, and agrees under exchange
abbrev pub NamesTotal : Type 0
NamesTotal = (upcase : ℕ → ℕ) → Total (name_order upcase)

-- the bytes of an entry are as many as its length field says
abbrev pub EntryAsLong : Type 0
EntryAsLong = (node : List ℕ) (at : ℕ) (entry : List ℕ) → entry_at node at ≡ Ok entry → entry_length_of entry ≡ length entry

-- the record number is the number of the first six bytes, the sequence that of the next two
pub record Split (bytes : List ℕ) : Type 0 where
  pub record_number : record_number_of (reference_of bytes) ≡ le_at 6 bytes 0
  pub sequence : sequence_of (reference_of bytes) ≡ le_at 2 bytes 6

abbrev pub ReferenceSplit : Type 0
ReferenceSplit = (bytes : List ℕ) → ((at : ℕ) → slice_index bytes at < 256) → 8 ≤ length bytes → Split bytes
