-- The three numbers of any place: holder, offset, size.
use Rattle.std.specs.Prelude.{ℕ, ◌+◌, ◌*◌, ◌≤◌, ◌≡◌, nat_le, Bool, true, false, List, [], ◌∷◌, length, Result, Ok, Err}
use Rattle.refusal.specs.declared.Refusal.{Refusal}
use Rattle.index_root.specs.Root.{record_size_of}
use Rattle.index_allocation.specs.Allocation.{record_at}
use Rattle.directory.specs.Lent.{Lent}
use Rattle.index.specs.declared.cursor.NodeName.{NodeName}
use Rattle.index.specs.declared.cursor.NodeName.TheVariants.{Root, Record}
use Rattle.index_node.specs.Bytes.{part_of}
use Rattle.c_api.specs.Lies.{held_by}

pub record Span : Type 0 where
  pub holder : ℕ
  pub offset : ℕ
  pub size : ℕ

abbrev pub span_at : (holder offset size : ℕ) → Span
span_at holder offset size = record { holder = holder; offset = offset; size = size }

-- a place in a node that begins at one of its holder's bytes; offset and size are 0 where it does not lie in the node
abbrev pub span_where : (inside : Bool) → (holder from at size : ℕ) → Span
span_where true holder from at size = span_at holder (from + at) size
span_where false holder from at size = span_at holder 0 0

-- of a node that has len bytes
abbrev pub span_in : (holder from len at size : ℕ) → Span
span_in holder from len at size = span_where (nat_le (at + size) len) holder from at size

abbrev pub span_in_record : Lent → Result ℕ Refusal → (at size : ℕ) → Span
span_in_record d (Ok number) at size = span_in 1 (number * record_size_of d.root) (record_size_of d.root) at size
span_in_record d (Err refusal) at size = span_at 1 0 0

-- of any node, by its name; a VCN that leads nowhere has no bytes
unfoldable pub place_span : Lent → NodeName → (at size : ℕ) → Span
place_span d Root at size = span_in 0 0 (length d.root) at size
place_span d (Record vcn) at size = span_in_record d (record_at vcn d.cluster_size (record_size_of d.root) (length d.pool)) at size

-- offset and size lie in the slice that the holder names, and are these bytes there
pub record SpanNames (d : Lent) (span : Span) (bytes : List ℕ) : Type 0 where
  pub within : span.offset + span.size ≤ length (held_by d span.holder)
  pub same : part_of (held_by d span.holder) span.offset span.size ≡ bytes

-- the six numbers of an answer that tells of such bytes
abbrev pub told_words : ℕ → Span → List ℕ
told_words opened span = 1 ∷ 0 ∷ opened ∷ span.holder ∷ span.offset ∷ span.size ∷ []
