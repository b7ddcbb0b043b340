-- What is promised of nodes, besides that each function is its definition.
use Rattle.std.specs.Prelude.{ℕ, ℤ, pos, ◌+◌, ◌*◌, ◌≤◌, ◌≡◌, Bool, List, length, take, drop, Ok}
use Rattle.index_root.specs.Root.{record_size_of}
use Rattle.index_allocation.specs.Allocation.{record_at}
use Rattle.directory.specs.declared.place.Place.{Place}
use Rattle.directory.specs.declared.place.Place.TheVariants.{Root, Record}
use Rattle.directory.specs.Answer.{some}
use Rattle.directory.specs.Lent.{Lent, Passed, EntryPlaced, NodeSeen}
use Rattle.directory.specs.Directory.{passed, node_in}
use Rattle.directory.specs.Node.{entry_in}
use Rattle.index.specs.declared.cursor.NodeName.{NodeName}
use Rattle.index.specs.declared.cursor.Cursor.{Cursor}
use Rattle.index.specs.Listing.{listing}
use Rattle.index.specs.Step.{name_of, node_at, step}
use Rattle.index_node.specs.Bytes.{part_of, view_bytes, place_bytes}
use Rattle.index_node.specs.Node.{view_of}
use Rattle.c_api.specs.Lies.{start_of}
use Rattle.c_api.specs.Words.{answer_words}
use Rattle.c_api_claims.specs.Places.{place_span, told_words}
use Rattle.index_run.specs.Run.{said_at}
use Rattle.collation.specs.Kind.{Kind}
use Rattle.index_finder.specs.Find.{find}
use Rattle.index_finder.specs.FileNames.{find_file_name}

-- record r at VCN v: it lies whole in the pool, at a multiple of the record size, and there is where the VCN says
pub record InPool (v : ℤ) (cluster size len r : ℕ) : Type 0 where
  pub number : ℕ
  pub not_negative : v ≡ pos number
  pub offset : r * size ≡ number * cluster
  pub whole : r * size + size ≤ len

abbrev pub RecordInPool : Type 0
RecordInPool = (v : ℤ) (cluster size len r : ℕ) → record_at v cluster size len ≡ Ok r → InPool v cluster size len r

abbrev pub OneVcn : Type 0
OneVcn = (v w : ℤ) (cluster size len r : ℕ) → record_at v cluster size len ≡ Ok r → record_at w cluster size len ≡ Ok r → v ≡ w

-- the bytes that hold a node's entries: the root, or the record of that number in the pool
abbrev pub held_by : Lent → Place → List ℕ
held_by d Root = d.root
held_by d (Record number vcn) = part_of d.pool (number * record_size_of d.root) (record_size_of d.root)

-- a record's VCN leads to its number
abbrev pub IsNode : Lent → Place → Type 0
IsNode d Root = Unit {0}
IsNode d (Record number vcn) = record_at vcn d.cluster_size (record_size_of d.root) (length d.pool) ≡ Ok number

-- the entry lies in its node, and there, and where `place_bytes` finds it by node, offset and length, are its bytes;
-- the numbers that an answer tells of it are those of its place
pub record IsItsPlace (d : Lent) (entry : EntryPlaced) : Type 0 where
  pub node : IsNode d entry.node
  pub inside : entry.at + length entry.bytes ≤ length (held_by d entry.node)
  pub held : part_of (held_by d entry.node) entry.at (length entry.bytes) ≡ entry.bytes
  pub bytes : place_bytes d (name_of entry.node) entry.at (length entry.bytes) ≡ entry.bytes
  pub told : (opened : ℕ) → answer_words d (some entry opened) ≡ told_words opened (place_span d (name_of entry.node) entry.at (length entry.bytes))

-- a node that was opened by its name is these bytes of what holds it, from where its place begins
abbrev pub IsViewed : Lent → NodeName → NodeSeen → Type 0
IsViewed d name node = view_bytes d name (start_of d node.place) (length node.bytes) ≡ node.bytes

-- the bytes handed out with an entry's place are the entry that stands there: of each entry of a node that was opened; so of each
-- that a step answers, whatever the cursor, of each that is listed, and of each that a lookup answers, by a file name or in any kind of key;
-- and of each of a record that was read, also where 1 to 7 refuse the directory; so of each of a node that was opened by its name
pub record PlaceIsEntry : Type 0 where
  pub record_read : (d : Lent) (vcn : ℤ) (number : ℕ) (node : NodeSeen) (at : ℕ) (entry : EntryPlaced)
      → record_at vcn d.cluster_size (record_size_of d.root) (length d.pool) ≡ Ok number
      → node_in (record { number = number; vcn = vcn; bytes = take (record_size_of d.root) (drop (number * record_size_of d.root) d.pool) }) ≡ Ok node
      → entry_in node at ≡ Ok entry → IsItsPlace d entry
  pub named : (d : Lent) (name : NodeName) (node : NodeSeen) (at : ℕ) (entry : EntryPlaced)
      → view_of d name ≡ Ok node → entry_in node at ≡ Ok entry → IsItsPlace d entry
  pub viewed : (d : Lent) (name : NodeName) (node : NodeSeen) → view_of d name ≡ Ok node → IsViewed d name node
  pub opened : (d : Lent) (p : Passed) (name : NodeName) (node : NodeSeen) (at : ℕ) (entry : EntryPlaced)
      → passed d ≡ Ok p → node_at p name ≡ Ok node → entry_in node at ≡ Ok entry → IsItsPlace d entry
  pub step : (d : Lent) (spent : ℕ → Bool) (cursor : Cursor) (entry : EntryPlaced) (opened : ℕ)
      → (step d spent cursor).answer ≡ some entry opened → IsItsPlace d entry
  pub listing : (d : Lent) (spent : ℕ → Bool) (at : ℕ) (entry : EntryPlaced) (opened : ℕ)
      → said_at (listing d spent) at ≡ some entry opened → IsItsPlace d entry
  pub lookup : (d : Lent) (spent : ℕ → Bool) (table name : List ℕ) (entry : EntryPlaced) (opened : ℕ)
      → find_file_name d spent table name ≡ some entry opened → IsItsPlace d entry
  pub lookup_of_kind : (d : Lent) (spent : ℕ → Bool) (kind : Kind (List ℕ)) (sought : List ℕ) (entry : EntryPlaced) (opened : ℕ)
      → find d spent kind sought ≡ some entry opened → IsItsPlace d entry
