-- What the code takes and hands out, as the definitions have it.
use Rattle.std.specs.Prelude.{ℕ, List, Option, Some, None, Result, Ok, Err}
use Rattle.std.specs.Borrow.{Bor}
use Rattle.refusal.specs.declared.Fault.{Fault}
use Rattle.refusal.specs.declared.Refusal.{Refusal}
use Rattle.index_entry.specs.IndexEntry.{entry_bytes}
use Rattle.index_allocation.specs.declared.IndexAllocation.{IndexAllocation}
use Rattle.index_allocation.specs.Allocation.{Allocation}
use Rattle.index_allocation.specs.IndexAllocation.{pool_seen}
use Rattle.index_root.specs.IndexRoot.{root_seen}
use Rattle.directory.specs.declared.directory.Directory.{Directory}
use Rattle.directory.specs.declared.directory.OpenDirectory.{OpenDirectory}
use Rattle.directory.specs.declared.node.Node.{Node}
use Rattle.directory.specs.declared.node.PlacedEntry.{PlacedEntry}
use Rattle.directory.specs.declared.answer.Answer.{Answer}
use Rattle.directory.specs.Answer.{Answered, some, none, refused}
use Rattle.directory.specs.Lent.{Lent, Passed, EntryPlaced, NodeSeen}

abbrev pub lent : Directory → Lent
lent d = record { root = d.root.now; pool = d.pool.now; cluster_size = d.cluster_size }

abbrev pub allocation_seen : Option IndexAllocation → Option Allocation
allocation_seen (Some a) = Some (pool_seen a)
allocation_seen None = None

abbrev pub directory_seen : OpenDirectory → Passed
directory_seen d = record { root = root_seen d.root; allocation = allocation_seen d.allocation }

abbrev pub opened : Result OpenDirectory Refusal → Result Passed Refusal
opened (Ok d) = Ok (directory_seen d)
opened (Err refusal) = Err refusal

abbrev pub node_seen : Node → NodeSeen
node_seen node = record { bytes = node.bytes.now; start = node.start; end = node.end; place = node.place }

abbrev pub read : Result Node Refusal → Result NodeSeen Refusal
read (Ok node) = Ok (node_seen node)
read (Err refusal) = Err refusal

abbrev pub below : Result (Option Node) Refusal → Result (Option NodeSeen) Refusal
below (Ok (Some node)) = Ok (Some (node_seen node))
below (Ok None) = Ok None
below (Err refusal) = Err refusal

abbrev pub entry_seen : PlacedEntry → EntryPlaced
entry_seen entry = record { node = entry.node; at = entry.at; bytes = entry_bytes entry.entry }

abbrev pub made : Result PlacedEntry Refusal → Result EntryPlaced Refusal
made (Ok entry) = Ok (entry_seen entry)
made (Err refusal) = Err refusal

abbrev pub entry_read : Option (Result PlacedEntry Refusal) → Option (Result EntryPlaced Refusal)
entry_read (Some entry) = Some (made entry)
entry_read None = None

abbrev pub told : Result (Option PlacedEntry) Refusal → ℕ → Answered
told (Ok (Some entry)) o = some (entry_seen entry) o
told (Ok None) o = none o
told (Err refusal) o = refused refusal o

abbrev pub answer_seen : Result Answer Fault → Answered
answer_seen (Ok answer) = told (Ok answer.entry) answer.opened
answer_seen (Err fault) = Err fault

abbrev pub lent_bytes : Option (Bor (List ℕ)) → Option (List ℕ)
lent_bytes (Some bytes) = Some bytes.now
lent_bytes None = None
