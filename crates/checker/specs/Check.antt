-- Checking a directory: a recursion on the levels left, and in each node on its entries.
use Rattle.std.specs.Prelude.{zero, suc, ℕ, ℤ, ◌+◌, ◌-◌, nat_lt, ◌==◌, Bool, false, List, [], ◌∷◌, ◌++◌, length, drop}
use Rattle.std.specs.Prelude.{replicate, slice_index, slice_set, if◌then◌else◌, Option, Some, None, Result, Ok, Err}
use Rattle.directory.specs.Limits.{below_root}
use Rattle.std.specs.declared.cmp.Ordering.{Ordering}
use Rattle.std.specs.Ordering.{is_lt}
use Rattle.refusal.specs.declared.Fault.{Fault}
use Rattle.refusal.specs.declared.Refusal.{Refusal}
use Rattle.refusal.specs.declared.Refusal.TheVariants as refusals
use Rattle.refusal.specs.Then.{◌>>=◌}
use Rattle.collation.specs.Kind.{Kind, is_readable, key_to_key}
use Rattle.index_entry.specs.Entry.{is_last, key_of, subnode_of}
use Rattle.directory.specs.Answer.{fault_of}
use Rattle.index_allocation.specs.Allocation.{RecordPlaced}
use Rattle.directory.specs.Lent.{Lent, Passed, EntryPlaced, NodeSeen}
use Rattle.directory.specs.Directory.{passed, records_in, root_node, wanted, node_in}
use Rattle.directory.specs.Node.{Entries, first, entries_at, entries_of}

-- how far a check has come: the marks of the records, how many were reached, the key that was listed last
pub record State : Type 0 where
  pub marks : List ℕ
  pub opened : ℕ
  pub latest : Option (List ℕ)

abbrev pub fault : {A : Type 0} → Refusal → State → Result A Fault
fault refusal s = Err (fault_of refusal s.opened)

abbrev pub and_then : {A B : Type 0} → Result A Fault → (A → Result B Fault) → Result B Fault
and_then (Ok x) next = next x
and_then (Err its) next = Err its

-- each entry but a LAST_ENTRY has to have a key (24; 9) that can be read (18)
abbrev pub readable_key : {K : Type 0} → Kind K → Result (Option (List ℕ)) Refusal → Result (Option (List ℕ)) Refusal
readable_key kind (Ok (Some key)) = is_readable kind key >>= λ fine. Ok (Some key)
readable_key kind (Ok None) = Err refusals.KeyMissing
readable_key kind (Err refusal) = Err refusal

-- an entry by itself: 23 where it ends past the used end; a LAST_ENTRY has no key, and ends at the used end (23)
unfoldable pub key_in : {K : Type 0} → Kind K → (used ends : ℕ) → List ℕ → Result (Option (List ℕ)) Refusal
key_in kind used ends entry =
    if nat_lt used ends then Err refusals.NodeEnd
    else if is_last entry then (if ends == used then Ok None else Err refusals.NodeEnd)
    else readable_key kind (key_of entry)

-- an entry that was judged by itself: where it ends, its key (none for a LAST_ENTRY), its subnode's VCN
pub record Judged : Type 0 where
  pub ends : ℕ
  pub key : Option (List ℕ)
  pub vcn : Option ℤ

-- 23, 24, 9, 18, and 9 for the VCN
unfoldable pub judge : {K : Type 0} → Kind K → (used ends : ℕ) → List ℕ → Result Judged Refusal
judge kind used ends entry =
    key_in kind used ends entry >>= λ key.
    subnode_of entry >>= λ vcn.
    Ok (record { ends = ends; key = key; vcn = vcn })

abbrev pub is_less : Result Ordering Refusal → Bool
is_less (Ok order) = is_lt order
is_less (Err refusal) = false

-- whether a key's name is less than the one listed before it
unfoldable pub falls : {K : Type 0} → Kind K → Option (List ℕ) → List ℕ → Bool
falls kind (Some before) key = is_less (key_to_key kind key before)
falls kind None key = false

-- a record that is reached: 14 to 17
abbrev pub reach_record : Result NodeSeen Refusal → ℕ → State → Result (NodeSeen × State) Fault
reach_record (Ok node) number s = Ok (node, record s { marks = slice_set s.marks number 1; opened = s.opened + 1 })
reach_record (Err refusal) number s = fault refusal s

-- 22 where it has been reached before
abbrev pub reach_place : Result RecordPlaced Refusal → State → Result (NodeSeen × State) Fault
reach_place (Ok r) s = if slice_index s.marks r.number == 0 then reach_record (node_in r) r.number s else fault refusals.ReachedTwice s
reach_place (Err refusal) s = fault refusal s

-- the record that is a subnode: 10, 11, 13, 22, 14 to 17
unfoldable pub reach : Passed → ℕ → ℤ → State → Result (NodeSeen × State) Fault
reach d left vcn s = reach_place (wanted d.allocation left false vcn) s

-- what follows an entry's subnode: a LAST_ENTRY ends its node; a key's name may not fall (25)
abbrev pub on_rest : (Option (List ℕ) → List ℕ → Bool) → Option (List ℕ) → State → (State → Result State Fault) → Result State Fault
on_rest falls None s more = Ok s
on_rest falls (Some key) s more = if falls s.latest key then fault refusals.NameFalls s else more (record s { latest = Some key })

-- an entry's subnode, if it has one
abbrev pub check_subnode : (ℤ → State → Result State Fault) → Option ℤ → State → Result State Fault
check_subnode below (Some vcn) s = below vcn s
check_subnode below None s = Ok s

abbrev pub check_entry : (Option (List ℕ) → List ℕ → Bool) → (ℤ → State → Result State Fault) → Result Judged Refusal → State
    → (State → Result State Fault) → Result State Fault
check_entry falls below (Ok entry) s more = and_then (check_subnode below entry.vcn s) (λ x. on_rest falls entry.key x more)
check_entry falls below (Err refusal) s more = fault refusal s

-- a node's entries from `at` on; below: a record that is a subnode; a node that runs out without LAST_ENTRY: 23
abbrev pub check_node : {K : Type 0} → (used : ℕ) → Kind K → (Option (List ℕ) → List ℕ → Bool) → (ℤ → State → Result State Fault) → (at : ℕ)
    → Entries → State → Result State Fault
check_node used kind falls below at [] s = fault refusals.NodeEnd s
check_node used kind falls below at (Err refusal ∷ rest) s = fault refusal s
check_node used kind falls below at (Ok entry ∷ rest) s =
    check_entry falls below (judge kind used (at + length entry.bytes) entry.bytes) s (λ x. check_node used kind falls below (at + length entry.bytes) rest x)

-- those of a node with so many levels left below it
unfoldable pub check_entries : {K : Type 0} → Passed → Kind K → (left used at : ℕ) → Entries → State → Result State Fault
check_entries d kind zero used at entries s =
    check_node used kind (falls kind) (λ vcn x. and_then (reach d zero vcn x) (λ it. fault refusals.TooManyLevels it.1)) at entries s
check_entries d kind (suc left) used at entries s =
    check_node used kind (falls kind)
    (λ vcn x. and_then (reach d (suc left) vcn x) (λ it. check_entries d kind left it.0.end it.0.start (entries_of it.0) it.1)) at entries s

-- what stands at a position of a node: 23 where the node has run out, 8, and the entry's judgement
abbrev pub judge_first : {K : Type 0} → Kind K → (used at : ℕ) → Option (Result EntryPlaced Refusal) → Result Judged Refusal
judge_first kind used at (Some (Ok entry)) = judge kind used (at + length entry.bytes) entry.bytes
judge_first kind used at (Some (Err refusal)) = Err refusal
judge_first kind used at None = Err refusals.NodeEnd

unfoldable pub judge_at : {K : Type 0} → Kind K → NodeSeen → ℕ → Result Judged Refusal
judge_at kind node at = judge_first kind node.end at (first (entries_at node at))

-- a node from `at` on
unfoldable pub check_from : {K : Type 0} → Passed → Kind K → (left : ℕ) → NodeSeen → (at : ℕ) → State → Result State Fault
check_from d kind left node at s = check_entries d kind left node.end at (entries_at node at) s

abbrev pub as_subnode : NodeSeen × State → Result (Option NodeSeen × State) Fault
as_subnode it = Ok (Some it.0, it.1)

-- an entry's subnode, if it has one
unfoldable pub reach_below : Passed → ℕ → Option ℤ → State → Result (Option NodeSeen × State) Fault
reach_below d left (Some vcn) s = and_then (reach d left vcn s) as_subnode
reach_below d left None s = Ok (None, s)

-- its node has one level fewer left
abbrev pub check_reached : {K : Type 0} → Passed → Kind K → (left : ℕ) → Option NodeSeen → State → Result State Fault
check_reached d kind left (Some node) s = check_from d kind (left - 1) node node.start s
check_reached d kind left None s = Ok s

-- what a check answers, and the marks then
pub record Checked : Type 0 where
  pub verdict : Result ℕ Fault
  pub marks : List ℕ

-- no record marked; bytes past the record count stay
abbrev pub cleared : ℕ → List ℕ → List ℕ
cleared records marks = replicate records 0 ++ drop records marks

-- on a pass a mark for each record reached, else none
abbrev pub settled : ℕ → List ℕ → Result State Fault → Checked
settled records marks (Ok s) = record { verdict = Ok s.opened; marks = s.marks }
settled records marks (Err its) = record { verdict = Err its; marks = cleared records marks }

abbrev pub refused_at_once : Refusal → List ℕ → Checked
refused_at_once refusal marks = record { verdict = Err (fault_of refusal 0); marks = marks }

-- 21, then the walk from the root
abbrev pub check_root : {K : Type 0} → Kind K → List ℕ → Result Passed Refusal → Checked
check_root kind marks (Ok d) =
    let records = records_in d.allocation in
    let root = root_node d in
    if nat_lt (length marks) records then refused_at_once refusals.MarksTooShort marks
    else settled records marks (check_from d kind below_root root root.start (record { marks = cleared records marks; opened = 0; latest = None }))
check_root kind marks (Err refusal) = refused_at_once refusal marks

-- 1 to 7, 21, then the walk
unfoldable pub check : {K : Type 0} → Lent → Kind K → List ℕ → Checked
check d kind marks = check_root kind marks (passed d)
