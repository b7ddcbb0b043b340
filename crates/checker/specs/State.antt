-- The code's state and answers, as the definitions have them.
use Rattle.std.specs.Prelude.{ℕ, ◌==◌, List, Option, Some, None, Result, Ok, Err, count_by}
use Rattle.std.specs.Borrow.{Bor}
use Rattle.refusal.specs.declared.Fault.{Fault}
use Rattle.refusal.specs.declared.Refusal.{Refusal}
use Rattle.directory.specs.declared.node.Node.{Node}
use Rattle.directory.specs.Lent.{NodeSeen}
use Rattle.directory.specs.Seen.{node_seen}
use Rattle.checker.specs.declared.walk.JudgedEntry.{JudgedEntry}
use Rattle.checker.specs.declared.walk.Progress.{Progress}
use Rattle.checker.specs.Check.{State, Judged, fault, Checked}

abbrev pub key_kept : Option (Bor (List ℕ)) → Option (List ℕ)
key_kept (Some key) = Some key.now
key_kept None = None

abbrev pub state : List ℕ → Progress → State
state marks progress = record { marks = marks; opened = progress.opened; latest = key_kept progress.latest }

abbrev pub entry_judged : JudgedEntry → Judged
entry_judged entry = record { ends = entry.ends; key = key_kept entry.key; vcn = entry.vcn }

abbrev pub judged : Result JudgedEntry Refusal → Result Judged Refusal
judged (Ok entry) = Ok (entry_judged entry)
judged (Err refusal) = Err refusal

abbrev pub reached : Result Node Refusal → List ℕ → Progress → Result (NodeSeen × State) Fault
reached (Ok node) marks progress = Ok (node_seen node, state marks progress)
reached (Err refusal) marks progress = fault refusal (state marks progress)

abbrev pub reached_below : Result (Option Node) Refusal → List ℕ → Progress → Result (Option NodeSeen × State) Fault
reached_below (Ok (Some node)) marks progress = Ok (Some (node_seen node), state marks progress)
reached_below (Ok None) marks progress = Ok (None, state marks progress)
reached_below (Err refusal) marks progress = fault refusal (state marks progress)

-- how many records have no mark
unfoldable pub unmarked : List ℕ → ℕ
unmarked marks = count_by (λ mark. mark == 0) marks

abbrev pub came_out : Result (Unit {0}) Refusal → List ℕ → Progress → Result State Fault
came_out (Ok fine) marks progress = Ok (state marks progress)
came_out (Err refusal) marks progress = fault refusal (state marks progress)

abbrev pub checked : Result ℕ Fault → List ℕ → Checked
checked verdict marks = record { verdict = verdict; marks = marks }
