use Rattle.std.proofs.Common.{◌≡◌, ◌+◌, ◌-◌, ◌<◌, ◌^◌, length, drop}
use Rattle.directory.specs.Directory.{records_in}
use Rattle.directory.specs.Seen.{directory_seen, node_seen}
use Rattle.checker.specs.State.{state, unmarked}
use Rattle.checker.specs.Check.{check_from}
use Rattle.checker.proofs.walk.+check_node.Given as goal

-- the answer for what is left is the answer
abbrev pub invariant-entries : goal.invariant-entries
invariant-entries g l =
    let from = check_from (directory_seen l.directory) (g.C.Collation.kind l.collation) l.left (node_seen l.node) in record {
      room : l.progress.opened + unmarked l.marks < 2 ^ 64;
      past : drop (records_in (directory_seen l.directory).allocation) l.marks ≡ drop (records_in (directory_seen l.directory).allocation) l.initial.marks;
      check : from l.at (state l.marks l.progress) ≡ from l.initial.at (state l.initial.marks l.initial.progress);
    }

abbrev pub decreases-entries : goal.decreases-entries
decreases-entries g l = length l.node.bytes.now - l.at

abbrev pub decreases-check_node : goal.decreases-check_node
decreases-check_node g l = l.left
