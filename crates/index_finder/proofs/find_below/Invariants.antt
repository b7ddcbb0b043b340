use Rattle.std.proofs.Common.{◌≡◌}
use Rattle.directory.specs.Seen.{directory_seen, node_seen}
use Rattle.directory.specs.Node.{entries_of}
use Rattle.index_finder.specs.Find.{find_below}
use Rattle.directory.specs.Directory.{spent_at}
use Rattle.index_finder.proofs.find_below.Given as goal

-- what is found below here is what is found below the top
abbrev pub invariant-levels : goal.invariant-levels
invariant-levels g l =
    let found = find_below (directory_seen l.directory) (spent_at l.allowance) (g.C.Collation.kind l.collation) (g.C.Collation.name l.sought) in
    found l.left (entries_of (node_seen l.node)) l.opened ≡ found l.initial.left (entries_of (node_seen l.initial.node)) l.initial.opened

abbrev pub decreases-levels : goal.decreases-levels
decreases-levels g l = l.left

abbrev pub invariant-loop-entry : goal.invariant-loop-entry
invariant-loop-entry g l =
    let found = find_below (directory_seen l.directory) (spent_at l.allowance) (g.C.Collation.kind l.collation) (g.C.Collation.name l.sought) in
    (goal.iterator-loop-entry g).can_next l.entry-iterator ×
    (goal.iterator-loop-entry g).is_finite l.entry-iterator ×
    (l.left ≡ l.initial.left) ×
    (found l.left l.entry-iterator l.opened ≡ found l.initial.left l.initial.entry-iterator l.initial.opened)
