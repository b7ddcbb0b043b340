use Rattle.std.proofs.Common.{◌≡◌, length}
use Rattle.upcase_table.specs.Names.{name_order}
use Rattle.upcase_table.proofs.in_turn.compare.Given as goal

-- what is left decides
abbrev pub invariant-loop-one : goal.invariant-loop-one
invariant-loop-one g l =
    name_order (g.T.Upcase.mapped l.table) (g.A.Units.units l.ours) (g.B.Units.units l.theirs)
    ≡ name_order (g.T.Upcase.mapped l.table) (g.A.Units.units l.initial.ours) (g.B.Units.units l.initial.theirs)

abbrev pub decreases-loop-one : goal.decreases-loop-one
decreases-loop-one g l = length (g.A.Units.units l.ours)
