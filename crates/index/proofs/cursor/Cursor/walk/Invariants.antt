use Rattle.std.proofs.Common.{◌≡◌}
use Rattle.directory.specs.Directory.{spent_at}
use Rattle.directory.specs.Seen.{directory_seen}
use Rattle.index.specs.Cursor.{levels_of, IsTidy}
use Rattle.index.specs.Step.{walk, weight}
use Rattle.index.proofs.cursor.Cursor.walk.Given as goal

-- what comes out here is what comes out
abbrev pub invariant-turns : goal.invariant-turns
invariant-turns l = record {
  tidy : IsTidy l.self;
  kept : l.self.refusal ≡ l.initial.self.refusal;
  walk : walk (directory_seen l.directory) (spent_at l.allowance) (levels_of l.self) l.self.opened
      ≡ walk (directory_seen l.directory) (spent_at l.allowance) (levels_of l.initial.self) l.initial.self.opened;
}

abbrev pub decreases-turns : goal.decreases-turns
decreases-turns l = weight (levels_of l.self)
