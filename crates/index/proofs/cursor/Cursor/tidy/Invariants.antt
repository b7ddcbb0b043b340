use Rattle.std.proofs.Common.{◌≡◌, ℕ, ◌<◌, ◌≤◌, length, get_or}
use Rattle.directory.specs.Limits.{level_limit}
use Rattle.index.specs.Cursor.{blank, frames}
use Rattle.index.proofs.cursor.Cursor.tidy.Given as goal

-- the levels stay, and the slots from them on are blank
abbrev pub invariant-loop-at : goal.invariant-loop-at
invariant-loop-at l = record {
  eight : length l.self.levels ≡ level_limit;
  depth : l.self.depth ≡ l.initial.self.depth;
  opened : l.self.opened ≡ l.initial.self.opened;
  kept : l.self.refusal ≡ l.initial.self.refusal;
  levels : frames l.self.levels l.initial.self.depth ≡ frames l.initial.self.levels l.initial.self.depth;
  blanks : (k : ℕ) → l.initial.self.depth ≤ k → k < l.at → get_or l.self.levels k blank ≡ blank;
}
