use Rattle.std.proofs.Common.{◌∙◌, arith, length-set}
use Rattle.std.proofs.lemmas.Grind.{common_steps}
use Rattle.index.specs.Cursor.{blank}
use Rattle.index.proofs.Frames.{frames-set, slots-cleared}
use Rattle.index.proofs.cursor.Cursor.tidy.Goals as goal

pub loop-at-preserved : goal.loop-at-preserved
loop-at-preserved c = record {
  eight = simp length-set c.loop-at.invariant.eight;
  depth = c.loop-at.invariant.depth;
  opened = c.loop-at.invariant.opened;
  kept = c.loop-at.invariant.kept;
  levels = frames-set c.loop-at.self.levels c.loop-at.at c.args.self.now.depth blank (omega arith) ∙ c.loop-at.invariant.levels;
  blanks = λ k from below. grind (arith, common_steps, c.loop-at.invariant.blanks k);
}

pub returns-clause-tidy : goal.returns-clause-tidy
returns-clause-tidy c = record {
  within = omega arith;
  blanks =
      slots-cleared c.loop-at.self.levels c.loop-at.self.depth c.loop-at.invariant.eight (omega arith)
      (λ at from inside. c.loop-at.invariant.blanks at (omega arith) (omega arith));
}
