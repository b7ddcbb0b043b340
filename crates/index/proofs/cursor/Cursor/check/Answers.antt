use Rattle.std.proofs.Common.{arith, sym, ◌∙◌}
use Rattle.std.proofs.lemmas.Grind.{common_steps}
use Rattle.directory.specs.Seen.{directory_seen}
use Rattle.index.proofs.Checks.{judge-broken}
use Rattle.index.specs.Step.{checked}
use Rattle.index.proofs.cursor.Cursor.check.Goals as goal

pub returns-in_err-judge-clause-is : goal.returns-in_err-judge-clause-is
unfolding checked
returns-in_err-judge-clause-is c =
    let broken =
    judge-broken (directory_seen c.in_ok-passed.passed) c.args.self.now.levels c.loop-level.level-index c.args.self.now.depth c.in_err-judge.field-0.0
    (omega arith) c.loop-level.invariant (sym c.judge.ensures ∙ c.in_err-judge.was) in
    grind (arith, common_steps)
