-- The levels one after another.
use Rattle.std.proofs.Common.{◌≡◌, arith, ◌∙◌, sym, refl}
use Rattle.std.proofs.lemmas.Grind.{common_steps, take-set_at}
use Rattle.std.proofs.lemmas.List.{take_all}
use Rattle.c_api.specs.Words.{levels_from, cursor_from}
use Rattle.c_api.proofs.Cursors.{levels_from-next}
use Rattle.c_api.proofs.cursor.cursor_from.Goals as goal

pub loop-at-preserved : goal.loop-at-preserved
loop-at-preserved c = (
  grind (arith, common_steps, c.loop-at.invariant.0),
  take-set_at c.loop-at.level-items c.loop-at.at _ c.level_from.result refl (omega (arith, c.loop-at-test.true, c.loop-at.invariant.0))
      ∙ rw (c.loop-at.invariant.1, c.level_from.ensures, levels_from-next) refl,
)

pub returns : goal.returns
unfolding cursor_from
returns c =
    let all : c.loop-at.at ≡ 8 = omega (arith, c.loop-at.auto.at-end, c.loop-at-test.false) in
    let its : c.loop-at.level-items ≡ levels_from 8 c.args.words.now = sym (take_all 8 c.loop-at.level-items (omega (arith, c.loop-at.invariant.0)))
    ∙ rw all at c.loop-at.invariant.1 in
    rw (its, c.kept_from.ensures) refl
