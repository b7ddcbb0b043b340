-- The numbers of each level follow those before it.
use Rattle.std.proofs.Common.{◌≡◌, ◌<◌, ◌++◌, length, slice_index_or, arith, ◌∙◌, sym, refl, ap}
use Rattle.std.proofs.lemmas.Grind.{common_steps}
use Rattle.std.proofs.lemmas.List.{take_all}
use Rattle.std.proofs.lemmas.Slice.{take-put_mid}
use Rattle.index.specs.Cursor.{blank}
use Rattle.c_api.specs.Words.{level_words, cursor_words}
use Rattle.c_api.proofs.Cursors.{levels_words-next}
use Rattle.c_api.proofs.cursor.cursor_words.Goals as goal

pub loop-at-preserved : goal.loop-at-preserved
loop-at-preserved c =
    let its : c.copy_from_slice.new.self ≡ level_words (slice_index_or c.args.cursor.now.levels c.loop-at.at blank) = c.copy_from_slice.ensures.after
    ∙ c.level_words.ensures in
    let long : length c.copy_from_slice.new.self ≡ 5 = ap length its in
    let inside : c.loop-at.at < 8 = c.loop-at-test.true in (
      grind (arith, common_steps, long, inside, c.loop-at.invariant.0),
      take-put_mid _ _ c.loop-at.words c.copy_from_slice.new.self _ (omega (arith, long)) (omega (arith, inside, c.loop-at.invariant.0))
          ∙ ap (λ ws. ws ++ c.copy_from_slice.new.self) c.loop-at.invariant.1
          ∙ rw (its, levels_words-next) refl,
    )

pub returns : goal.returns
unfolding cursor_words
returns c =
    let all : c.loop-at.at ≡ 8 = omega (arith, c.loop-at.auto.at-end, c.loop-at-test.false) in
    sym (take_all 43 c.loop-at.words (omega (arith, c.loop-at.invariant.0))) ∙ rw all at c.loop-at.invariant.1
