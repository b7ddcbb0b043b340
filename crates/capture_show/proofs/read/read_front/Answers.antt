use Rattle.std.proofs.Common.{rules, ◌≡◌, ℕ, ◌+◌, ◌-◌, ◌≤◌, List, ◌++◌, arith, length, take, slice_range, sym, ap, ◌∙◌, subst, le_refl, drop_at, length-take-le}
use Rattle.std.proofs.Math.Seq.{take-add}
use Rattle.std.proofs.lemmas.List.{take-append-le}
use Rattle.std.proofs.lemmas.Slice.{take-put_mid_below}
use Rattle.std.specs.Io.KnownBytes.{Consumes}
use Rattle.std.proofs.KnownBytes.{Consumes-trans, Consumes-kept}
use borrow.Rule.Slice.PartMut.{put_mid, post_of}
use Rattle.capture_show.proofs.read.read_front.Goals as goal
use Rattle.capture_show.proofs.read.read_front.Goals.{in-Ok, in-Err+else-ne}

take_split : (a b : ℕ) (old new : List ℕ) → a ≤ b → take a new ≡ take a old → take a old ++ slice_range new a b ≡ take b new
take_split a b old new h front =
    let same : a + (b - a) ≡ b = omega arith in
    ap (λ l. l ++ slice_range new a b) (sym front) ∙ sym (take-add a (b - a) new) ∙ ap (λ n. take n new) same

slice_range-put_mid : (a k n : ℕ) (xs ys : List ℕ) → a ≤ length xs → n ≤ length ys → slice_range (put_mid a k xs ys) a (a + n) ≡ take n ys
slice_range-put_mid a k n xs ys within fits =
    let same : (a + n) - a ≡ n = omega arith in
    let after = post_of a k xs in
    ap (take ((a + n) - a)) (drop_at (take a xs) (ys ++ after) a (length-take-le a xs within)) ∙ ap (λ m. take m (ys ++ after)) same ∙ take-append-le n ys after fits

pub loop-turn-preserved : goal.loop-turn-preserved
loop-turn-preserved g c =
    let from = c.loop-turn.done in
    let space = length c.loop-turn.buffer - from in
    let within = c.loop-turn.invariant.within in
    elim c.match-read.branch [
      | in-Ok w ↦
          let part = slice_range-put_mid from space w.in-Ok.n c.loop-turn.buffer c.read.new.buf within w.in-Ok.ensures.bound.0 in
          let joined = take_split from (from + w.in-Ok.n) c.loop-turn.buffer (put_mid from space c.loop-turn.buffer c.read.new.buf) (omega arith) (take-put_mid_below _ _ _ _ _ (le_refl _) within) in
          rw w.done-is (record {
            room = search rules;
            within = search rules;
            lost = subst (Consumes _ _) (ap (λ l. take from c.loop-turn.buffer ++ l) (sym part) ∙ joined) (Consumes-trans _ _ _ _ _ c.loop-turn.invariant.lost w.in-Ok.ensures.bytes.0);
          })
      | in-Err+else-ne w ↦
          rw w.done-is (record {
            room = search rules;
            within = search rules;
            lost = subst (Consumes _ _) (sym (take-put_mid_below _ _ _ _ _ (le_refl _) within)) (Consumes-kept _ _ _ _ c.loop-turn.invariant.lost w.in-Err.ensures.bytes);
          })
    ]
