use Rattle.std.proofs.Common.{◌+◌, ◌-◌, ◌++◌, rules, arith, length, take, sym, ap, ◌∙◌, subst, le_refl}
use Rattle.std.proofs.lemmas.Slice.{take-put_mid_below}
use Rattle.std.specs.Io.KnownBytes.{Consumes}
use Rattle.std.proofs.KnownBytes.{Consumes-trans}
use Rattle.replay_cases.proofs.Reading.{part_read, front_read}
use borrow.Rule.Slice.PartMut.{put_mid}
use Rattle.replay_cases.proofs.read.fill.Goals as goal

pub loop-done-preserved : goal.loop-done-preserved
loop-done-preserved g c =
    let from = c.loop-done.done in
    let room = length c.loop-done.bytes - from in
    let within = c.loop-done.invariant.within in
    let part = part_read from room c.in_ok-n.n c.loop-done.bytes c.read.new.buf within c.in_ok-n.ensures.bound.0 in
    let joined = front_read from (from + c.in_ok-n.n) c.loop-done.bytes (put_mid from room c.loop-done.bytes c.read.new.buf) (omega arith) (take-put_mid_below _ _ _ _ _ (le_refl _) within) in
    record { kept = search rules; within = search rules; so_far = subst (Consumes _ _) (ap (λ l. take from c.loop-done.bytes ++ l) (sym part) ∙ joined) (Consumes-trans _ _ _ _ _ c.loop-done.invariant.so_far c.in_ok-n.ensures.bytes.0) }
