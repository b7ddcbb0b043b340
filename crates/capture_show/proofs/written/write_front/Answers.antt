use Rattle.std.proofs.Common.{◌≤◌, ◌-◌, length, arith}
use Rattle.capture_show.proofs.FrontLemmas.{front_at, front_kept, front_step, front_left}
use Rattle.std.proofs.KnownBytes.{Appends-kept}
use Rattle.capture_show.proofs.written.write_front.Goals as goal
use Rattle.capture_show.proofs.written.write_front.Goals.{in-Ok, in-Err+else-ne}

pub returns-in-Ok-eq0-clause-front : goal.returns-in-Ok-eq0-clause-front
returns-in-Ok-eq0-clause-front g c =
    front_at _ _ _ _ (front_step _ _ _ _ _ _ c.loop-turn.invariant.within c.loop-turn.invariant.wrote c.in-Ok-eq0.ensures.bytes)

pub returns-then-ne-clause-front : goal.returns-then-ne-clause-front
returns-then-ne-clause-front g c = front_kept _ _ _ _ _ c.loop-turn.invariant.wrote c.in-Err.ensures.bytes

pub loop-turn-preserved : goal.loop-turn-preserved
loop-turn-preserved g c =
    elim c.match-write.branch [
      | in-Ok w ↦
          let bound : w.in-Ok.n ≤ length c.args.bytes.now - c.loop-turn.done = omega (arith, front_left c.loop-turn.done w.in-Ok.n c.args.bytes.now w.in-Ok.ensures.bound) in
          let within = c.loop-turn.invariant.within in
          rw w.done-is (record { within = omega arith; wrote = front_step _ _ _ _ _ _ within c.loop-turn.invariant.wrote w.in-Ok.ensures.bytes })
      | in-Err+else-ne w ↦ rw w.done-is (record { within = c.loop-turn.invariant.within; wrote = Appends-kept _ _ _ _ c.loop-turn.invariant.wrote w.in-Err.ensures.bytes })
    ]

pub returns-clause-front : goal.returns-clause-front
returns-clause-front g c = front_at _ _ _ _ c.loop-turn.invariant.wrote
