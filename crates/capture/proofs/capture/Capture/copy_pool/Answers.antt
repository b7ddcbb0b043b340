-- `copy_pool`: each record is copied behind the last, and there is room for all of them.
use Rattle.std.proofs.Common.{◌≡◌, ◌≤◌, ◌<◌, ◌+◌, ◌-◌, length, take, drop, subst, ◌∙◌, arith}
use Rattle.std.specs.Slice.Iter.{chunks_exact_rest}
use Rattle.capture.proofs.Laws.{next_record, no_record, room_left, copy_on, copied}
use Rattle.capture.proofs.capture.Capture.copy_pool.Goals as goal

pub put_at-requires : goal.put_at-requires
put_at-requires c =
    let steps = c.in-Some.ensures.steps in
    let so_far = c.loop-field.invariant in
    let field = c.in-Some.field.now in
    let bytes = take (length field - 3) (drop 3 field) in
    let next = next_record c.args.self.now.record_size (chunks_exact_rest c.loop-field.field-iterator) field (chunks_exact_rest c.next.new.self)
    steps.1.0 (steps.1.1 ∙ so_far.2) in
    let room : c.loop-field.end + length bytes ≤ length c.args.pool.now = room_left so_far.3 bytes _ next in
    let long : length c.loop-field.pool ≡ length c.args.pool.now = so_far.3.long in
    omega arith

pub loop-field-preserved : goal.loop-field-preserved
loop-field-preserved c =
    let steps = c.in-Some.ensures.steps in
    let so_far = c.loop-field.invariant in
    let field = c.in-Some.field.now in
    let next = next_record c.args.self.now.record_size (chunks_exact_rest c.loop-field.field-iterator) field (chunks_exact_rest c.next.new.self)
    steps.1.0 (steps.1.1 ∙ so_far.2) in
    (omega arith, tt, steps.0 ∙ so_far.2, copy_on so_far.3 (take (length field - 3) (drop 3 field)) _ c.put_at.new.pool next c.put_at.ensures)

pub returns-clause-value : goal.returns-clause-value
returns-clause-value c =
    let so_far = c.loop-field.invariant in
    let rest = chunks_exact_rest c.loop-field.field-iterator in
    let short : length rest < 3 + c.args.self.now.record_size = subst (λ n. length rest < n) so_far.2 c.in-None.ensures.steps.1.0 in
    (copied so_far.3 (no_record c.args.self.now.record_size rest short)).0

pub returns-clause-pool_after : goal.returns-clause-pool_after
returns-clause-pool_after c =
    let so_far = c.loop-field.invariant in
    let rest = chunks_exact_rest c.loop-field.field-iterator in
    let short : length rest < 3 + c.args.self.now.record_size = subst (λ n. length rest < n) so_far.2 c.in-None.ensures.steps.1.0 in
    (copied so_far.3 (no_record c.args.self.now.record_size rest short)).1
