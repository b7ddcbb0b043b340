-- `is_one_head`: one that does not agree settles it.
use Rattle.std.proofs.Common.{◌<◌, nat_eq, take, sym, ◌∙◌, arith}
use Rattle.std.specs.List.{starts_with}
use Rattle.capture.specs.Format.{is_one_head}
use Rattle.capture.proofs.Laws.{not_all}
use Rattle.capture.proofs.capture.is_one_head.Goals as goal

pub returns-then-not-starts_with : goal.returns-then-not-starts_with
unfolding is_one_head
returns-then-not-starts_with c =
    let steps = c.in-Some.ensures.steps in
    let so_far = c.loop-field.invariant in
    let wide = c.requires.0 in
    let some : 0 < c.args.width = omega arith in
    not_all (λ field. starts_with nat_eq field (take 3 c.args.fields.now)) c.args.width _ c.in-Some.field.now _ some steps.1.0
    (steps.1.1 ∙ so_far.2) (sym c.starts_with.ensures.value ∙ c.if-not-starts_with.true)
    ∙ so_far.3
