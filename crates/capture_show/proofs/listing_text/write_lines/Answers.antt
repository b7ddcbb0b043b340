use Rattle.std.proofs.Common.{◌≡◌, ◌+◌, ◌-◌, ◌<◌, ◌++◌, ap, sym, ◌∙◌, arith}
use Rattle.std.proofs.lemmas.Grind.{common_steps}
use Rattle.std.proofs.lemmas.Result.{on_ok_weaker}
use Rattle.std.proofs.KnownBytes.{Appends-nil}
use Rattle.directory.specs.Answer.{some, none, refused}
use Rattle.directory.specs.Directory.{spent_at}
use Rattle.directory.specs.Seen.{lent, entry_seen}
use Rattle.index.specs.Step.{stand, step}
use Rattle.capture_show.specs.Text.{allowance, most_steps, lines_from}
use Rattle.capture_show.proofs.FrontLemmas.{written_more, written_all, written_front, written_part}
use Rattle.capture_show.proofs.TextLemmas.{lines_here, lines_done}
use Rattle.capture_show.proofs.listing_text.write_lines.Goals as goal

pub returns-in_err-write_front-in-Ok-Some-clause-front : goal.returns-in_err-write_front-in-Ok-Some-clause-front
returns-in_err-write_front-in-Ok-Some-clause-front g c =
    let more : 0 < most_steps - c.loop-step.step = omega arith in
    let is : stand (some (entry_seen c.in-Ok-Some.placed) c.in-Ok-Some.field-0.opened) c.step.new.self
    ≡ step (lent c.args.directory.now) (spent_at allowance) c.loop-step.cursor = grind (arith, common_steps) in
    let rest = lines_from (most_steps - c.loop-step.step - 1) (lent c.args.directory.now) c.step.new.self in
    written_part _ _ _ _ _ _ rest c.loop-step.invariant
    (lines_here _ (lent c.args.directory.now) c.loop-step.cursor _ _ more is ∙ ap (λ l. l ++ rest) (sym (c.as_slice.ensures.value ∙ c.bytes.ensures)))
    c.write_front.ensures.front

pub returns-in-Ok-None-clause-ok : goal.returns-in-Ok-None-clause-ok
returns-in-Ok-None-clause-ok g c =
    let more : 0 < most_steps - c.loop-step.step = omega arith in
    let is : stand (none c.in-Ok-None.field-0.opened) c.step.new.self
    ≡ step (lent c.args.directory.now) (spent_at allowance) c.loop-step.cursor = grind (arith, common_steps) in
    on_ok_weaker c.write_front-in-Ok-None.result (λ wrote. written_all _ _ _ _ _ _ c.loop-step.invariant
    (lines_here _ (lent c.args.directory.now) c.loop-step.cursor _ _ more is ∙ sym (c.as_slice-in-Ok-None.ensures.value ∙ c.bytes-in-Ok-None.ensures)) wrote)
    c.write_front-in-Ok-None.ensures.ok

pub returns-in-Ok-None-clause-front : goal.returns-in-Ok-None-clause-front
returns-in-Ok-None-clause-front g c =
    let more : 0 < most_steps - c.loop-step.step = omega arith in
    let is : stand (none c.in-Ok-None.field-0.opened) c.step.new.self
    ≡ step (lent c.args.directory.now) (spent_at allowance) c.loop-step.cursor = grind (arith, common_steps) in
    written_front _ _ _ _ _ _ c.loop-step.invariant
    (lines_here _ (lent c.args.directory.now) c.loop-step.cursor _ _ more is ∙ sym (c.as_slice-in-Ok-None.ensures.value ∙ c.bytes-in-Ok-None.ensures))
    c.write_front-in-Ok-None.ensures.front

pub returns-in-Err-clause-ok : goal.returns-in-Err-clause-ok
returns-in-Err-clause-ok g c =
    let more : 0 < most_steps - c.loop-step.step = omega arith in
    let is : stand (refused c.in-Err.fault.refusal c.in-Err.fault.opened) c.step.new.self
    ≡ step (lent c.args.directory.now) (spent_at allowance) c.loop-step.cursor = grind (arith, common_steps) in
    on_ok_weaker c.write_front-in-Err.result (λ wrote. written_all _ _ _ _ _ _ c.loop-step.invariant
    (lines_here _ (lent c.args.directory.now) c.loop-step.cursor _ _ more is ∙ sym (c.as_slice-in-Err.ensures.value ∙ c.bytes-in-Err.ensures)) wrote)
    c.write_front-in-Err.ensures.ok

pub returns-in-Err-clause-front : goal.returns-in-Err-clause-front
returns-in-Err-clause-front g c =
    let more : 0 < most_steps - c.loop-step.step = omega arith in
    let is : stand (refused c.in-Err.fault.refusal c.in-Err.fault.opened) c.step.new.self
    ≡ step (lent c.args.directory.now) (spent_at allowance) c.loop-step.cursor = grind (arith, common_steps) in
    written_front _ _ _ _ _ _ c.loop-step.invariant
    (lines_here _ (lent c.args.directory.now) c.loop-step.cursor _ _ more is ∙ sym (c.as_slice-in-Err.ensures.value ∙ c.bytes-in-Err.ensures))
    c.write_front-in-Err.ensures.front

pub loop-step-preserved : goal.loop-step-preserved
loop-step-preserved g c =
    let more : 0 < most_steps - c.loop-step.step = omega arith in
    let fewer : most_steps - c.loop-step.step - 1 ≡ most_steps - (c.loop-step.step + 1) = omega arith in
    let is : stand (some (entry_seen c.in-Ok-Some.placed) c.in-Ok-Some.field-0.opened) c.step.new.self
    ≡ step (lent c.args.directory.now) (spent_at allowance) c.loop-step.cursor = grind (arith, common_steps) in
    let rest = lines_from (most_steps - (c.loop-step.step + 1)) (lent c.args.directory.now) c.step.new.self in
    let first = sym (c.as_slice.ensures.value ∙ c.bytes.ensures) in
    written_more _ _ _ _ _ _ rest c.loop-step.invariant
    (lines_here _ (lent c.args.directory.now) c.loop-step.cursor _ _ more is
    ∙ (ap (λ l. l ++ lines_from (most_steps - c.loop-step.step - 1) (lent c.args.directory.now) c.step.new.self) first
    ∙ ap (λ n. c.as_slice.result.now ++ lines_from n (lent c.args.directory.now) c.step.new.self) fewer))
    c.in_ok-write_front-in-Ok-Some.ensures.ok

pub returns-clause-ok : goal.returns-clause-ok
returns-clause-ok g c =
    let ended : most_steps - c.loop-step.step ≡ 0 = omega arith in
    written_all _ _ _ _ _ _ c.loop-step.invariant (lines_done _ (lent c.args.directory.now) c.loop-step.cursor ended) (Appends-nil _)
