use Rattle.std.proofs.Common.{rules, ◌≡◌, sym, ◌∙◌, subst, length, slice_range}
use Rattle.replay_cases.specs.Cases.{Fills}
use Rattle.replay_cases.proofs.Reading.{case_read, rest_read, tag_read}
use Rattle.replay_cases.proofs.read.read_case.Goals as goal

pub returns-clause-case : goal.returns-clause-case
returns-clause-case g c =
    let size = c.number_at-size.result in
    let sized : length c.fill-2.new.bytes ≡ size = search rules in
    let tag = tag_read c.fill.new.bytes c.min.result c.min.ensures in
    let left = g.R.Read.remaining in
    case_read (left c.args.reader.now) (left c.fill.new.reader) (left c.fill-2.new.reader) (length c.args.head.now) (length c.args.room.now)
    c.in_ok-fill.field-0 c.in_ok-fill-2.field-0 size c.fill.new.bytes c.fill-2.new.bytes (slice_range c.fill.new.bytes c.min.result (length c.fill.new.bytes))
    c.in_ok-fill.ensures.length (search rules) c.in_ok-fill.ensures.read c.number_at-size.ensures.value c.if-size-room.false sized c.if-branch-size.false
    (subst (λ k. Fills k (left c.fill.new.reader) (left c.fill-2.new.reader) c.fill-2.new.bytes c.in_ok-fill-2.field-0) (sym c.in_ok-fill-2.ensures.length ∙ sized) c.in_ok-fill-2.ensures.read) tag

pub returns-clause-rest : goal.returns-clause-rest
returns-clause-rest g c =
    let size = c.number_at-size.result in
    let sized : length c.fill-2.new.bytes ≡ size = search rules in
    let left = g.R.Read.remaining in
    rest_read (left c.args.reader.now) (left c.fill.new.reader) (left c.fill-2.new.reader) (length c.args.head.now) (length c.args.room.now)
    c.in_ok-fill.field-0 c.in_ok-fill-2.field-0 size c.fill.new.bytes c.fill-2.new.bytes
    c.in_ok-fill.ensures.length (search rules) c.in_ok-fill.ensures.read c.number_at-size.ensures.value c.if-size-room.false
    (subst (λ k. Fills k (left c.fill.new.reader) (left c.fill-2.new.reader) c.fill-2.new.bytes c.in_ok-fill-2.field-0) (sym c.in_ok-fill-2.ensures.length ∙ sized) c.in_ok-fill-2.ensures.read)
