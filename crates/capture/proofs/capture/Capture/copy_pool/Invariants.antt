-- `copy_pool`: what is written, and then what is left, is all; behind it the pool is as it was.
use Rattle.std.proofs.Common.{◌≡◌, ◌+◌}
use Rattle.std.specs.List.{concat}
use Rattle.std.specs.Slice.Iter.{chunks_exact_rest, chunks_exact_size}
use Rattle.capture.specs.Format.{records_of}
use Rattle.capture.specs.Contents.{contents_of}
use Rattle.capture.proofs.Laws.{Copied}
use Rattle.capture.proofs.capture.Capture.copy_pool.Given as goal

abbrev pub invariant-loop-field : goal.invariant-loop-field
invariant-loop-field l =
    (goal.iterator-loop-field).can_next l.field-iterator ×
    (goal.iterator-loop-field).is_finite l.field-iterator ×
    (chunks_exact_size l.field-iterator ≡ 3 + l.self.record_size) ×
    Copied (concat (contents_of l.self).records) l.initial.pool l.end l.pool
    (concat (records_of l.self.record_size (chunks_exact_rest l.field-iterator)))
