-- `is_one_head`: whether those that are left agree is whether all do.
use Rattle.std.proofs.Common.{◌≡◌, nat_eq}
use Rattle.std.specs.List.{list_all, starts_with}
use Rattle.std.specs.Slice.Iter.{chunks_exact_rest, chunks_exact_size}
use Rattle.capture.specs.Format.{fields_of}
use Rattle.capture.proofs.capture.is_one_head.Given as goal

abbrev pub invariant-loop-field : goal.invariant-loop-field
invariant-loop-field l =
    (goal.iterator-loop-field).can_next l.field-iterator ×
    (goal.iterator-loop-field).is_finite l.field-iterator ×
    (chunks_exact_size l.field-iterator ≡ l.width) ×
    (list_all (λ field. starts_with nat_eq field l.head) (fields_of l.width (chunks_exact_rest l.field-iterator))
    ≡ list_all (λ field. starts_with nat_eq field l.head) (fields_of l.width l.fields))
