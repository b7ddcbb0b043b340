-- What the code hands out, as bytes.
use Rattle.std.specs.Prelude.{ℕ, List, Option, Some, None, Result, Ok, Err}
use Rattle.refusal.specs.declared.Refusal.{Refusal}
use Rattle.capture.specs.declared.capture.Capture.{Capture}
use Rattle.capture.specs.Format.{Contents, records_of}

abbrev pub contents_of : Capture → Contents
contents_of capture = record { root = capture.root.now; cluster_size = capture.cluster_size; records = records_of capture.record_size capture.fields.now }

abbrev pub told : Result Capture Refusal → Result Contents Refusal
told (Ok capture) = Ok (contents_of capture)
told (Err refusal) = Err refusal

-- the two parts that no other function shows
abbrev pub parts_of : Capture → ℕ × List ℕ
parts_of capture = (capture.record_size, capture.fields.now)

abbrev pub parts_told : Result Capture Refusal → Option (ℕ × List ℕ)
parts_told (Ok capture) = Some (parts_of capture)
parts_told (Err refusal) = None
