-- A root, as the code has it.
use Rattle.std.specs.Prelude.{Result, Ok, Err}
use Rattle.refusal.specs.declared.Refusal.{Refusal}
use Rattle.index_root.specs.declared.IndexRoot.{IndexRoot}
use Rattle.index_root.specs.Root.{Root}

abbrev pub root_seen : IndexRoot → Root
root_seen root = record { bytes = root.bytes.now; start = root.start; record_size = root.record_size; large = root.large }

abbrev pub read : Result IndexRoot Refusal → Result Root Refusal
read (Ok root) = Ok (root_seen root)
read (Err refusal) = Err refusal
