-- What the code reads of a name, as the definitions have it.
use Rattle.std.specs.Prelude.{◌/◌, length, Option, Some, None, Result, Ok, Err}
use Rattle.refusal.specs.declared.Refusal.{Refusal}
use Rattle.file_name.specs.declared.file_name.FileName.{FileName}
use Rattle.file_name.specs.FileName.{namespace_code}
use Rattle.c_api.specs.Words.{KeyName}

abbrev pub name_seen : FileName → KeyName
name_seen name = record { namespace = namespace_code name.namespace; units = length name.units.now / 2 }

abbrev pub named : Result (Option FileName) Refusal → Result (Option KeyName) Refusal
named (Ok (Some name)) = Ok (Some (name_seen name))
named (Ok None) = Ok None
named (Err refusal) = Err refusal
