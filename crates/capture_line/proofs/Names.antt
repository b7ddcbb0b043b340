-- How long a name is that a key reads as.
use Rattle.std.proofs.lemmas.Grind.{common_steps}
use Rattle.std.proofs.Common.{arith, ℕ, ◌≡◌, ◌≤◌, ◌<◌, ◌^◌, List, length, Ok, Err, IfSome, Result}
use Rattle.std.specs.Prelude.{slice_index}
use Rattle.std.specs.Borrow.{Bor}
use Rattle.std.specs.Result.{result_ok}
use Rattle.refusal.specs.declared.Refusal.{Refusal}
use Rattle.file_name.specs.declared.file_name.FileName.{FileName}
use Rattle.file_name.specs.Key.{name_of}
use Rattle.file_name.specs.FileName.{IsReadFrom}

-- no longer than its length byte says
bytes_short : (key bytes : List ℕ) → slice_index key 64 < 2 ^ 8 → name_of key ≡ Ok bytes → length bytes ≤ 510
bytes_short key bytes small e = grind (arith, common_steps)

pub name_short : (key : Bor (List ℕ)) (r : Result FileName Refusal) → slice_index key.now 64 < 2 ^ 8 → IsReadFrom key r
    → IfSome (result_ok r) (λ name. length name.units.now ≤ 510)
name_short key (Ok name) small h = bytes_short key.now name.units.now small h.0
name_short key (Err refusal) small h = tt
