-- A name lies within its key.
use Rattle.std.proofs.Common.{ℕ, ◌+◌, ◌*◌, ◌≤◌, ◌≡◌, List, length, slice_index, Ok, arith}
use Rattle.std.proofs.lemmas.Grind.{common_steps}
use Rattle.file_name.specs.Key.{name_of}

pub within : (key name : List ℕ) → name_of key ≡ Ok name → 66 + 2 * slice_index key 64 ≤ length key
within key name is = grind (arith, common_steps)
