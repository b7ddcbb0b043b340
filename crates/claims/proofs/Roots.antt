-- What a root is that 1 to 4 do not refuse.
use Rattle.std.proofs.Common.{ℕ, ◌≡◌, ◌<◌, ◌≤◌, List, length, take, arith, Ok}
use Rattle.std.proofs.lemmas.Grind.{common_steps}
use Rattle.index_root.specs.Root.{Root, root_of, record_size_of, start_of, used_end_of, is_large}

pub record IsRootOf (bytes : List ℕ) (root : Root) : Type 0 where
  pub is : root ≡ record { bytes = take (used_end_of bytes) bytes; start = start_of bytes; record_size = record_size_of bytes; large = is_large bytes }
  pub as_long : 32 ≤ length bytes
  pub start_inside : start_of bytes < length bytes
  pub used_inside : used_end_of bytes ≤ length bytes
  pub in_order : start_of bytes ≤ used_end_of bytes

pub root_of-inside : (bytes : List ℕ) (root : Root) → root_of bytes ≡ Ok root → IsRootOf bytes root
unfolding root_of
root_of-inside bytes root is = record {
  is = grind (arith, common_steps);
  as_long = grind (arith, common_steps);
  start_inside = grind (arith, common_steps);
  used_inside = grind (arith, common_steps);
  in_order = grind (arith, common_steps);
}
