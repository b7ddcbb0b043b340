-- The units of a name, two bytes each.
use Rattle.std.proofs.Common.{ℕ, zero, suc, ◌+◌, ◌*◌, ◌/◌, ◌<◌, ◌≡◌, List, [], ◌∷◌, length, slice_index, refl, arith}
use Rattle.upcase_table.specs.Names.{units_of}

-- there are half as many units as bytes
pub units_length : (s : List ℕ) → length (units_of s) ≡ length s / 2
units_length [] = refl
units_length (x ∷ []) = refl
units_length (x ∷ (y ∷ rest)) = let ih = units_length rest in omega arith

-- the unit at k is the two bytes at 2 * k
pub unit_at : (s : List ℕ) (k : ℕ) → k < length s / 2
    → slice_index s (2 * k) + 256 * slice_index s (2 * k + 1) ≡ slice_index (units_of s) k
unit_at [] k h = absurd (omega arith)
unit_at (x ∷ []) k h = absurd (omega arith)
unit_at (x ∷ (y ∷ rest)) zero h = refl
unit_at (x ∷ (y ∷ rest)) (suc k) h =
    let ih = unit_at rest k (omega arith) in
    let e : 2 * suc k ≡ suc (suc (2 * k)) = omega arith in
    let f : suc (suc (2 * k)) + 1 ≡ suc (suc (2 * k + 1)) = omega arith in
    rw (e, f) ih
