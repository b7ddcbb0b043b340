-- The units in bytes, by their place.
use Rattle.std.proofs.Common.{zero, suc, ℕ, ◌≡◌, ◌+◌, ◌*◌, ◌/◌, ◌<◌, ◌≤◌, List, [], ◌∷◌, length, get_or, refl, arith}
use Rattle.std.proofs.lemmas.Grind.{common_steps}
use Rattle.upcase_table.specs.Names.{units_of}

-- there are half as many units as bytes
pub units_of-length : (bytes : List ℕ) → length (units_of bytes) ≡ length bytes / 2
units_of-length [] = refl
units_of-length (low ∷ []) = refl
units_of-length (low ∷ (high ∷ rest)) = let more = units_of-length rest in grind (arith, common_steps)

-- a unit, by its two bytes
pub units_of-at : (bytes : List ℕ) (place : ℕ) → place < length bytes / 2 → get_or (units_of bytes) place 0 ≡ get_or bytes (2 * place) 0 + 256 * get_or bytes (2 * place + 1) 0
units_of-at [] place inside = absurd (omega arith)
units_of-at (low ∷ []) place inside = absurd (omega arith)
units_of-at (low ∷ (high ∷ rest)) zero inside = grind (arith, common_steps)
units_of-at (low ∷ (high ∷ rest)) (suc place) inside =
    let first : 2 * suc place ≡ suc (suc (2 * place)) = omega arith in
    let second : 2 * suc place + 1 ≡ suc (suc (2 * place + 1)) = omega arith in
    rw (second, first) (units_of-at rest place (omega arith))

-- there is none past them
pub units_of-past : (bytes : List ℕ) (place : ℕ) → length bytes / 2 ≤ place → get_or (units_of bytes) place 0 ≡ 0
units_of-past [] place past = refl
units_of-past (low ∷ []) place past = refl
units_of-past (low ∷ (high ∷ rest)) zero past = absurd (omega arith)
units_of-past (low ∷ (high ∷ rest)) (suc place) past = units_of-past rest place (omega arith)

pub ruleset of_units = (units_of-length, units_of-at, units_of-past)
