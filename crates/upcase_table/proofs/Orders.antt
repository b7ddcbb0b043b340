-- The order of names, at a place and where a name runs out.
use Rattle.std.proofs.Common.{zero, suc, ℕ, ◌≡◌, ◌+◌, ◌<◌, List, [], ◌∷◌, length, drop, get_or, refl, min, ◌∙◌, arith, drop-cons}
use Rattle.std.proofs.lemmas.Grind.{common_steps}
use Rattle.std.specs.Ordering.{nat_cmp, ordering_then}
use Rattle.upcase_table.specs.Names.{name_order}

-- the two at a place, or else what is left behind them
pub name_order-at : (upcase : ℕ → ℕ) (xs ys : List ℕ) (place : ℕ) → place < length xs → place < length ys
    → name_order upcase (drop place xs) (drop place ys)
    ≡ ordering_then (nat_cmp (upcase (get_or xs place 0)) (upcase (get_or ys place 0))) (name_order upcase (drop (place + 1) xs) (drop (place + 1) ys))
name_order-at upcase xs ys place in_xs in_ys = grind (arith, common_steps, drop-cons)

-- where one has run out, the lengths decide
pub name_order-ended : (upcase : ℕ → ℕ) (xs ys : List ℕ) (place : ℕ) → place ≡ min (length xs) (length ys)
    → name_order upcase (drop place xs) (drop place ys) ≡ nat_cmp (length xs) (length ys)
name_order-ended upcase [] [] place is = let none : place ≡ 0 = omega arith in rw none refl
name_order-ended upcase [] (y ∷ ys) place is = let none : place ≡ 0 = omega arith in rw none (grind (arith, common_steps))
name_order-ended upcase (x ∷ xs) [] place is = let none : place ≡ 0 = omega arith in rw none (grind (arith, common_steps))
name_order-ended upcase (x ∷ xs) (y ∷ ys) zero is = absurd (omega arith)
name_order-ended upcase (x ∷ xs) (y ∷ ys) (suc place) is = name_order-ended upcase xs ys place (omega arith) ∙ grind (arith, common_steps)

pub ruleset of_names = (name_order-at, name_order-ended)
