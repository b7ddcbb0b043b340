-- What a list contains.
use Rattle.std.proofs.Common.{zero, suc, ℕ, ◌≡◌, ◌<◌, List, [], ◌∷◌, length, get_or, refl, arith, ◌⊎◌, inl, inr}
use Rattle.std.specs.Prelude.{Contains}

module _ {X : Type 0} where
  pub contains-here : (x : X) (xs : List X) → Contains (x ∷ xs) x
  contains-here x xs = (0, omega arith, refl)

  pub contains-there : (x y : X) (xs : List X) → Contains xs x → Contains (y ∷ xs) x
  contains-there x y xs has = let inside = has.1 in (suc (has.0), omega arith, has.2)

  pub contains-none : (x : X) → Contains [] x → ⊥
  contains-none x has = let inside = has.1 in omega arith

  pub contains-cases : (x y : X) (xs : List X) → Contains (y ∷ xs) x → (y ≡ x) ⊎ Contains xs x
  contains-cases x y xs has = by (has.0) (has.1) (has.2)
    where
      by : (k : ℕ) → k < length (y ∷ xs) → get_or (y ∷ xs) k x ≡ x → (y ≡ x) ⊎ Contains xs x
      by zero inside is = inl is
      by (suc k) inside is = inr (k, omega arith, is)
