-- The laws of a total order, as four words about "not less", are those of std's.
use Rattle.std.proofs.Common.{◌≡◌, refl, sym, ◌∙◌, ap, ◌⊎◌, inl, inr, Ordering, Less, Equal, Greater}
use Rattle.std.specs.Cmp.{IsTotalOrder}
use Rattle.std.specs.Ordering.{ordering_reverse}
use Rattle.claims.specs.Leaves.{NotLess, Total}

module _ {K : Type 0} (order : K → K → Ordering) (total : Total order) where
  -- what is not less than x is above what x is above, and below what x is below
  less-left : (x y z : K) → NotLess order y x → order x z ≡ Less → order y z ≡ Less
  less-left x y z not is = by (order y z) refl
    where
      by : (r : Ordering) → order y z ≡ r → order y z ≡ Less
      by Less its = its
      by Equal its = absurd (total.transitive z y x (λ less. let both = sym its ∙ less in cc) not is)
      by Greater its = absurd (total.transitive z y x (λ less. let both = sym its ∙ less in cc) not is)

  less-right : (x y z : K) → NotLess order x y → order z x ≡ Less → order z y ≡ Less
  less-right x y z not is = by (order z y) refl
    where
      by : (r : Ordering) → order z y ≡ r → order z y ≡ Less
      by Less its = its
      by Equal its = absurd (total.transitive x y z not (λ less. let both = sym its ∙ less in cc) is)
      by Greater its = absurd (total.transitive x y z not (λ less. let both = sym its ∙ less in cc) is)

  turned : (a b : K) (r : Ordering) → order a b ≡ r → order b a ≡ ordering_reverse r
  turned a b r is = total.exchange a b ∙ ap ordering_reverse is

  -- equal ones stand alike to a third
  alike : (x y z : K) → order x y ≡ Equal → order x z ≡ order y z
  alike x y z same = by (order x z) refl
    where
      low : NotLess order y x
      low less = let both = sym same ∙ less in cc

      high : NotLess order x y
      high less = let both = sym (turned x y Equal same) ∙ less in cc

      by_equal : order x z ≡ Equal → (r : Ordering) → order y z ≡ r → order x z ≡ order y z
      by_equal is Less its = let both = sym (less-left y x z high its) ∙ is in absurd (let P : ⊥ = cc in P)
      by_equal is Equal its = is ∙ sym its
      by_equal is Greater its = let both = sym (turned z x Less (less-right y x z low (turned y z Greater its))) ∙ is in absurd (let P : ⊥ = cc in P)

      by : (r : Ordering) → order x z ≡ r → order x z ≡ order y z
      by Less is = is ∙ sym (less-left x y z low is)
      by Equal is = by_equal is (order y z) refl
      by Greater is = is ∙ sym (turned z y Less (less-right x y z high (turned x z Greater is)))

  pub total-order : IsTotalOrder order
  total-order = record {
    antisymm = λ x y. total.exchange y x;
    trans = λ x y z one two. less-left y x z (λ less. let both = sym (turned x y Less one) ∙ less in cc) two;
    congr = alike;
  }

-- an order that exchange turns and that is transitive is total
module _ {K : Type 0} (order : K → K → Ordering) (exchange : (a b : K) → order b a ≡ ordering_reverse (order a b)) where
  back : (a b : K) (r : Ordering) → order a b ≡ r → order b a ≡ ordering_reverse r
  back a b r is = exchange a b ∙ ap ordering_reverse is

  itself : (r : Ordering) → r ≡ ordering_reverse r → r ≡ Equal
  itself Less is = absurd (let P : ⊥ = cc in P)
  itself Equal is = refl
  itself Greater is = absurd (let P : ⊥ = cc in P)

  either : (a b : K) → NotLess order a b ⊎ NotLess order b a
  either a b = by (order b a) refl
    where
      by : (r : Ordering) → order b a ≡ r → NotLess order a b ⊎ NotLess order b a
      by Less is = inr (λ less. let both = sym (back b a Less is) ∙ less in cc)
      by Equal is = inl (λ less. let both = sym is ∙ less in cc)
      by Greater is = inl (λ less. let both = sym is ∙ less in cc)

  pub total_of : ((a b c : K) → NotLess order a b → NotLess order b c → NotLess order a c) → Total order
  total_of through = record { reflexive = λ a. itself (order a a) (exchange a a); transitive = through; connected = either; exchange = exchange }

module _ {K : Type 0} (order : K → K → Ordering) (total : IsTotalOrder order) where
  exchanges : (a b : K) → order b a ≡ ordering_reverse (order a b)
  exchanges a b = total.antisymm b a

  through : (a b c : K) → NotLess order a b → NotLess order b c → NotLess order a c
  through a b c low high less = by (order b a) refl
    where
      by : (r : Ordering) → order b a ≡ r → ⊥
      by Less is = low is
      by Equal is = high (back order exchanges b c Greater (total.congr b a c is ∙ back order exchanges c a Less less))
      by Greater is = high (total.trans c a b less (back order exchanges b a Greater is))

  pub total-laws : Total order
  total-laws = total_of order exchanges through
