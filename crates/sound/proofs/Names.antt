-- Names that never fall, and whether one of them is equal to the sought one.
use Rattle.std.proofs.Common.{◌≡◌, false, List, [], ◌∷◌, ◌++◌, refl, sym, ◌∙◌, ap, Option, Some, Ordering, Less, Equal, Greater, is_lt, is_gt, ◌⊎◌, inl, inr}
use Rattle.std.specs.Prelude.{Contains}
use Rattle.std.specs.Cmp.{IsTotalOrder}
use Rattle.std.specs.Ordering.{ordering_reverse}
use Rattle.std.proofs.lemmas.Cmp.{upto, alike_right}
use Rattle.std.proofs.lemmas.List.Elements.{Contains-append_cases}
use Rattle.sound.specs.Keys.{falls_name, NeverFall, NoneEqual}
use Rattle.sound.proofs.Elements.{contains-none, contains-cases}

module _ {K : Type 0} (order : K → K → Ordering) (sought : K) where
  pub none-nil : NoneEqual order sought []
  none-nil name has same = contains-none name has

  pub none-cons : (x : K) (xs : List K) → (order sought x ≡ Equal → ⊥) → NoneEqual order sought xs → NoneEqual order sought (x ∷ xs)
  none-cons x xs not none name has same = by (contains-cases name x xs has)
    where
      by : (x ≡ name) ⊎ Contains xs name → ⊥
      by (inl is) = not (ap (order sought) is ∙ same)
      by (inr there) = none name there same

  pub none-append : (xs ys : List K) → NoneEqual order sought xs → NoneEqual order sought ys → NoneEqual order sought (xs ++ ys)
  none-append xs ys one other name has same = by (Contains-append_cases xs ys name has)
    where
      by : Contains xs name ⊎ Contains ys name → ⊥
      by (inl here) = one name here same
      by (inr there) = other name there same

abbrev pub last_or : {K : Type 0} → Option K → List K → Option K
last_or before [] = before
last_or before (x ∷ xs) = last_or (Some x) xs

pub last_or-append : {K : Type 0} (before : Option K) (xs : List K) (y : K) (ys : List K) → last_or before (xs ++ y ∷ ys) ≡ last_or (Some y) ys
last_or-append before [] y ys = refl
last_or-append before (x ∷ xs) y ys = last_or-append (Some x) xs y ys

pub NeverFall-append : {K : Type 0} (order : K → K → Ordering) (before : Option K) (xs : List K) (y : K) (ys : List K) → NeverFall order before xs
    → falls_name order (last_or before xs) y ≡ false → NeverFall order (Some y) ys
    → NeverFall order before (xs ++ y ∷ ys)
NeverFall-append order before [] y ys rises here more = (here, more)
NeverFall-append order before (x ∷ xs) y ys rises here more = (rises.0, NeverFall-append order (Some x) xs y ys rises.1 here more)

pub rises-front : {K : Type 0} (order : K → K → Ordering) (before : Option K) (xs : List K) (y : K) (ys : List K) → NeverFall order before (xs ++ y ∷ ys)
    → NeverFall order before xs
rises-front order before [] y ys rises = tt
rises-front order before (x ∷ xs) y ys rises = (rises.0, rises-front order (Some x) xs y ys rises.1)

pub rises-back : {K : Type 0} (order : K → K → Ordering) (before : Option K) (xs : List K) (y : K) (ys : List K) → NeverFall order before (xs ++ y ∷ ys)
    → NeverFall order (Some y) ys
rises-back order before [] y ys rises = rises.1
rises-back order before (x ∷ xs) y ys rises = rises-back order (Some x) xs y ys rises.1

pub rises-at : {K : Type 0} (order : K → K → Ordering) (before : Option K) (xs : List K) (y : K) (ys : List K) → NeverFall order before (xs ++ y ∷ ys)
    → falls_name order (last_or before xs) y ≡ false
rises-at order before [] y ys rises = rises.0
rises-at order before (x ∷ xs) y ys rises = rises-at order (Some x) xs y ys (rises.1)

-- none of them is less than a name
abbrev pub AllFrom : {K : Type 0} → (K → K → Ordering) → K → List K → Type 0
AllFrom order low [] = Unit {0}
AllFrom order low (x ∷ xs) = (is_lt (order x low) ≡ false) × AllFrom order low xs

-- none of them is greater than a name
abbrev pub AllTo : {K : Type 0} → (K → K → Ordering) → K → List K → Type 0
AllTo order high [] = Unit {0}
AllTo order high (x ∷ xs) = (is_lt (order high x) ≡ false) × AllTo order high xs

module _ {K : Type 0} (order : K → K → Ordering) (total : IsTotalOrder order) where
  turned : (a b : K) → is_lt (order a b) ≡ false → is_gt (order b a) ≡ false
  turned a b is = ap is_gt (total.antisymm b a) ∙ by (order a b) is
    where
      by : (r : Ordering) → is_lt r ≡ false → is_gt (ordering_reverse r) ≡ false
      by Less is = cc
      by Equal is = refl
      by Greater is = refl

  back : (a b : K) → is_gt (order b a) ≡ false → is_lt (order a b) ≡ false
  back a b is = ap is_lt (total.antisymm a b) ∙ by (order b a) is
    where
      by : (r : Ordering) → is_gt r ≡ false → is_lt (ordering_reverse r) ≡ false
      by Less is = refl
      by Equal is = refl
      by Greater is = cc

  at_least : (a b c : K) → is_lt (order b a) ≡ false → is_lt (order c b) ≡ false → is_lt (order c a) ≡ false
  at_least a b c low high = back c a (upto total a b c (turned b a low) (turned c b high))

  AllFrom-lower : (low lower : K) (xs : List K) → is_lt (order low lower) ≡ false → AllFrom order low xs → AllFrom order lower xs
  AllFrom-lower low lower [] is all = tt
  AllFrom-lower low lower (x ∷ xs) is all = (at_least lower low x is all.0, AllFrom-lower low lower xs is all.1)

  pub rises-from : (low : K) (xs : List K) → NeverFall order (Some low) xs → AllFrom order low xs
  rises-from low [] rises = tt
  rises-from low (x ∷ xs) rises = (rises.0, AllFrom-lower x low xs rises.0 (rises-from x xs rises.1))

  -- what stands at a place among names that are no less
  among : (low : K) (xs : List K) (y : K) (ys : List K) → AllFrom order low (xs ++ y ∷ ys) → is_lt (order y low) ≡ false
  among low [] y ys all = all.0
  among low (x ∷ xs) y ys all = among low xs y ys all.1

  pub rises-to : (before : Option K) (xs : List K) (y : K) (ys : List K) → NeverFall order before (xs ++ y ∷ ys) → AllTo order y xs
  rises-to before [] y ys rises = tt
  rises-to before (x ∷ xs) y ys rises = (among x xs y ys (rises-from x (xs ++ y ∷ ys) rises.1), rises-to (Some x) xs y ys rises.1)

  -- a greater name is not among those up to y
  pub none-to : (sought y : K) (xs : List K) → order sought y ≡ Greater → AllTo order y xs → NoneEqual order sought xs
  none-to sought y [] above all = none-nil order sought
  none-to sought y (x ∷ xs) above all = none-cons order sought x xs (λ same.
      let less : order y sought ≡ Less = total.antisymm y sought ∙ ap ordering_reverse above in
      let equal : order y sought ≡ order y x = alike_right total sought x y same in
      let not = all.0 in let is = ap is_lt (sym equal ∙ less) in cc) (none-to sought y xs above all.1)

  -- a lesser name is not among those from y on
  pub none-from : (sought y : K) (xs : List K) → order sought y ≡ Less → AllFrom order y xs → NoneEqual order sought xs
  none-from sought y [] below all = none-nil order sought
  none-from sought y (x ∷ xs) below all = none-cons order sought x xs (λ same.
      let equal : order sought y ≡ order x y = total.congr sought x y same in
      let not = all.0 in let is = ap is_lt (sym equal ∙ below) in cc) (none-from sought y xs below all.1)
