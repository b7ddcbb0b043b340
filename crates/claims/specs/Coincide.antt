-- What it means that a contract fixes the answer: any two results that it admits for the same arguments coincide.
use Rattle.std.specs.Prelude.{◌≡◌}

-- post: what a contract promises of the lifetimes, the arguments, the result, and what is lent at exit
module _ {L : Type 0} {A R E : L → Type 0} (post : (l : L) → A l → R l → E l → Type 0) where
  -- the part of the result that is compared: all of it, or of a returned slice its bytes
  abbrev pub Coincide : {B : L → Type 0} → ((l : L) → R l → B l) → Type 0
  Coincide view = (l : L) (a : A l) (x y : R l) (s t : E l) → post l a x s → post l a y t → view l x ≡ view l y

  -- and what is lent is left the same, whichever result
  abbrev pub LeavesOne : {B : L → Type 0} → ((l : L) → E l → B l) → Type 0
  LeavesOne view = (l : L) (a : A l) (x y : R l) (s t : E l) → post l a x s → post l a y t → view l s ≡ view l t
