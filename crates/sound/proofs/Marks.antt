-- Records that have no mark yet, each once.
use Rattle.std.proofs.Common.{ℕ, ◌≡◌, ◌≢◌, ◌<◌, ◌≤◌, List, [], ◌∷◌, ◌++◌, length, length-set, get_or, set, get_or-set_same, get_or-set_other, refl, sym, ◌∙◌}
use Rattle.std.proofs.Common.{ap, subst, arith, ◌⊎◌, inl, inr}
use Rattle.std.specs.Prelude.{Contains}
use Rattle.std.proofs.lemmas.Grind.{common_steps}
use Rattle.sound.specs.Fit.{NoRepeat}
use Rattle.sound.proofs.Elements.{contains-none, contains-cases, contains-here, contains-there}
use Rattle.sound.proofs.WellTree.{mark_all}

-- each without a mark when its turn comes
abbrev pub Fresh : List ℕ → List ℕ → Type 0
Fresh marks [] = Unit {0}
Fresh marks (x ∷ xs) = (x < length marks) × (get_or marks x 0 ≡ 0) × Fresh (set marks x 1) xs

pub mark_all-append : (xs ys marks : List ℕ) → mark_all (xs ++ ys) marks ≡ mark_all ys (mark_all xs marks)
mark_all-append [] ys marks = refl
mark_all-append (x ∷ xs) ys marks = mark_all-append xs ys (set marks x 1)

pub Fresh-append : (marks xs ys : List ℕ) → Fresh marks xs → Fresh (mark_all xs marks) ys → Fresh marks (xs ++ ys)
Fresh-append marks [] ys one other = other
Fresh-append marks (x ∷ xs) ys one other = (one.0, one.1, Fresh-append (set marks x 1) xs ys (one.2) other)

pub fresh-front : (marks xs ys : List ℕ) → Fresh marks (xs ++ ys) → Fresh marks xs
fresh-front marks [] ys fresh = tt
fresh-front marks (x ∷ xs) ys fresh = (fresh.0, fresh.1, fresh-front (set marks x 1) xs ys (fresh.2))

pub fresh-back : (marks xs ys : List ℕ) → Fresh marks (xs ++ ys) → Fresh (mark_all xs marks) ys
fresh-back marks [] ys fresh = fresh
fresh-back marks (x ∷ xs) ys fresh = fresh-back (set marks x 1) xs ys (fresh.2)

-- what is marked does not come again
without : (marks : List ℕ) (x : ℕ) (ys : List ℕ) → get_or marks x 0 ≡ 1 → Fresh marks ys → Contains ys x → ⊥
without marks x [] marked fresh has = contains-none x has
without marks x (y ∷ ys) marked fresh has = by (contains-cases x y ys has) (without (set marks y 1) x ys)
  where
    other : y ≢ x
    other same = let free = ap (λ n. get_or marks n 0) (sym same) ∙ fresh.1 in omega arith

    by : (y ≡ x) ⊎ Contains ys x → (get_or (set marks y 1) x 0 ≡ 1 → Fresh (set marks y 1) ys → Contains ys x → ⊥) → ⊥
    by (inl same) more = other same
    by (inr there) more = let apart : x ≢ y = λ same. other (sym same) in more (rw get_or-set_other marked) (fresh.2) there

pub no_repeat : (marks xs : List ℕ) → Fresh marks xs → NoRepeat xs
no_repeat marks [] fresh = tt
no_repeat marks (x ∷ xs) fresh = let inside = fresh.0 in
    (without (set marks x 1) x xs (rw get_or-set_same refl) (fresh.2), no_repeat (set marks x 1) xs (fresh.2))

-- numbers below a bound
abbrev pub AllBelow : ℕ → List ℕ → Type 0
AllBelow most [] = Unit {0}
AllBelow most (x ∷ xs) = (x < most) × AllBelow most xs

pub below-append : (most : ℕ) (xs ys : List ℕ) → AllBelow most xs → AllBelow most ys → AllBelow most (xs ++ ys)
below-append most [] ys one other = other
below-append most (x ∷ xs) ys one other = (one.0, below-append most xs ys (one.1) other)

-- none of them has a mark
abbrev pub Free : List ℕ → List ℕ → Type 0
Free marks [] = Unit {0}
Free marks (x ∷ xs) = (get_or marks x 0 ≡ 0) × Free marks xs

free-set : (marks : List ℕ) (x : ℕ) (ys : List ℕ) → (Contains ys x → ⊥) → Free marks ys → Free (set marks x 1) ys
free-set marks x [] without free = tt
free-set marks x (y ∷ ys) without free =
    let other : y ≢ x = λ same. without (let P : ℕ → Type 0 = λ n. Contains (y ∷ ys) n in subst P same (contains-here y ys)) in
    (rw get_or-set_other (free.0), free-set marks x ys (λ has. without (contains-there x y ys has)) (free.1))

pub fresh-free : (most : ℕ) (marks xs : List ℕ) → most ≤ length marks → AllBelow most xs → NoRepeat xs → Free marks xs → Fresh marks xs
fresh-free most marks [] room below once free = tt
fresh-free most marks (x ∷ xs) room below once free =
    let inside = below.0 in
    (omega arith, free.0, fresh-free most (set marks x 1) xs (simp length-set room) (below.1) (once.1) (free-set marks x xs (once.0) (free.1)))

pub free-from : (marks xs : List ℕ) → ((i : ℕ) → Contains xs i → get_or marks i 0 ≡ 0) → Free marks xs
free-from marks [] zeros = tt
free-from marks (x ∷ xs) zeros = (zeros x (contains-here x xs), free-from marks xs (λ i has. zeros i (contains-there i x xs has)))

pub fresh-from : (most : ℕ) (marks xs : List ℕ) → most ≤ length marks → ((x : ℕ) → x < most → get_or marks x 0 ≡ 0) → AllBelow most xs → NoRepeat xs
    → Fresh marks xs
fresh-from most marks xs room zeros below once = fresh-free most marks xs room below once (all xs below)
  where
    all : (ys : List ℕ) → AllBelow most ys → Free marks ys
    all [] below = tt
    all (y ∷ ys) below = (zeros y (below.0), all ys (below.1))

-- what has no mark when its turn comes had none before
free-unset : (marks : List ℕ) (x : ℕ) (ys : List ℕ) → (Contains ys x → ⊥) → Free (set marks x 1) ys → Free marks ys
free-unset marks x [] without free = tt
free-unset marks x (y ∷ ys) without free =
    let other : y ≢ x = λ same. without (let P : ℕ → Type 0 = λ n. Contains (y ∷ ys) n in subst P same (contains-here y ys)) in
    let before : get_or (set marks x 1) y 0 ≡ get_or marks y 0 = rw get_or-set_other refl in
    (sym before ∙ free.0, free-unset marks x ys (λ has. without (contains-there x y ys has)) (free.1))

pub fresh-unmarked : (marks xs : List ℕ) → Fresh marks xs → Free marks xs
fresh-unmarked marks [] fresh = tt
fresh-unmarked marks (x ∷ xs) fresh =
    let inside = fresh.0 in
    (fresh.1, free-unset marks x xs (without (set marks x 1) x xs (rw get_or-set_same refl) (fresh.2)) (fresh-unmarked (set marks x 1) xs (fresh.2)))

pub free-contains : (marks xs : List ℕ) (i : ℕ) → Free marks xs → Contains xs i → get_or marks i 0 ≡ 0
free-contains marks [] i free has = absurd (contains-none i has)
free-contains marks (x ∷ xs) i free has = by (contains-cases i x xs has) (free-contains marks xs i (free.1))
  where
    by : (x ≡ i) ⊎ Contains xs i → (Contains xs i → get_or marks i 0 ≡ 0) → get_or marks i 0 ≡ 0
    by (inl same) more = ap (λ n. get_or marks n 0) (sym same) ∙ free.0
    by (inr there) more = more there

-- the marks of what was marked, and of what was not
stays-marked : (xs marks : List ℕ) (i : ℕ) → i < length marks → get_or marks i 0 ≡ 1 → get_or (mark_all xs marks) i 0 ≡ 1
stays-marked [] marks i inside is = is
stays-marked (x ∷ xs) marks i inside is =
    let still : get_or (set marks x 1) i 0 ≡ 1 = grind (arith, common_steps) in
    stays-marked xs (set marks x 1) i (simp length-set inside) still

pub mark_all-marked : (xs marks : List ℕ) (i : ℕ) → i < length marks → Contains xs i → get_or (mark_all xs marks) i 0 ≡ 1
mark_all-marked [] marks i inside has = absurd (contains-none i has)
mark_all-marked (x ∷ xs) marks i inside has =
    by (contains-cases i x xs has) (mark_all-marked xs (set marks x 1) i (simp length-set inside))
  where
    by : (x ≡ i) ⊎ Contains xs i → (Contains xs i → get_or (mark_all xs (set marks x 1)) i 0 ≡ 1) → get_or (mark_all xs (set marks x 1)) i 0 ≡ 1
    by (inl same) more =
        let one : get_or (set marks x 1) i 0 ≡ 1 = grind (arith, common_steps) in
        stays-marked xs (set marks x 1) i (simp length-set inside) one
    by (inr there) more = more there

pub mark_all-none : (xs marks : List ℕ) (i : ℕ) → (Contains xs i → ⊥) → get_or (mark_all xs marks) i 0 ≡ get_or marks i 0
mark_all-none [] marks i without = refl
mark_all-none (x ∷ xs) marks i without =
    let other : i ≢ x = λ same. without (let P : ℕ → Type 0 = λ n. Contains (x ∷ xs) n in subst P (sym same) (contains-here x xs)) in
    mark_all-none xs (set marks x 1) i (λ has. without (contains-there i x xs has)) ∙ rw get_or-set_other refl

pub mark_all-one : (most : ℕ) (xs marks : List ℕ) (i : ℕ) → most ≤ length marks → AllBelow most xs → NoRepeat xs → Contains xs i
    → get_or (mark_all xs marks) i 0 ≡ 1
mark_all-one most [] marks i room below once has = absurd (contains-none i has)
mark_all-one most (x ∷ xs) marks i room below once has =
    by (contains-cases i x xs has) (mark_all-one most xs (set marks x 1) i (simp length-set room) (below.1) (once.1))
  where
    by : (x ≡ i) ⊎ Contains xs i → (Contains xs i → get_or (mark_all xs (set marks x 1)) i 0 ≡ 1) → get_or (mark_all xs (set marks x 1)) i 0 ≡ 1
    by (inl same) more =
        let low = below.0 in
        let inside : x < length marks = omega arith in
        ap (λ n. get_or (mark_all xs (set marks x 1)) n 0) (sym same) ∙ mark_all-none xs (set marks x 1) x (once.0) ∙ rw get_or-set_same refl
    by (inr there) more = more there

pub below-contains : (most : ℕ) (xs : List ℕ) (i : ℕ) → AllBelow most xs → Contains xs i → i < most
below-contains most [] i below has = absurd (contains-none i has)
below-contains most (x ∷ xs) i below has = by (contains-cases i x xs has) (below-contains most xs i (below.1))
  where
    by : (x ≡ i) ⊎ Contains xs i → (Contains xs i → i < most) → i < most
    by (inl same) more = let inside = below.0 in omega arith
    by (inr there) more = more there
