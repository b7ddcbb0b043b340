-- The bytes of a name's text by their index: four for each unit.
use Rattle.std.proofs.Common.{arith, ℕ, zero, suc, ◌≡◌, ◌<◌, ◌+◌, ◌*◌, ◌/◌, ◌%◌, List, [], ◌∷◌, ◌++◌, ◌-◌, length, get_or, refl, sym, ap, ◌∙◌}
use Rattle.std.proofs.lemmas.List.{get_or_default}
use Rattle.std.proofs.lemmas.Grind.{common_steps}
use Rattle.capture_line.specs.Text.{ended, spaced, hex_pair, hex_pairs}

-- digit i % 4 of unit i / 4
pub digit_at : (units : List (List ℕ)) (i : ℕ) → i / 4 < length units
    → get_or (ended (hex_pairs units)) i 0 ≡ get_or (hex_pair (get_or units (i / 4) [])) (i % 4) 0
digit_at [] i h = absurd (omega arith)
digit_at (unit ∷ units) zero h = refl
digit_at (unit ∷ units) (suc zero) h = refl
digit_at (unit ∷ units) (suc (suc zero)) h = refl
digit_at (unit ∷ units) (suc (suc (suc zero))) h = refl
digit_at (unit ∷ units) (suc (suc (suc (suc j)))) h =
    let q : suc (suc (suc (suc j))) / 4 ≡ suc (j / 4) = omega arith in
    let m : suc (suc (suc (suc j))) % 4 ≡ j % 4 = omega arith in
    rw (q, m) (digit_at units j (omega arith))

-- behind the digits the newline, and then nothing
pub digit_past : (units : List (List ℕ)) (j : ℕ) → get_or (ended (hex_pairs units)) (4 * length units + j) 0 ≡ get_or (10 ∷ []) j 0
digit_past [] j = let e : 4 * length {A = List ℕ} [] + j ≡ j = omega arith in rw e refl
digit_past (unit ∷ units) j =
    let e : 4 * length (unit ∷ units) + j ≡ suc (suc (suc (suc (4 * length units + j)))) = omega arith in
    rw e (digit_past units j)

-- the same, as the code reads a unit
pub digit_read : (units : List (List ℕ)) (i b : ℕ) (other digits : List ℕ) → i / 4 < length units → digits ≡ hex_pair (get_or units (i / 4) other)
    → b ≡ get_or digits (i % 4) 0 → b ≡ get_or (ended (hex_pairs units)) i 0
digit_read units i b other digits h d e =
    let same : get_or units (i / 4) other ≡ get_or units (i / 4) [] = get_or_default units (i / 4) other [] h in
    e ∙ (ap (λ l. get_or l (i % 4) 0) d ∙ (ap (λ l. get_or (hex_pair l) (i % 4) 0) same ∙ sym (digit_at units i h)))

pub newline_read : (units : List (List ℕ)) (i : ℕ) → i ≡ 4 * length units → 10 ≡ get_or (ended (hex_pairs units)) i 0
newline_read units i h = let e : i ≡ 4 * length units + 0 = omega arith in rw e (sym (digit_past units 0))

pub nothing_read : (units : List (List ℕ)) (i : ℕ) → 4 * length units < i → 0 ≡ get_or (ended (hex_pairs units)) i 0
nothing_read units i h =
    let e : i ≡ 4 * length units + suc (i - 4 * length units - 1) = omega arith in
    rw e (sym (digit_past units (suc (i - 4 * length units - 1))))

-- a line as its head, its name and its end
pub line_named : (a b c name key head : List ℕ) → key ≡ c ++ spaced name → head ≡ ((a ++ spaced (b ++ 32 ∷ [])) ++ c) ++ 32 ∷ []
    → head ++ ended name ≡ ended (a ++ spaced (b ++ spaced key))
line_named a b c name key head k h = grind (arith, common_steps)
