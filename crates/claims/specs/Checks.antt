-- The checker in 01's examples: the tree of P12, a bare root, eight levels and nine; and each answer that only the checker gives.
use Rattle.std.specs.Prelude.{ℕ, zero, suc, ◌+◌, List, [], ◌∷◌, ◌++◌, Ok, Err}
use Rattle.refusal.specs.declared.Refusal.{Refusal}
use Rattle.refusal.specs.declared.Refusal.TheVariants.{TooManyLevels, TableLength, MarksTooShort, ReachedTwice, NodeEnd, KeyMissing, NameFalls}
use Rattle.directory.specs.Answer.{fault_of}
use Rattle.directory.specs.Lent.{Lent}
use Rattle.checker.specs.Check.{Checked}
use Rattle.checker.specs.FileNames.{check_file_names}
use Rattle.claims.specs.Bench.{bench_table, bytes, zeros, ending, record_with, root_with, lends, tree, Row, p, All}
use Rattle.claims.specs.Lookup.{named, named_branch, names, bare}

abbrev pub checks : Lent → (marks : List ℕ) → Checked
checks d marks = check_file_names d bench_table marks

-- what a check answers: a pass with its count, or a refusal with its own; and the marks then
abbrev pub passes : (count : ℕ) (marks : List ℕ) → Checked
passes count marks = record { verdict = Ok count; marks = marks }

abbrev pub refuses : Refusal → (count : ℕ) (marks : List ℕ) → Checked
refuses refusal count marks = record { verdict = Err (fault_of refusal count); marks = marks }

-- a LAST_ENTRY above the record at a VCN
abbrev pub last_branch : ℕ → List ℕ
last_branch vcn = bytes 8 0 ++ bytes 2 24 ++ bytes 2 0 ++ bytes 4 3 ++ bytes 8 vcn

-- so many records from VCN v on, each above the next, and one more that ends
abbrev pub chain : (more v : ℕ) → List ℕ
chain zero v = record_with v 56 ending 432
chain (suc more) v = record_with v 64 (last_branch (v + 1)) 424 ++ chain more (v + 1)

abbrev pub deep : (more : ℕ) → Lent
deep more = lends (root_with 40 (last_branch 0)) (chain more 0)

-- 5 before 4; one record under both; a LAST_ENTRY that ends before the used end
abbrev pub falling : Lent
falling = lends (root_with 208 (named 5 ++ named 4 ++ ending)) (record_with 0 56 ending 432)

abbrev pub twice : Lent
twice = lends (root_with 224 (named_branch 4 0 ++ named_branch 5 0 ++ ending)) (record_with 0 56 ending 432)

abbrev pub early : Lent
early = lends (root_with 40 (ending ++ zeros 8)) (record_with 0 56 ending 432)

abbrev pub rows : List Row
rows =
    p 12 (checks names (9 ∷ 9 ∷ 9 ∷ [])) (passes 2 (1 ∷ 1 ∷ 9 ∷ []))
    ∷ p 12 (checks names (9 ∷ [])) (refuses MarksTooShort 0 (9 ∷ []))
    ∷ p 12 (checks bare (9 ∷ 9 ∷ [])) (refuses NodeEnd 0 (0 ∷ 9 ∷ []))
    ∷ p 12 (check_file_names bare (0 ∷ bench_table) (9 ∷ 9 ∷ [])) (refuses TableLength 0 (9 ∷ 9 ∷ []))
    ∷ p 12 (checks early (9 ∷ 9 ∷ [])) (refuses NodeEnd 0 (0 ∷ 9 ∷ []))
    ∷ p 12 (checks falling (9 ∷ 9 ∷ [])) (refuses NameFalls 0 (0 ∷ 9 ∷ []))
    ∷ p 12 (checks twice (9 ∷ 9 ∷ [])) (refuses ReachedTwice 1 (0 ∷ 9 ∷ []))
    ∷ p 12 (checks tree (9 ∷ 9 ∷ [])) (refuses KeyMissing 0 (0 ∷ 0 ∷ []))
    ∷ p 12 (checks (deep 6) (zeros 7)) (passes 7 (1 ∷ 1 ∷ 1 ∷ 1 ∷ 1 ∷ 1 ∷ 1 ∷ []))
    ∷ p 12 (checks (deep 7) (zeros 8)) (refuses TooManyLevels 7 (zeros 8))
    ∷ []

-- the answer and the marks of each
abbrev pub Checks : Type 0
Checks = All rows
