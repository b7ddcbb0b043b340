-- Marking a record leaves one fewer without a mark.
use Rattle.std.proofs.Common.{zero, suc, ℕ, ◌≡◌, ◌+◌, ◌<◌, List, [], ◌∷◌, length, get_or, set, ap, ◌∙◌, ◌≤◌, ◌==◌, ◌++◌, drop, replicate, arith}
use Rattle.std.proofs.lemmas.List.{drop_at, length-replicate}
use Rattle.std.proofs.lemmas.List.Sums.{count_by-le-length}
use Rattle.checker.specs.Check.{cleared}
use Rattle.std.proofs.lemmas.Grind.{common_steps}
use Rattle.checker.specs.State.{unmarked}

pub unmarked-set : (marks : List ℕ) (at : ℕ) → at < length marks → get_or marks at 0 ≡ 0 → unmarked (set marks at 1) + 1 ≡ unmarked marks
unfolding unmarked
unmarked-set [] at inside none = absurd (omega arith)
unmarked-set (mark ∷ marks) zero inside none = grind (arith, common_steps)
unmarked-set (mark ∷ marks) (suc at) inside none = let more = unmarked-set marks at (omega arith) none in grind (arith, common_steps)

pub unmarked-some : (marks : List ℕ) (at : ℕ) → at < length marks → get_or marks at 0 ≡ 0 → 0 < unmarked marks
unmarked-some marks at inside none = let one = unmarked-set marks at inside none in omega arith

-- what is cleared twice is cleared
pub cleared-again : (records : ℕ) (marks later : List ℕ) → records ≤ length marks → drop records later ≡ drop records (cleared records marks)
    → cleared records later ≡ cleared records marks
cleared-again records marks later inside past =
    ap (λ rest. replicate records 0 ++ rest) (past ∙ drop_at (replicate records 0) (drop records marks) records (length-replicate records 0))

-- no more is unmarked than there are marks
pub unmarked-most : (marks : List ℕ) → unmarked marks ≤ length marks
unfolding unmarked
unmarked-most marks = count_by-le-length (λ mark. mark == 0) marks

pub ruleset of_cleared = (cleared-again, unmarked-most)

pub ruleset of_marks = (unmarked-set, unmarked-some)
