-- What a larger allowance changes in a listing.
use Rattle.std.specs.Prelude.{ℕ, ◌≡◌, ◌≤◌, Bool, false}
use Rattle.refusal.specs.declared.Refusal.TheVariants.{AllowanceSpent}
use Rattle.directory.specs.Answer.{refused}
use Rattle.directory.specs.Directory.{spent_at}
use Rattle.directory.specs.Lent.{Lent}
use Rattle.index.specs.Cursor.{new_cursor}
use Rattle.index_run.specs.Run.{answer_after}

-- under an allowance the answer after so many steps is not 12
abbrev pub NotSpent : Lent → (ℕ → Bool) → ℕ → Type 0
NotSpent d spent before = (opened : ℕ) → answer_after d spent before new_cursor ≡ refused AllowanceSpent opened → ⊥

-- such an answer is the same under any larger allowance
abbrev pub MoreChangesNothing : Type 0
MoreChangesNothing = (d : Lent) (few more before : ℕ) → few ≤ more → NotSpent d (spent_at few) before
    → answer_after d (spent_at more) before new_cursor ≡ answer_after d (spent_at few) before new_cursor

-- the allowance that is never spent
abbrev pub never : ℕ → Bool
never opened = false

-- and such an answer is the full listing's, whose allowance is never spent
abbrev pub FullListing : Type 0
FullListing = (d : Lent) (allowance before : ℕ) → NotSpent d (spent_at allowance) before
    → answer_after d never before new_cursor ≡ answer_after d (spent_at allowance) before new_cursor
