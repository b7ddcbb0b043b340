-- What a larger allowance changes.
use Rattle.std.specs.Prelude.{ℕ, ◌≡◌, ◌≤◌}
use Rattle.refusal.specs.declared.Refusal.TheVariants.{AllowanceSpent}
use Rattle.directory.specs.Directory.{spent_at}
use Rattle.directory.specs.Answer.{refused}
use Rattle.directory.specs.Lent.{Lent}
use Rattle.collation.specs.Kind.{Kind}
use Rattle.index_finder.specs.Find.{find}

-- any answer but 12 is the same under any larger allowance
abbrev pub MoreFor : {K : Type 0} → Kind K → Type 0
MoreFor {K} kind = (sought : K) (d : Lent) (few more : ℕ) → few ≤ more
    → ((o : ℕ) → find d (spent_at few) kind sought ≡ refused AllowanceSpent o → ⊥)
    → find d (spent_at more) kind sought ≡ find d (spent_at few) kind sought

-- in every kind of key
abbrev pub MoreChangesNothing : Type 0 → Type 0
MoreChangesNothing K = (kind : Kind K) → MoreFor kind
