-- The check of a directory: what a pass means, and what becomes of the marks.
use Rattle.std.specs.Prelude.{ℕ, ◌≡◌, ◌↔◌, List, length, Contains, Ok, Err}
use Rattle.refusal.specs.declared.Refusal.{Refusal}
use Rattle.upcase_table.specs.UpcaseTable.{table_size, mapped_by}
use Rattle.collation.specs.Kind.{Kind}
use Rattle.collation.specs.Names.{file_names}
use Rattle.directory.specs.Answer.{fault_of}
use Rattle.directory.specs.Lent.{Lent, Passed, NodeSeen}
use Rattle.checker.specs.Check.{check}
use Rattle.checker.specs.FileNames.{check_file_names}
use Rattle.sound.specs.Fit.{reached}
use Rattle.sound.specs.Sorted.{Reaches, Ready, Sorted, Marked, Cleared}

-- the check passes, with some count
abbrev pub Passes : (table : List ℕ) → Lent → (marks : List ℕ) → Type 0
Passes table lent marks = (count : ℕ) × ((check_file_names lent table marks).verdict ≡ Ok count)

-- it does exactly if 19, 1 to 7 and 21 do not arise, there are at most 8 levels, every node reached is well formed,
-- no record is reached twice, and the names of the full listing never fall
abbrev pub Pass : Type 0
Pass = (table : List ℕ) (lent : Lent) (marks : List ℕ)
    → Passes table lent marks ↔ ((length table ≡ table_size) × Sorted (file_names (mapped_by table)) lent marks)

-- the same for a key of any kind
abbrev pub PassFor : {K : Type 0} → Kind K → Type 0
PassFor kind = (lent : Lent) (marks : List ℕ) → ((count : ℕ) × ((check lent kind marks).verdict ≡ Ok count)) ↔ Sorted kind lent marks

abbrev pub PassForAnyKind : Type 1
PassForAnyKind = (K : Type 0) (kind : Kind K) → PassFor kind

-- the records reached are those that a path of entries leads to
abbrev pub ReachedByPath : Type 0
ReachedByPath = (d : Passed) (levels : ℕ) (root : NodeSeen) (number : ℕ) → Contains (reached d levels root) number ↔ Reaches d levels root number

-- a pass carries the count of records reached; marks: 1 for each of them and 0 for each other, unchanged past the record count
abbrev pub Marks : Type 0
Marks = (table : List ℕ) (lent : Lent) (marks : List ℕ) (count : ℕ) → (check_file_names lent table marks).verdict ≡ Ok count
    → Marked lent marks (check_file_names lent table marks).marks count

-- on 19, 1 to 7 and 21 the marks are unchanged, and the count is 0
abbrev pub MarksUnchanged : Type 0
MarksUnchanged = (table : List ℕ) (lent : Lent) (marks : List ℕ) → ((length table ≡ table_size) × Ready lent marks → ⊥)
    → (refusal : Refusal) × (check_file_names lent table marks ≡ record { verdict = Err (fault_of refusal 0); marks = marks })

-- on any later fault they are 0 for every record, unchanged past the record count
abbrev pub MarksCleared : Type 0
MarksCleared = (table : List ℕ) (lent : Lent) (marks : List ℕ) → length table ≡ table_size → Ready lent marks → (refusal : Refusal) (count : ℕ)
    → (check_file_names lent table marks).verdict ≡ Err (fault_of refusal count) → Cleared lent marks (check_file_names lent table marks).marks
