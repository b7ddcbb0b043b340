-- The cases of an input.
use Rattle.std.specs.Prelude.{◌≡◌, ℕ, ◌+◌, ◌≤◌, List, cond, leb, length, take, drop, min, ⊤, Option, None, Some, MatchOption}
use Rattle.replay_cases.specs.Numbers.{number_in}
use Rattle.replay_cases.specs.declared.cases.Case.{Case}
use Rattle.replay_cases.specs.declared.cases.Cases.{Cases}

-- what follows the size, and what follows the tag
abbrev pub after_size : Cases → List ℕ
after_size cases = drop 4 cases.input.now

abbrev pub after_tag : Cases → List ℕ
after_tag cases = drop cases.tag (after_size cases)

abbrev pub body_size : Cases → ℕ
body_size cases = number_in cases.input.now 0

-- a whole case stands at the front
abbrev pub BeginsWhole : Cases → Type 0
BeginsWhole cases = (4 ≤ length cases.input.now) × (cases.tag ≤ length (after_size cases)) × (body_size cases ≤ 65536)
    × (body_size cases ≤ length (after_tag cases))

-- `next` takes the case at the front, or changes nothing where none is whole
abbrev pub TakesCase : Cases → Option Case → Cases → Type 0
TakesCase cases found left = MatchOption found (¬ (BeginsWhole cases) × (left ≡ cases)) (λ case. BeginsWhole cases
    × (case.tag.now ≡ take cases.tag (after_size cases)) × (case.body.now ≡ take (body_size cases) (after_tag cases))
    × (left.input.now ≡ drop (body_size cases) (after_tag cases)) × (left.tag ≡ cases.tag))

-- of an input that is read: the size of the case at its front, whose head, the size and the tag, has so many bytes
abbrev pub size_read : ℕ → List ℕ → ℕ
size_read head input = number_in (take head input) 0

-- a whole case stands at the front, and there is room for its body
abbrev pub ReadsWhole : ℕ → ℕ → List ℕ → Type 0
ReadsWhole head room input = (size_read head input ≤ room) × (head + size_read head input ≤ length input)

-- as many bytes as are read, where there are so many: of a body that there is no room for, the head alone
abbrev pub length_read : ℕ → ℕ → List ℕ → ℕ
length_read head room input = cond (leb (size_read head input) room) (head + size_read head input) head

-- the case at the front, or none where none is whole
abbrev pub ReadsCase : ℕ → ℕ → Option Case → List ℕ → Type 0
ReadsCase head room found input = MatchOption found (¬ (ReadsWhole head room input)) (λ case. ReadsWhole head room input
    × (case.tag.now ≡ drop 4 (take head input)) × (case.body.now ≡ take (size_read head input) (drop head input)))

-- n bytes were read of what was known, all or as many as there was room for, and stand at the front of these
abbrev pub Fills : ℕ → Option (List ℕ) → Option (List ℕ) → List ℕ → ℕ → Type 0
Fills room None left bytes n = ⊤
Fills room (Some input) left bytes n = (n ≡ min room (length input)) × (take n bytes ≡ take room input) × (left ≡ Some (drop room input))
