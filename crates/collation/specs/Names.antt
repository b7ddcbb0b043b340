-- File names as a kind of key.
use Rattle.std.specs.Prelude.{◌≡◌, ◌≤◌, ◌<◌, ℕ, List, length, Result, MatchResult, Ok}
use Rattle.std.specs.Borrow.{Bor}
use Rattle.refusal.specs.declared.Refusal.{Refusal}
use Rattle.refusal.specs.declared.Refusal.TheVariants.{NameTooLong}
use Rattle.refusal.specs.Then.{◌>>=◌}
use Rattle.file_name.specs.Key.{name_of}
use Rattle.upcase_table.specs.Names.{units_of, name_order}
use Rattle.collation.specs.Kind.{Kind}
use Rattle.collation.specs.declared.file_names.SoughtName.{SoughtName}

-- the units of the name in a key; 18
abbrev pub units_in : List ℕ → Result (List ℕ) Refusal
units_in key = name_of key >>= λ bytes. Ok (units_of bytes)

-- file names, in the order of an upcase table
abbrev pub file_names : (ℕ → ℕ) → Kind (List ℕ)
file_names upcase = record { reads = units_in; order = name_order upcase }

abbrev pub sought_units : SoughtName → List ℕ
sought_units name = name.units.now

-- how long a sought name may be
abbrev pub name_limit : ℕ
name_limit = 255

-- a sought name has at most that many units, else 20
abbrev pub IsSoughtName : Bor (List ℕ) → Result SoughtName Refusal → Type 0
IsSoughtName units r = MatchResult r
    (λ name. (sought_units name ≡ units.now) × (length units.now ≤ name_limit))
    (λ refusal. (refusal ≡ NameTooLong) × (name_limit < length units.now))
