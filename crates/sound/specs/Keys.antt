-- The names of entries: that one compares equal, that they never fall.
use Rattle.std.specs.Prelude.{ℕ, ◌≡◌, Bool, false, List, [], ◌∷◌, Contains, Option, Some, None, Result, Ok, Err}
use Rattle.std.specs.declared.cmp.Ordering.{Ordering}
use Rattle.std.specs.declared.cmp.Ordering.TheVariants.{Equal}
use Rattle.std.specs.Ordering.{is_lt}
use Rattle.refusal.specs.declared.Refusal.{Refusal}
use Rattle.refusal.specs.Then.{◌>>=◌}
use Rattle.index_entry.specs.Entry.{key_of}
use Rattle.collation.specs.Kind.{Kind}
use Rattle.directory.specs.Lent.{EntryPlaced}

-- the name in the key of an entry: none without a key (a LAST_ENTRY has none), or 9, or 18
abbrev pub read_as : {K : Type 0} → Kind K → Result (Option (List ℕ)) Refusal → Result (Option K) Refusal
read_as kind (Ok (Some key)) = kind.reads key >>= λ name. Ok (Some name)
read_as kind (Ok None) = Ok None
read_as kind (Err refusal) = Err refusal

unfoldable pub key_read : {K : Type 0} → Kind K → List ℕ → Result (Option K) Refusal
key_read kind entry = read_as kind (key_of entry)

-- the names of entries, of those that have a key that can be read
abbrev pub name_and : {K : Type 0} → Result (Option K) Refusal → List K → List K
name_and (Ok (Some name)) more = name ∷ more
name_and (Ok None) more = more
name_and (Err refusal) more = more

unfoldable pub keys_of : {K : Type 0} → Kind K → List EntryPlaced → List K
keys_of kind [] = []
keys_of kind (entry ∷ rest) = name_and (key_read kind entry.bytes) (keys_of kind rest)

-- whether a name is less than the one before it
abbrev pub falls_name : {K : Type 0} → (K → K → Ordering) → Option K → K → Bool
falls_name order (Some before) name = is_lt (order name before)
falls_name order None name = false

-- none of the names is less than the one before it
abbrev pub NeverFall : {K : Type 0} → (K → K → Ordering) → Option K → List K → Type 0
NeverFall order before [] = Unit {0}
NeverFall order before (name ∷ more) = (falls_name order before name ≡ false) × NeverFall order (Some name) more

-- the name of an entry compares equal to the sought one
abbrev pub Equals : {K : Type 0} → Kind K → K → EntryPlaced → Type 0
Equals {K} kind sought entry = (name : K) × (key_read kind entry.bytes ≡ Ok (Some name)) × (kind.order sought name ≡ Equal)

-- none of the names compares equal to the sought one
abbrev pub NoneEqual : {K : Type 0} → (K → K → Ordering) → K → List K → Type 0
NoneEqual {K} order sought names = (name : K) → Contains names name → order sought name ≡ Equal → ⊥
