-- The name in the key of an entry.
use Rattle.std.proofs.Common.{ℕ, ◌≡◌, ◌+◌, ◌≤◌, Bool, true, false, List, [], ◌∷◌, ◌++◌, length, take, drop, refl, sym, ◌∙◌, ap, Option, Some, None, Result, Ok, Err, Less, arith, ◌⊎◌, inl}
use Rattle.std.proofs.Common.{inr, subst}
use Rattle.std.specs.Prelude.{Contains}
use Rattle.std.proofs.lemmas.Grind.{common_steps}
use Rattle.refusal.specs.declared.Refusal.{Refusal}
use Rattle.refusal.specs.Then.{◌>>=◌}
use Rattle.index_entry.specs.Entry.{header_size, key_length_of, is_last, key_of}
use Rattle.collation.specs.Kind.{Kind}
use Rattle.directory.specs.Lent.{EntryPlaced}
use Rattle.index_finder.specs.Find.{stands}
use Rattle.sound.specs.Keys.{read_as, key_read, name_and, keys_of}
use Rattle.sound.proofs.Elements.{contains-none, contains-cases, contains-here, contains-there}

-- a LAST_ENTRY has no key
pub last-no_key : (entry : List ℕ) → is_last entry ≡ true → key_of entry ≡ Ok None
unfolding key_of
last-no_key entry last = grind (arith, common_steps)

-- a key is as long as its length field says, behind the header, within the entry
pub record IsKeyOf (entry key : List ℕ) : Type 0 where
  pub within : header_size + key_length_of entry ≤ length entry
  pub is_part : take (key_length_of entry) (drop header_size entry) ≡ key
  pub as_long : length key ≡ key_length_of entry

pub key_of-part : (entry key : List ℕ) → key_of entry ≡ Ok (Some key) → IsKeyOf entry key
unfolding key_of
key_of-part entry key is =
    let within : 16 + key_length_of entry ≤ length entry = grind (arith, common_steps) in
    let is_part : take (key_length_of entry) (drop 16 entry) ≡ key = grind (arith, common_steps) in
    record { within = within; is_part = is_part; as_long = rw (← is_part) (grind (arith, common_steps)) }

-- an entry that has a key which reads as this name
pub record IsNamed {K : Type 0} (kind : Kind K) (entry : List ℕ) (name : K) : Type 0 where
  pub goes_on : is_last entry ≡ false
  pub key : List ℕ
  pub keyed : key_of entry ≡ Ok (Some key)
  pub named : kind.reads key ≡ Ok name

module _ {K : Type 0} (kind : Kind K) where
  pub is-named : (entry : List ℕ) (name : K) → key_read kind entry ≡ Ok (Some name) → IsNamed kind entry name
  unfolding key_read
  is-named entry name is = by (is_last entry) refl (key_of entry) refl is
    where
      reading : (r : Result K Refusal) → (r >>= λ x. Ok (Some x)) ≡ Ok (Some name) → r ≡ Ok name
      reading (Ok x) is = let same : x ≡ name = cc in ap Ok same
      reading (Err refusal) is = absurd (let P : ⊥ = cc in P)

      by : (last : Bool) → is_last entry ≡ last → (key : Result (Option (List ℕ)) Refusal) → key_of entry ≡ key → read_as kind key ≡ Ok (Some name)
          → IsNamed kind entry name
      by last its (Ok None) eq is = absurd (let P : ⊥ = cc in P)
      by last its (Err refusal) eq is = absurd (let P : ⊥ = cc in P)
      by true its (Ok (Some key)) eq is = absurd (let both = sym (last-no_key entry its) ∙ eq in let P : ⊥ = cc in P)
      by false its (Ok (Some key)) eq is = record { goes_on = its; key = key; keyed = eq; named = reading (kind.reads key) is }

  pub reads-named : (entry key : List ℕ) (name : K) → key_of entry ≡ Ok (Some key) → kind.reads key ≡ Ok name → key_read kind entry ≡ Ok (Some name)
  unfolding key_read
  reads-named entry key name keyed named = rw (keyed, named) refl

  -- how a sought name stands to an entry
  pub stands-none : (sought : K) (entry : List ℕ) → is_last entry ≡ true → stands kind sought entry ≡ Ok Less
  unfolding stands
  stands-none sought entry last = rw (last-no_key entry last) refl

  pub stands-some : (sought : K) (entry : List ℕ) (name : K) → key_read kind entry ≡ Ok (Some name) → stands kind sought entry ≡ Ok (kind.order sought name)
  unfolding stands
  stands-some sought entry name is = let its = is-named entry name is in rw (its.keyed, its.named) refl

  -- the names of entries
  pub keys_of-named : (entry : EntryPlaced) (rest : List EntryPlaced) (name : K) → key_read kind entry.bytes ≡ Ok (Some name)
      → keys_of kind (entry ∷ rest) ≡ name ∷ keys_of kind rest
  unfolding keys_of
  keys_of-named entry rest name is = ap (λ r. name_and r (keys_of kind rest)) is

  name_and-append : (r : Result (Option K) Refusal) (xs ys : List K) → name_and r (xs ++ ys) ≡ name_and r xs ++ ys
  name_and-append (Ok (Some name)) xs ys = refl
  name_and-append (Ok None) xs ys = refl
  name_and-append (Err refusal) xs ys = refl

  pub keys_of-append : (xs ys : List EntryPlaced) → keys_of kind (xs ++ ys) ≡ keys_of kind xs ++ keys_of kind ys
  unfolding keys_of
  keys_of-append [] ys = refl
  keys_of-append (x ∷ xs) ys = ap (name_and (key_read kind x.bytes)) (keys_of-append xs ys)
      ∙ name_and-append (key_read kind x.bytes) (keys_of kind xs) (keys_of kind ys)

  name_and-there : (r : Result (Option K) Refusal) (names : List K) (name : K) → Contains names name → Contains (name_and r names) name
  name_and-there (Ok (Some x)) names name has = contains-there name x names has
  name_and-there (Ok None) names name has = has
  name_and-there (Err refusal) names name has = has

  pub keys_of-contains : (entries : List EntryPlaced) (entry : EntryPlaced) (name : K) → Contains entries entry → key_read kind entry.bytes ≡ Ok (Some name)
      → Contains (keys_of kind entries) name
  unfolding keys_of
  keys_of-contains [] entry name has is = absurd (contains-none entry has)
  keys_of-contains (x ∷ xs) entry name has is = by (contains-cases entry x xs has) (λ there. keys_of-contains xs entry name there is)
    where
      by : (x ≡ entry) ⊎ Contains xs entry → (Contains xs entry → Contains (keys_of kind xs) name)
          → Contains (name_and (key_read kind x.bytes) (keys_of kind xs)) name
      by (inl same) more =
          let P : Result (Option K) Refusal → Type 0 = λ r. Contains (name_and r (keys_of kind xs)) name in
          subst P (sym (ap (λ e. key_read kind (e.bytes)) same ∙ is)) (contains-here name (keys_of kind xs))
      by (inr there) more = name_and-there (key_read kind x.bytes) (keys_of kind xs) name (more there)
