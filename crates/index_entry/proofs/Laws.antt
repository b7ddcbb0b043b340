-- Laws of an entry's key.
use Rattle.std.proofs.Common.{ℕ, ◌+◌, ◌≤◌, ◌≡◌, ◌==◌, nat_lt, Bool, true, false, List, length, take, drop, if◌then◌else◌, Option, Some, None, Result, Ok, Err, arith}
use Rattle.std.proofs.lemmas.Grind.{common_steps}
use Rattle.refusal.specs.declared.Refusal.{Refusal}
use Rattle.refusal.specs.declared.Refusal.TheVariants.{EntryDataRange}
use Rattle.index_entry.specs.Entry.{header_size, key_length_of, is_last, key_of}

-- a LAST_ENTRY has no key
pub last_keyless : (entry : List ℕ) → is_last entry ≡ true → key_of entry ≡ Ok None
unfolding key_of
last_keyless entry last = grind (arith, common_steps)

-- where a key of n bytes is answered, that part of the entry is the key
pub record PartOf (s : List ℕ) (at n : ℕ) (bytes : List ℕ) : Type 0 where
  pub within : at + n ≤ length s
  pub is_part : take n (drop at s) ≡ bytes

found : (absent last outside : Bool) (part key : List ℕ)
    → ◌≡◌ {A = Result (Option (List ℕ)) Refusal} (if absent then Ok None else if last then Ok None else if outside then Err EntryDataRange else Ok (Some part)) (Ok (Some key))
    → part ≡ key
found true last outside part key is = absurd (let P : ⊥ = cc in P)
found false true outside part key is = absurd (let P : ⊥ = cc in P)
found false false true part key is = absurd (let P : ⊥ = cc in P)
found false false false part key is = cc

-- a key is bytes 16 to 16 + key length, within the entry
pub keyed : (entry key : List ℕ) → key_of entry ≡ Ok (Some key) → PartOf entry header_size (key_length_of entry) key
unfolding key_of
keyed entry key is = record {
  within = grind (arith, common_steps);
  is_part = found (key_length_of entry == 0) (is_last entry) (nat_lt (length entry) (header_size + key_length_of entry)) _ key is;
}
