-- What ntfs_entry_name tells as a name is the name in the entry's key.
use Rattle.std.proofs.Common.{ℕ, ◌≡◌, ◌+◌, ◌*◌, Bool, true, false, nat_eq, nat_lt, List, length, take, drop, slice_index, refl, sym, ◌∙◌, ap, subst}
use Rattle.std.proofs.Common.{arith, Option, Some, None, Result, Ok, Err, if◌then◌else◌}
use Rattle.std.proofs.lemmas.Grind.{common_steps}
use Rattle.refusal.specs.declared.Refusal.{Refusal}
use Rattle.refusal.specs.declared.Refusal.TheVariants.{EntryDataRange}
use Rattle.file_reference.specs.Reference.{reference_of}
use Rattle.index_entry.specs.Entry.{entry_at, key_of, key_length_of, is_last}
use Rattle.file_name.specs.Key.{name_of}
use Rattle.c_api.specs.Lies.{AreAt}
use Rattle.c_api.specs.Words.{entry_name_words, name_words, part_name, entry_read_words}
use Rattle.c_api.proofs.Names.{named, name-units}
use Rattle.c_api.proofs.Places.{are_at-cut, are_at-part, entry-is_at}
use Rattle.c_api_claims.specs.Words.{EntryNameNames, TellsName}

pub key-is_at : (entry key : List ℕ) → key_of entry ≡ Ok (Some key) → AreAt entry 16 key
unfolding key_of
key-is_at entry key = by (nat_eq (key_length_of entry) 0) (is_last entry) (nat_lt (length entry) (16 + key_length_of entry)) refl
  where
    by : (none last past : Bool) → nat_lt (length entry) (16 + key_length_of entry) ≡ past
        → (if none then Ok None else if last then Ok None else if past then Err EntryDataRange else Ok (Some (take (key_length_of entry)
        (drop 16 entry)))) ≡ Ok (Some key) → AreAt entry 16 key
    by true last past test is = absurd (let P : ⊥ = cc in P)
    by false true past test is = absurd (let P : ⊥ = cc in P)
    by false false true test is = absurd (let P : ⊥ = cc in P)
    by false false false test is =
        let same : take (key_length_of entry) (drop 16 entry) ≡ key = cc in
        subst (AreAt entry 16) same (are_at-cut entry 16 (key_length_of entry) (grind (arith, common_steps)))

name-is_at : (key name : List ℕ) → name_of key ≡ Ok name → AreAt key 66 name
name-is_at key name is = let its = named key name is in subst (AreAt key 66) its.is (are_at-cut key 66 (2 * slice_index key 64) its.long)

module _ (lent entry key name : List ℕ) (first : entry_at lent 0 ≡ Ok entry) (keyed : key_of entry ≡ Ok (Some key)) (reads : name_of key ≡ Ok name) where
  there : AreAt lent 82 name
  there = are_at-part lent key name 16 66 (are_at-part lent entry key 0 16 (entry-is_at lent 0 entry first) (key-is_at entry key keyed))
      (name-is_at key name reads)

  long : length name ≡ 2 * slice_index key 64
  long = name-units key name reads

  tells : TellsName lent (entry_name_words lent) entry key
  unfolding entry_name_words
  tells = record {
    entry_there = first;
    key_there = keyed;
    within = rw (first, keyed, reads) (omega (arith, there.within, long));
    same = rw (first, keyed, reads) (ap Ok (sym there.same ∙ ap (λ n. take n (drop 82 lent)) long));
  }

none_told : {A : Type 0} → ◌≡◌ {A = ℕ} 0 1 → A
none_told is = absurd (omega (arith, is))

refused_told : {A : Type 0} → ◌≡◌ {A = ℕ} 2 1 → A
refused_told is = absurd (omega (arith, is))

pub tells_name : EntryNameNames
unfolding entry_name_words
tells_name lent = by_entry (entry_at lent 0) refl
  where
    by_name : (entry key : List ℕ) → entry_at lent 0 ≡ Ok entry → key_of entry ≡ Ok (Some key) → (name : Result (List ℕ) Refusal) → name_of key ≡ name
        → slice_index (name_words (reference_of entry) (part_name (Ok (Some key)))) 0 ≡ 1
        → (e : List ℕ) × (k : List ℕ) × TellsName lent (entry_name_words lent) e k
    by_name entry key first keyed (Ok name) reads told = (entry, key, tells lent entry key name first keyed reads)
    by_name entry key first keyed (Err refusal) reads told = refused_told (rw reads at told)

    by_key : (entry : List ℕ) → entry_at lent 0 ≡ Ok entry → (key : Result (Option (List ℕ)) Refusal) → key_of entry ≡ key
        → slice_index (name_words (reference_of entry) (part_name key)) 0 ≡ 1 → (e : List ℕ) × (k : List ℕ) × TellsName lent (entry_name_words lent) e k
    by_key entry first (Ok (Some key)) keyed told = by_name entry key first keyed (name_of key) refl told
    by_key entry first (Ok None) keyed told = none_told told
    by_key entry first (Err refusal) keyed told = refused_told told

    by_entry : (entry : Result (List ℕ) Refusal) → entry_at lent 0 ≡ entry
        → slice_index (entry_read_words entry) 0 ≡ 1 → (e : List ℕ) × (k : List ℕ) × TellsName lent (entry_name_words lent) e k
    by_entry (Ok entry) first told = by_key entry first (key_of entry) refl told
    by_entry (Err refusal) first told = refused_told told
