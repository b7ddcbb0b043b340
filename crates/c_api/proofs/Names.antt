-- What a key's bytes say of its name.
use Rattle.std.proofs.Common.{ℕ, ◌≡◌, ◌+◌, ◌*◌, ◌≤◌, refl, Bool, true, false, nat_lt, cond, List, length, take, drop, slice_index, arith, Result, Ok}
use Rattle.std.proofs.Common.{Err, ap, sym, ◌∙◌, length-drop}
use Rattle.std.proofs.lemmas.Grind.{common_steps}
use Rattle.std.proofs.lemmas.List.{length-take-le}
use Rattle.refusal.specs.declared.Refusal.{Refusal}
use Rattle.refusal.specs.declared.Refusal.TheVariants.{KeyUnreadable}
use Rattle.file_name.specs.Key.{name_of}

abbrev unless : Bool → Result (List ℕ) Refusal → Result (List ℕ) Refusal
unless test read = cond test (Err KeyUnreadable) read

-- the bytes of a key that can be read as a name
pub record IsNamed (key name : List ℕ) : Type 0 where
  pub long : 66 + 2 * slice_index key 64 ≤ length key
  pub is : take (2 * slice_index key 64) (drop 66 key) ≡ name

pub named : (key name : List ℕ) → name_of key ≡ Ok name → IsNamed key name
named key name = by (nat_lt (length key) 66) (nat_lt 3 (slice_index key 65)) (nat_lt (length key) (66 + 2 * slice_index key 64)) refl
  where
    by : (short other past : Bool) → nat_lt (length key) (66 + 2 * slice_index key 64) ≡ past
        → unless short (unless other (unless past (Ok (take (2 * slice_index key 64) (drop 66 key))))) ≡ Ok name → IsNamed key name
    by true other past test is = cc
    by false true past test is = cc
    by false false true test is = cc
    by false false false test is = record { long = grind (arith, common_steps); is = cc }

-- two bytes for each unit
pub name-units : (key name : List ℕ) → name_of key ≡ Ok name → length name ≡ 2 * slice_index key 64
name-units key name is =
    let its = named key name is in
    let rest = length-drop 66 key in
    ap length (sym its.is) ∙ length-take-le (2 * slice_index key 64) (drop 66 key) (omega (arith, its.long))

pub ruleset of_keys = (name-units)
