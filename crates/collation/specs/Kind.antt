-- Kinds of key.
use Rattle.std.specs.Prelude.{ℕ, List, Result, Ok}
use Rattle.std.specs.declared.cmp.Ordering.{Ordering}
use Rattle.refusal.specs.declared.Refusal.{Refusal}
use Rattle.refusal.specs.Then.{◌>>=◌}

-- a kind of key: what a key reads as, or why not, and the order of what was read
pub record Kind (K : Type 0) : Type 0 where
  pub reads : List ℕ → Result K Refusal
  pub order : K → K → Ordering

module _ {K : Type 0} (kind : Kind K) where
  -- whether a key can be read
  abbrev pub is_readable : List ℕ → Result (Unit {0}) Refusal
  is_readable key = kind.reads key >>= λ name. Ok tt

  -- how a sought name stands to a key, which is read before it is compared
  abbrev pub name_to_key : K → List ℕ → Result Ordering Refusal
  name_to_key name key = kind.reads key >>= λ other. Ok (kind.order name other)

  -- how a key stands to another
  abbrev pub key_to_key : List ℕ → List ℕ → Result Ordering Refusal
  key_to_key key other = kind.reads key >>= λ name. name_to_key name other
