-- Numbers of four bytes as a kind of key.
use Rattle.std.specs.Prelude.{ℕ, nat_lt, List, [], ◌∷◌, length, slice_index, if◌then◌else◌, Result, Ok, Err}
use Rattle.std.specs.declared.cmp.Ordering.{Ordering}
use Rattle.std.specs.Ordering.{nat_cmp}
use Rattle.std.specs.Cmp.{IsTotalOrder}
use Rattle.std.proofs.lemmas.Cmp.{on_total, nat_cmp_total}
use Rattle.le.specs.Le.{le_at}
use Rattle.refusal.specs.declared.Refusal.{Refusal}
use Rattle.refusal.specs.declared.Refusal.TheVariants.{KeyUnreadable}
use Rattle.collation.specs.Kind.{Kind}

-- a number, as the name that it is
abbrev pub as_name : ℕ → List ℕ
as_name number = number ∷ []

-- the number in a key's first four bytes, the lowest first; 18
abbrev pub number_in : List ℕ → Result ℕ Refusal
number_in key = if nat_lt (length key) 4 then Err KeyUnreadable else Ok (le_at 4 key 0)

abbrev pub named : Result ℕ Refusal → Result (List ℕ) Refusal
named (Ok number) = Ok (as_name number)
named (Err refusal) = Err refusal

abbrev pub number_order : List ℕ → List ℕ → Ordering
number_order one other = nat_cmp (slice_index one 0) (slice_index other 0)

abbrev pub numbers : Kind (List ℕ)
numbers = record { reads = λ key. named (number_in key); order = number_order }

pub number_order-total : IsTotalOrder number_order
number_order-total = on_total (λ name. slice_index name 0) nat_cmp_total
