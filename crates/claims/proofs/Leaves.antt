-- The promises of the leaves.
use Rattle.std.proofs.Common.{ℕ, ◌≡◌, ◌+◌, ◌*◌, ◌≤◌, ◌<◌, List, length, slice_index, refl, arith, nat_le, true}
use Rattle.std.proofs.lemmas.Grind.{common_steps}
use Rattle.std.proofs.Math.Arith.{digits_div, digits_mod}
use Rattle.le.specs.Le.{bytes_at, le_at}
use Rattle.le.proofs.Laws.{join, below as below_power}
use Rattle.file_reference.specs.Reference.{reference_of}
use Rattle.index_entry.specs.Entry.{entry_at}
use Rattle.upcase_table.specs.Names.{name_order-total}
use Rattle.claims.specs.Leaves.{NamesTotal, EntryAsLong, ReferenceSplit}
use Rattle.claims.proofs.Totals.{total-laws}

pub names_total : NamesTotal
names_total upcase = total-laws _ (name_order-total upcase)

pub as_long : EntryAsLong
unfolding entry_at
as_long node at entry is = grind (arith, common_steps)

module _ (bytes : List ℕ) (small : (at : ℕ) → slice_index bytes at < 256) where
  -- the number of the first six bytes is below the number of the next two, at its place
  below : bytes_at 6 bytes 0 < 281474976710656
  below = below_power 6 bytes 0 small

  joined : bytes_at 8 bytes 0 ≡ bytes_at 2 bytes 6 * 281474976710656 + bytes_at 6 bytes 0
  joined = let whole : bytes_at 8 bytes 0 ≡ bytes_at 6 bytes 0 + 281474976710656 * bytes_at 2 bytes 6 = join 6 2 bytes 0 in omega arith

pub split : ReferenceSplit
unfolding reference_of
split bytes small enough =
    let whole : le_at 8 bytes 0 ≡ bytes_at 2 bytes 6 * 281474976710656 + bytes_at 6 bytes 0 = rw (test enough) (joined bytes small) in
    let low : le_at 6 bytes 0 ≡ bytes_at 6 bytes 0 = grind (arith, common_steps) in
    let high : le_at 2 bytes 6 ≡ bytes_at 2 bytes 6 = rw (test enough) refl in
    record {
      record_number = rw (whole, low) (digits_mod (bytes_at 2 bytes 6) (below bytes small));
      sequence = rw (whole, high) (digits_div (bytes_at 2 bytes 6) (below bytes small));
    }
  where
    test : 8 ≤ length bytes → nat_le 8 (length bytes) ≡ true
    test enough = grind (arith, common_steps)
