-- A loop that copies, a turn on; and what it has copied at its end.
use Rattle.std.proofs.Common.{◌≡◌, ℕ, ◌+◌, ◌-◌, ◌/◌, ◌%◌, ◌<◌, ◌≤◌, List, [], ◌++◌, length, take, map, min, slice_set, sym, ◌∙◌, ap, subst, arith, zero-add, append-nil, le_antisymm}
use Rattle.std.specs.Int.{from_le_bytes, w16}
use Rattle.std.specs.Simd.{first_chunks}
use Rattle.std.proofs.lemmas.List.{drop_all, get_or-map, get_or-take, length-take}
use Rattle.std.proofs.lemmas.List.FromFn.{get_or-map-range_with_len, length-map-range_with_len}
use Rattle.std.proofs.lemmas.List.Edits.{paste_more, paste_all}
use Rattle.std.proofs.Math.ListN.{get_or}
use Rattle.replay_cases.specs.Fixture.{made, overwritten, unit_of, units_in}
use Rattle.replay_cases.specs.declared.fixture.MadeTable.{MadeTable}
use lib.ListN.{length-map}
use lib.Seq.{paste}

pub paste_one : (d : List ℕ) (at i : ℕ) (xs : List ℕ) (x : ℕ) → at + i < length d → i < length xs → x ≡ get_or xs i x
    → slice_set (paste d at xs i) (at + i) x ≡ paste d at xs (i + 1)
paste_one d at i xs x inside there e = ap (λ y. slice_set (paste d at xs i) (at + i) y) e ∙ paste_more d at xs i x inside there

pub paste_mapped : (d : List ℕ) (at i n : ℕ) (f : List ℕ → ℕ) (pairs : List (List ℕ)) (x : ℕ) → at + i < length d → i < n → i < length pairs
    → x ≡ f (get_or (take n pairs) i []) → slice_set (paste d at (map f pairs) i) (at + i) x ≡ paste d at (map f pairs) (i + 1)
paste_mapped d at i n f pairs x inside below there e =
    paste_one d at i (map f pairs) x inside (subst (λ k. i < k) (sym (length-map pairs f)) there)
    (e ∙ ap f (get_or-take n pairs i [] below) ∙ sym (get_or-map f pairs i [] x there))

pub length-made : (rule : MadeTable) (n : ℕ) → length (made rule n) ≡ n
length-made rule n = length-map-range_with_len (λ i. unit_of rule (i % 65536)) 0 n

pub paste_made : (d : List ℕ) (i : ℕ) (rule : MadeTable) (x : ℕ) → i < length d → x ≡ unit_of rule (i % 65536)
    → slice_set (paste d 0 (made rule (length d)) i) i x ≡ paste d 0 (made rule (length d)) (i + 1)
paste_made d i rule x inside e =
    subst (λ k. slice_set (paste d 0 (made rule (length d)) i) k x ≡ paste d 0 (made rule (length d)) (i + 1)) (zero-add i)
    (paste_one d 0 i (made rule (length d)) x (subst (λ k. k < length d) (sym (zero-add i)) inside)
    (subst (λ k. i < k) (sym (length-made rule (length d))) inside)
    (e ∙ sym (get_or-map-range_with_len (λ k. unit_of rule (k % 65536)) 0 (length d) i i x inside (zero-add i))))

-- all of it copied
pub paste_whole : (d s : List ℕ) (n : ℕ) → length s ≡ length d → length d ≤ n → n ≤ length d → paste d 0 s n ≡ s
paste_whole d s n e above below =
    paste_all d 0 s n (le_antisymm (subst (λ k. n ≤ k) (sym e) below) (subst (λ k. k ≤ n) (sym e) above))
    ∙ ap (λ (r : List ℕ). s ++ r) (drop_all (0 + n) d (subst (λ k. length d ≤ k) (sym (zero-add n)) above)) ∙ append-nil s

pub length-units : (bytes : List ℕ) (pairs : List (List ℕ)) → pairs ≡ first_chunks 2 (length bytes / 2) bytes → length (units_in bytes) ≡ length pairs
length-units bytes pairs front =
    subst (λ ps. length (map (from_le_bytes w16) ps) ≡ length pairs) front (length-map pairs (from_le_bytes w16))

-- a loop over the first n pairs, where n is as many as there are and as there is room for
module _ (d t : List ℕ) (at i n room : ℕ) (bytes : List ℕ) (pairs : List (List ℕ)) (front : pairs ≡ first_chunks 2 (length bytes / 2) bytes)
    (so_far : t ≡ paste d at (units_in bytes) i) (fits : room ≡ length d - at) (least : n ≡ min (length pairs) room) where
  pub write_one : (x : ℕ) → i < length (take n pairs) → x ≡ from_le_bytes w16 (get_or (take n pairs) i [])
      → slice_set t (at + i) x ≡ paste d at (units_in bytes) (i + 1)
  write_one x below is =
      let taken : length (take n pairs) ≡ min n (length pairs) = length-take n pairs in
      ap (λ y. slice_set y (at + i) x) so_far
      ∙ subst (λ ps. slice_set (paste d at (map (from_le_bytes w16) ps) i) (at + i) x ≡ paste d at (map (from_le_bytes w16) ps) (i + 1)) front
      (paste_mapped d at i n (from_le_bytes w16) pairs x (omega arith) (omega arith) (omega arith) is)

  pub written_all : length (take n pairs) ≤ i → i ≤ length (take n pairs) → t ≡ overwritten d at (units_in bytes)
  written_all above below =
      let taken : length (take n pairs) ≡ min n (length pairs) = length-take n pairs in
      let units : length (units_in bytes) ≡ length pairs = length-units bytes pairs front in
      let all : i ≡ min (length (units_in bytes)) (length d - at) = omega arith in
      so_far ∙ ap (λ k. paste d at (units_in bytes) k) all
