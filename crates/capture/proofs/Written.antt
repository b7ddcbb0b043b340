-- A capture that is written is read back: each field is split off again, and then the records' fields, one after the other.
use Rattle.std.proofs.Common.{rules, ◌&&◌, ◌≡◌, ◌≤◌, ℕ, zero, suc, ◌+◌, ◌*◌, ◌/◌, ◌%◌, Bool, true, false, nat_eq, List, [], ◌∷◌, ◌++◌, length, take}
use Rattle.std.proofs.Common.{drop, map, Some, refl, ap, ◌∙◌, ◌-◌, arith, length-append}
use Rattle.std.proofs.lemmas.Grind.{common_steps}
use Rattle.std.proofs.Math.Nat.{mod-add-div, zero-mod, add-mul-mod_self_right}
use Rattle.std.proofs.Math.Seq.{take-append_seam, drop-append_seam}
use Rattle.std.specs.Prelude.{All, Ok}
use Rattle.std.specs.List.{concat, list_all, starts_with}
use Rattle.std.specs.Int.{from_le_bytes, w32}
use Rattle.capture.specs.Format.{most_pool, most_bytes, split_field, fields_of, records_of, records_in, is_one_head, fits_pool, before_end, end_field}
use Rattle.capture.specs.Format.{captured, parsed}
use Rattle.capture.specs.Written.{field_with, fields_with, written}
use borrow.Author.Tests.{tests, le-leb, le-ltb}
use lib.Dec.{ltb}
use Rattle.capture.proofs.Laws.{next_field, no_field}

split_sized : (tag size : ℕ) (bytes rest : List ℕ) → size ≡ length bytes
    → split_field (tag ∷ size % 256 ∷ size / 256 ∷ (bytes ++ rest)) tag ≡ Some (bytes, rest)
unfolding split_field
split_sized tag size bytes rest e =
    let n : size % 256 + 256 * (size / 256) ≡ size = mod-add-div size 256 in
    let l = length-append bytes rest in
    let t : take size (bytes ++ rest) ≡ bytes = rw e (take-append_seam bytes rest) in
    let d : drop size (bytes ++ rest) ≡ rest = rw e (drop-append_seam bytes rest) in
    rw n (grind (arith, common_steps))

split_written : (tag : ℕ) (bytes rest : List ℕ) → split_field (field_with tag bytes ++ rest) tag ≡ Some (bytes, rest)
split_written tag bytes rest = split_sized tag (length bytes) bytes rest refl

end_written : (fields : List ℕ) → before_end (fields ++ end_field) ≡ Some fields
end_written fields =
    let l : length (fields ++ end_field) - 3 ≡ length fields = rw (length-append fields end_field) (omega arith) in
    rw (l, drop-append_seam fields end_field, take-append_seam fields end_field) refl

-- all records are of one length
abbrev pub Long : (size : ℕ) → List (List ℕ) → Type 0
Long size records = All (λ bytes. length bytes ≡ size) records

first_long : (size : ℕ) (bytes : List ℕ) (records : List (List ℕ)) → Long size (bytes ∷ records) → length bytes ≡ size
first_long size bytes records same = same 0 [] (omega arith)

more_long : (size : ℕ) (bytes : List ℕ) (records : List (List ℕ)) → Long size (bytes ∷ records) → Long size records
more_long size bytes records same k d h = same (suc k) d (omega arith)

fields_back : (size : ℕ) (records : List (List ℕ)) → Long size records → fields_of (3 + size) (fields_with records) ≡ map (field_with 3) records
fields_back size [] same = no_field (3 + size) [] (omega arith)
fields_back size (bytes ∷ records) same =
    let long = first_long size bytes records same in
    next_field (3 + size) (fields_with (bytes ∷ records)) (field_with 3 bytes) (fields_with records) (omega arith) refl (omega arith)
    ∙ ap (λ fields. field_with 3 bytes ∷ fields) (fields_back size records (more_long size bytes records same))

heads_off : (records : List (List ℕ)) → map (drop 3) (map (field_with 3) records) ≡ records
heads_off [] = refl
heads_off (bytes ∷ records) = ap (λ more. bytes ∷ more) (heads_off records)

records_back : (size : ℕ) (records : List (List ℕ)) → Long size records → records_of size (fields_with records) ≡ records
records_back size records same = ap (map (drop 3)) (fields_back size records same) ∙ heads_off records

fields_long : (size : ℕ) (records : List (List ℕ)) → Long size records → length (fields_with records) ≡ length records * (3 + size)
fields_long size [] same = omega arith
fields_long size (bytes ∷ records) same =
    let long = first_long size bytes records same in
    let more = fields_long size records (more_long size bytes records same) in
    let l = length-append (field_with 3 bytes) (fields_with records) in
    let e : suc (length records) * (3 + size) ≡ (3 + size) + length records * (3 + size) = omega arith in
    rw (e, ← more) (omega arith)

agrees : (a b : ℕ) (bytes : List ℕ) → starts_with nat_eq (3 ∷ a ∷ b ∷ bytes) (3 ∷ a ∷ b ∷ []) ≡ true
agrees a b bytes = search (rules, tests)

agrees_too : (size : ℕ) (bytes : List ℕ) (more : Bool) → length bytes ≡ size → more ≡ true
    → (starts_with nat_eq (field_with 3 bytes) (3 ∷ size % 256 ∷ size / 256 ∷ []) && more) ≡ true
agrees_too size bytes more e h =
    let a : starts_with nat_eq (field_with 3 bytes) (3 ∷ size % 256 ∷ size / 256 ∷ []) ≡ true =
    rw (← e) (agrees (length bytes % 256) (length bytes / 256) bytes) in
    rw (a, h) refl

one_head : (size : ℕ) (records : List (List ℕ)) → Long size records
    → list_all (λ field. starts_with nat_eq field (3 ∷ size % 256 ∷ size / 256 ∷ [])) (map (field_with 3) records) ≡ true
one_head size [] same = refl
one_head size (bytes ∷ records) same =
    let long = first_long size bytes records same in
    agrees_too size bytes (list_all (λ field. starts_with nat_eq field (3 ∷ size % 256 ∷ size / 256 ∷ [])) (map (field_with 3) records)) long
    (one_head size records (more_long size bytes records same))

all_long : (first : List ℕ) (records : List (List ℕ)) → Long (length first) records → Long (length first) (first ∷ records)
all_long first records same zero d h = refl
all_long first records same (suc k) d h = same k d (omega arith)

head_is_one : (first : List ℕ) (records : List (List ℕ)) → Long (length first) records
    → is_one_head (3 + length first) (fields_with (first ∷ records)) ≡ true
unfolding is_one_head
head_is_one first records same =
    let all = all_long first records same in
    rw (fields_back (length first) (first ∷ records) all) (one_head (length first) (first ∷ records) all)

whole_fields : (size n : ℕ) → n * (3 + size) % (3 + size) ≡ 0
whole_fields size n =
    let e : n * (3 + size) ≡ 0 + n * (3 + size) = omega arith in
    rw e (add-mul-mod_self_right 0 n (3 + size) ∙ zero-mod (3 + size))

fit_pool : (first : List ℕ) (records : List (List ℕ)) → Long (length first) records → length (concat (first ∷ records)) ≤ 57344
    → fits_pool (length first) (fields_with (first ∷ records)) ≡ true
unfolding fits_pool
fit_pool first records same fit =
    let all = all_long first records same in
    rw (
      records_back (length first) (first ∷ records) all,
      fields_long (length first) (first ∷ records) all,
      whole_fields (length first) (length (first ∷ records)),
    ) (le-leb (length (concat (first ∷ records))) 57344 fit)

written_in : (first : List ℕ) (records : List (List ℕ)) → Long (length first) records → length (concat (first ∷ records)) ≤ 57344
    → records_in (fields_with (first ∷ records)) ≡ Some (first ∷ records)
unfolding records_in
written_in first records same fit =
    rw (
      split_written 3 first (fields_with records),
      fit_pool first records same fit,
      head_is_one first records same,
      records_back (length first) (first ∷ records) (all_long first records same),
    ) refl

pub read_back : (root cluster_size first : List ℕ) (records : List (List ℕ)) → length cluster_size ≡ 4 → Long (length first) records
    → length (concat (first ∷ records)) ≤ most_pool → length (written root cluster_size (first ∷ records)) ≤ most_bytes
    → parsed (written root cluster_size (first ∷ records))
    ≡ Ok (record { root = root; cluster_size = from_le_bytes w32 cluster_size; records = first ∷ records })
unfolding parsed captured
read_back root cluster_size first records four same fit short =
    let behind = fields_with (first ∷ records) ++ end_field in
    let cluster = field_with 2 cluster_size ++ behind in
    let all = written root cluster_size (first ∷ records) in
    let long : ltb 65535 (length all) ≡ false = le-ltb 65535 (length all) short in
    rw (
      long,
      split_written 1 root cluster,
      split_written 2 cluster_size behind,
      four,
      end_written (fields_with (first ∷ records)),
      written_in first records same fit,
    ) refl
