-- What a well formed capture holds fits into its bytes.
use Rattle.std.proofs.Common.{zero, suc, ℕ, ◌≡◌, ◌+◌, ◌*◌, ◌/◌, ◌≤◌, Bool, true, false, nat_eq, nat_lt, List, [], ◌∷◌, ◌++◌, length, take, drop, map, refl}
use Rattle.std.proofs.Common.{◌∙◌, ap, subst, arith, if◌then◌else◌, length-append, length-drop, take-append-drop, slice_index, not, Option, Some, None, Ok}
use Rattle.std.proofs.Math.Nat.{div-mul-le_self}
use Rattle.std.proofs.lemmas.Grind.{common_steps}
use Rattle.std.specs.Prelude.{option_and_then, option_map, ok_or}
use Rattle.refusal.specs.declared.Refusal.TheVariants.{MalformedCapture}
use Rattle.std.specs.List.{concat}
use Rattle.std.specs.Simd.{first_chunks}
use Rattle.capture.specs.Format.{Contents, most_bytes, most_pool, root_tag, cluster_tag, record_tag, head_size, split_field, records_of, fits_pool}
use Rattle.capture.specs.Format.{records_in, is_end, before_end, cluster_size_in, captured, parsed}
use Rattle.capture.specs.Written.{field_with, fields_with}
use Rattle.capture.proofs.Laws.{pool_long}

-- where the first record's field stands, behind the root's and the cluster size's; 0 where there are no records
abbrev pub first_of : Contents → ℕ
first_of c = if nat_eq (length c.records) 0 then 0 else head_size + length c.root + (head_size + 4)

pub record Fits (s : List ℕ) (c : Contents) : Type 0 where
  pub root_inside : head_size + length c.root ≤ length s
  pub records_inside : first_of c + length (fields_with c.records) ≤ length s
  pub pool_short : length (concat c.records) ≤ most_pool

parts-long : (n : ℕ) (s : List ℕ) → head_size + n ≤ length s → head_size + length (take n (drop head_size s)) + length (drop n (drop head_size s)) ≡ length s
parts-long n s room =
    let both = length-append (take n (drop 3 s)) (drop n (drop 3 s)) in
    let all : length (take n (drop 3 s) ++ drop n (drop 3 s)) ≡ length (drop 3 s) = ap length (take-append-drop n (drop 3 s)) in
    let long = length-drop 3 s in
    omega arith

split-long : (s : List ℕ) (tag : ℕ) (field : List ℕ × List ℕ) → split_field s tag ≡ Some field → head_size + length field.0 + length field.1 ≡ length s
unfolding split_field
split-long s tag field = by (slice_index s 1 + 256 * slice_index s 2) (nat_lt (length s) head_size) (nat_eq (slice_index s 0) tag)
  where
    at_size : (size : ℕ) (short : Bool) → nat_lt (length s) (head_size + size) ≡ short
        → (if short then None else Some (take size (drop head_size s), drop size (drop head_size s))) ≡ Some field
        → head_size + length field.0 + length field.1 ≡ length s
    at_size size true test is = absurd (let P : ⊥ = cc in P)
    at_size size false test is =
        let same : ◌≡◌ {A = List ℕ × List ℕ} (take size (drop head_size s), drop size (drop head_size s)) field = cc in
        let P : List ℕ × List ℕ → Type 0 = λ f. head_size + length f.0 + length f.1 ≡ length s in
        subst P same (parts-long size s (grind (arith, common_steps)))

    by : (size : ℕ) (none same : Bool)
        → (if none then None else if not same then None
        else if nat_lt (length s) (head_size + size) then None else Some (take size (drop head_size s), drop size (drop head_size s))) ≡ Some field
        → head_size + length field.0 + length field.1 ≡ length s
    by size true same is = absurd (let P : ⊥ = cc in P)
    by size false false is = absurd (let P : ⊥ = cc in P)
    by size false true is = at_size size (nat_lt (length s) (head_size + size)) refl is

before_end-long : (s fields : List ℕ) → before_end s ≡ Some fields → length fields ≤ length s
before_end-long s fields is = grind (arith, common_steps)

cluster-long : (bytes : List ℕ) (size : ℕ) → cluster_size_in bytes ≡ Some size → length bytes ≡ 4
cluster-long bytes size is = grind (arith, common_steps)

-- records in fields of their own
fields-long : (records : List (List ℕ)) → length (fields_with records) ≡ 3 * length records + length (concat records)
fields-long [] = refl
fields-long (bytes ∷ records) =
    let more = fields-long records in
    let front = length-append (field_with record_tag bytes) (fields_with records) in
    let back = length-append bytes (concat records) in
    omega arith

chunks-count : (width k : ℕ) (s : List ℕ) → length (map (drop 3) (first_chunks width k s)) ≡ k
chunks-count width zero s = refl
chunks-count width (suc k) s = let more = chunks-count width k (drop width s) in omega arith

records_of-inside : (size : ℕ) (s : List ℕ) → length (fields_with (records_of size s)) ≤ length s
records_of-inside size s =
    let all = fields-long (records_of size s) in
    let count = chunks-count (3 + size) (length s / (3 + size)) s in
    let pool = pool_long size s in
    let whole = div-mul-le_self (length s) (3 + size) in
    omega arith

-- a value that a step of the reading needs was there
went : {A B : Type 0} (f : A → Option B) (o : Option A) (y : B) → option_and_then f o ≡ Some y → (x : A) × (o ≡ Some x) × (f x ≡ Some y)
went f (Some x) y is = (x, refl, is)
went f None y is = absurd (let P : ⊥ = cc in P)

records_in-inside : (s : List ℕ) (records : List (List ℕ)) → records_in s ≡ Some records
    → (length (fields_with records) ≤ length s) × (length (concat records) ≤ most_pool)
unfolding records_in fits_pool
records_in-inside s records is =
    let first = went _ (split_field s record_tag) records is in
    let size = length first.0.0 in
    let same : records_of size s ≡ records = grind (arith, common_steps) in
    let short : length (concat (records_of size s)) ≤ most_pool = grind (arith, common_steps) in
    let P : List (List ℕ) → Type 0 = λ r. (length (fields_with r) ≤ length s) × (length (concat r) ≤ most_pool) in
    subst P same (records_of-inside size s, short)

module _ (s : List ℕ) (c : Contents) where
  abbrev with_records : (root : List ℕ) (size : ℕ) (records : List (List ℕ)) → Contents
  with_records root size records = record { root = root; cluster_size = size; records = records }

  filled : (root : List ℕ) (size before : ℕ) (fields : List ℕ) → head_size + length root + (head_size + 4) ≤ before → before + length fields ≤ length s
      → option_map (λ records. with_records root size records) (records_in fields) ≡ Some c → Fits s c
  filled root size before fields front back = by (records_in fields) refl
    where
      by : (r : Option (List (List ℕ))) → records_in fields ≡ r → option_map (λ records. with_records root size records) r ≡ Some c → Fits s c
      by None reads is = absurd (let P : ⊥ = cc in P)
      by (Some records) reads is =
          let same : with_records root size records ≡ c = cc in
          let its = records_in-inside fields records reads in
          let P : Contents → Type 0 = Fits s in
          subst P same (record { root_inside = omega arith; records_inside = first (nat_eq (length records) 0) (its.0); pool_short = its.1 })
        where
          first : (none : Bool) → length (fields_with records) ≤ length fields
              → (if none then 0 else head_size + length root + (head_size + 4)) + length (fields_with records) ≤ length s
          first true inside = omega arith
          first false inside = omega arith

  rooted : (root : List ℕ × List ℕ) → split_field s root_tag ≡ Some root
      → (if is_end root.1 then Some (with_records root.0 0 [])
      else option_and_then (λ cluster.
      option_and_then (λ size.
      option_and_then (λ fields. option_map (λ records. with_records root.0 size records) (records_in fields)) (before_end cluster.1))
      (cluster_size_in cluster.0)) (split_field root.1 cluster_tag)) ≡ Some c → Fits s c
  rooted root split = by (is_end root.1)
    where
      long : head_size + length root.0 + length root.1 ≡ length s
      long = split-long s root_tag root split

      by : (last : Bool) → (if last then Some (with_records root.0 0 [])
          else option_and_then (λ cluster.
          option_and_then (λ size.
          option_and_then (λ fields. option_map (λ records. with_records root.0 size records) (records_in fields)) (before_end cluster.1))
          (cluster_size_in cluster.0)) (split_field root.1 cluster_tag)) ≡ Some c → Fits s c
      by true is =
          let same : with_records root.0 0 [] ≡ c = cc in
          let inside = long in
          let P : Contents → Type 0 = Fits s in
          subst P same (record { root_inside = omega arith; records_inside = omega arith; pool_short = omega arith })
      by false is =
          let cluster = went _ (split_field root.1 cluster_tag) c is in
          let size = went _ (cluster_size_in cluster.0.0) c (cluster.2) in
          let fields = went _ (before_end cluster.0.1) c (size.2) in
          let whole = long in
          let rest = split-long root.1 cluster_tag (cluster.0) (cluster.1) in
          let four = cluster-long cluster.0.0 (size.0) (size.1) in
          let front = before_end-long cluster.0.1 (fields.0) (fields.1) in
          filled root.0 (size.0) (head_size + length root.0 + (head_size + 4)) (fields.0) (omega arith) (omega arith) (fields.2)

captured-fits : (s : List ℕ) (c : Contents) → captured s ≡ Some c → Fits s c
unfolding captured
captured-fits s c is = by (nat_lt most_bytes (length s)) is
  where
    by : (long : Bool) → (if long then None else option_and_then (λ root.
        if is_end root.1 then Some (with_records s c root.0 0 [])
        else option_and_then (λ cluster.
        option_and_then (λ size.
        option_and_then (λ fields. option_map (λ records. with_records s c root.0 size records) (records_in fields)) (before_end cluster.1))
        (cluster_size_in cluster.0)) (split_field root.1 cluster_tag)) (split_field s root_tag)) ≡ Some c → Fits s c
    by true is = absurd (let P : ⊥ = cc in P)
    by false is = let root = went _ (split_field s root_tag) c is in rooted s c (root.0) (root.1) (root.2)

pub parsed-fits : (s : List ℕ) (c : Contents) → parsed s ≡ Ok c → Fits s c
unfolding parsed
parsed-fits s c = by (captured s) refl
  where
    by : (r : Option Contents) → captured s ≡ r → ok_or r MalformedCapture ≡ Ok c → Fits s c
    by None reads is = absurd (let P : ⊥ = cc in P)
    by (Some its) reads is = let same : its ≡ c = cc in captured-fits s c (reads ∙ ap Some same)
