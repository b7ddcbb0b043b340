-- The fields of records: one after the other as a loop meets them, and their bytes in a pool.
use Rattle.std.proofs.Common.{Bool, false, ◌≡◌, ◌≤◌, ◌<◌, ℕ, zero, suc, ◌+◌, ◌*◌, ◌/◌, List, [], ◌∷◌, ◌++◌, length, take, drop, map, refl, sym, ap}
use Rattle.std.proofs.Common.{◌∙◌, ◌-◌, arith, length-append, length-drop, length-take-le, append-nil, append_assoc, take-append-drop, drop-drop}
use Rattle.std.proofs.Math.Nat.{add-div_left, div-eq_of_lt, div-mul-le_self, mul-le-mul_left}
use Rattle.std.proofs.Math.Seq.{take-append_seam, take-append-add, drop-append_seam, drop-append-add}
use Rattle.std.proofs.lemmas.Grind.{common_steps}
use Rattle.std.specs.List.{concat, list_all}
use Rattle.std.specs.Simd.{first_chunks}
use Rattle.capture.specs.Format.{fields_of, records_of}

-- the next field, and those behind it
pub next_field : (width : ℕ) (s field rest : List ℕ) → 0 < width → s ≡ field ++ rest → length field ≡ width
    → fields_of width s ≡ field ∷ fields_of width rest
next_field width s field rest h e l =
    let n : length s / width ≡ suc (length rest / width) =
    rw (e, length-append field rest, l, add-div_left (length rest) h) (omega arith) in
    let t : take width (field ++ rest) ≡ field = rw (← l) (take-append_seam field rest) in
    let d : drop width (field ++ rest) ≡ rest = rw (← l) (drop-append_seam field rest) in
    rw (n, e, t, d) refl

pub no_field : (width : ℕ) (s : List ℕ) → length s < width → fields_of width s ≡ []
no_field width s h = rw (div-eq_of_lt h) refl

-- the record in the next field, and then those in the others
record_bytes : (field : List ℕ) → take (length field - 3) (drop 3 field) ≡ drop 3 field
record_bytes field = grind (arith, common_steps)

pub next_record : (size : ℕ) (s field rest : List ℕ) → s ≡ field ++ rest → length field ≡ 3 + size
    → concat (records_of size s) ≡ take (length field - 3) (drop 3 field) ++ concat (records_of size rest)
next_record size s field rest e l = rw (next_field (3 + size) s field rest (omega arith) e l, record_bytes field) refl

pub no_record : (size : ℕ) (s : List ℕ) → length s < 3 + size → concat (records_of size s) ≡ []
no_record size s h = rw (no_field (3 + size) s h) refl

-- so many records have so many bytes
record_long : (size : ℕ) (s : List ℕ) → 3 + size ≤ length s → length (drop 3 (take (3 + size) s)) ≡ size
record_long size s h = grind (arith, common_steps)

one_record : (size k : ℕ) (s pool : List ℕ) → 3 + size ≤ length s → length pool ≡ k * size
    → length (drop 3 (take (3 + size) s) ++ pool) ≡ suc k * size
one_record size k s pool h e = rw (length-append (drop 3 (take (3 + size) s)) pool, record_long size s h, e) (omega arith)

records_long : (size k : ℕ) (s : List ℕ) → k * (3 + size) ≤ length s
    → length (concat (map (drop 3) (first_chunks (3 + size) k s))) ≡ k * size
records_long size zero s h = omega arith
records_long size (suc k) s h =
    let e : suc k * (3 + size) ≡ (3 + size) + k * (3 + size) = omega arith in
    let l : length (drop (3 + size) s) ≡ length s - (3 + size) = length-drop (3 + size) s in
    one_record size k s (concat (map (drop 3) (first_chunks (3 + size) k (drop (3 + size) s)))) (omega arith)
    (records_long size k (drop (3 + size) s) (rw l (omega arith)))

pub pool_long : (size : ℕ) (s : List ℕ) → length (concat (records_of size s)) ≡ length s / (3 + size) * size
pool_long size s = records_long size (length s / (3 + size)) s (div-mul-le_self (length s) (3 + size))

-- which are no more than the input has
pub pool_within : (size : ℕ) (s : List ℕ) → length s / (3 + size) * size ≤ length s
pool_within size s =
    let whole = div-mul-le_self (length s) (3 + size) in
    let less = mul-le-mul_left (length s / (3 + size)) (let e : size ≤ 3 + size = omega arith in e) in
    omega arith

-- one that fails the test is enough
pub not_all : (test : List ℕ → Bool) (width : ℕ) (s field rest : List ℕ) → 0 < width → s ≡ field ++ rest → length field ≡ width
    → test field ≡ false → false ≡ list_all test (fields_of width s)
not_all test width s field rest h e l fails = rw (next_field width s field rest h e l, fails) refl

-- while records are copied: what is written, and then what is left, is the whole; behind it the pool is as it was
pub record Copied (whole old : List ℕ) (end : ℕ) (pool left : List ℕ) : Type 0 where
  pub long : length pool ≡ length old
  pub room : length whole ≤ length old
  pub start : take end pool ++ left ≡ whole
  pub rest : drop end pool ≡ drop end old
  pub bytes : end + length left ≡ length whole

module _ {whole old pool left : List ℕ} {end : ℕ} (now : Copied whole old end pool left) where
  pub room_left : (bytes more : List ℕ) → left ≡ bytes ++ more → end + length bytes ≤ length old
  room_left bytes more e =
      let room = now.room in
      let all = now.bytes in
      let both : length left ≡ length bytes + length more = rw (e, length-append bytes more) refl in
      omega arith

  pub copy_on : (bytes more new : List ℕ) → left ≡ bytes ++ more → new ≡ (take end pool ++ bytes) ++ drop (end + length bytes) pool
      → Copied whole old (end + length bytes) new more
  copy_on bytes more new e w =
      let same : new ≡ take end pool ++ (bytes ++ drop (end + length bytes) pool) = w ∙ append_assoc (take end pool) bytes (drop (end + length bytes) pool) in
      let room = room_left bytes more e in
      let long = now.long in
      let all = now.bytes in
      let after = drop (end + length bytes) pool in
      let short : length (take end pool) ≡ end = length-take-le end pool (omega arith) in
      let both : length left ≡ length bytes + length more = rw (e, length-append bytes more) refl in
      let front : take (end + length bytes) (take end pool ++ (bytes ++ after)) ≡ take end pool ++ bytes =
      ap (λ n. take (n + length bytes) (take end pool ++ (bytes ++ after))) (sym short)
      ∙ take-append-add (take end pool) (bytes ++ after) (length bytes)
      ∙ ap (λ l. take end pool ++ l) (take-append_seam bytes after) in
      let back : drop (end + length bytes) (take end pool ++ (bytes ++ after)) ≡ after =
      ap (λ n. drop (n + length bytes) (take end pool ++ (bytes ++ after))) (sym short)
      ∙ drop-append-add (take end pool) (bytes ++ after) (length bytes) ∙ drop-append_seam bytes after in
      rw same (record {
        long = rw (length-append (take end pool) (bytes ++ after), length-append bytes after, short, length-drop (end + length bytes) pool) (omega arith);
        room = now.room;
        start = rw (front, append_assoc, ← e) now.start;
        rest = back ∙ (sym (drop-drop (length bytes) end pool) ∙ (ap (drop (length bytes)) now.rest ∙ drop-drop (length bytes) end old));
        bytes = omega arith;
      })

  pub copied : left ≡ [] → (end ≡ length whole) × (pool ≡ whole ++ drop (length whole) old)
  copied e =
      let all = now.bytes in
      let none : length left ≡ 0 = rw e refl in
      let ended : end ≡ length whole = omega arith in
      let front : take end pool ≡ whole = sym (append-nil (take end pool)) ∙ (ap (λ l. take end pool ++ l) (sym e) ∙ now.start) in
      (ended, sym (take-append-drop end pool) ∙ (ap (λ l. l ++ drop end pool) front ∙ ap (λ l. whole ++ l) (now.rest ∙ ap (λ n. drop n old) ended)))
