-- Laws of little-endian numbers over their width: m + n bytes are m bytes and n bytes above them.
use Rattle.std.proofs.Common.{ℕ, zero, suc, ◌+◌, ◌*◌, ◌^◌, ◌≤◌, ◌<◌, ◌≡◌, List, length, take, drop, slice_index, refl, arith}
use Rattle.std.proofs.lemmas.Grind.{common_steps}
use Rattle.std.proofs.Math.Nat.{zero-add, suc-add, add-zero, mul_assoc, pow-suc, mul_comm}
use Rattle.le.specs.Le.{bytes_at, le_at}

pub join : (m n : ℕ) (s : List ℕ) (at : ℕ) → bytes_at (m + n) s at ≡ bytes_at m s at + 256 ^ m * bytes_at n s (at + m)
join zero n s at = rw (zero-add, add-zero) (omega arith)
join (suc m) n s at =
    let ih = join m n s (at + 1) in
    let e : at + 1 + m ≡ at + suc m = omega arith in
    let p : 256 ^ suc m * bytes_at n s (at + suc m) ≡ 256 * (256 ^ m * bytes_at n s (at + suc m)) =
    rw (pow-suc, mul_comm (256 ^ m) 256, mul_assoc) in
    rw (suc-add, ih, e) (omega arith)

-- n bytes are a number below 256 ^ n
pub below : (n : ℕ) (s : List ℕ) (at : ℕ) → ((i : ℕ) → slice_index s i < 256) → bytes_at n s at < 256 ^ n
below zero s at b = omega arith
below (suc n) s at b =
    let ih = below n s (at + 1) b in
    let h = b at in
    rw (pow-suc, mul_comm) (omega arith)

-- a number read in a part of s is the one that s has there
bytes_part : (n : ℕ) (s : List ℕ) (from size at : ℕ) → at + n ≤ size → bytes_at n (take size (drop from s)) at ≡ bytes_at n s (from + at)
bytes_part zero s from size at h = refl
bytes_part (suc n) s from size at h =
    let ih = bytes_part n s from size (at + 1) (omega arith) in
    let e : from + (at + 1) ≡ from + at + 1 = omega arith in
    let first : slice_index (take size (drop from s)) at ≡ slice_index s (from + at) = grind (arith, common_steps) in
    rw (first, ih, e)

pub part : (n : ℕ) (s : List ℕ) (from size at : ℕ) → at + n ≤ size → from + size ≤ length s
    → le_at n (take size (drop from s)) at ≡ le_at n s (from + at)
part n s from size at h k =
    let l : length (take size (drop from s)) ≡ size = grind (arith, common_steps) in
    let same = bytes_part n s from size at h in
    grind (arith, common_steps)
