-- What is read of an input, and the case that it is.
use Rattle.std.proofs.Common.{◌≡◌, ℕ, ◌+◌, ◌-◌, ◌≤◌, List, ◌++◌, Option, None, Some, IfSome, cond, leb, length, take, drop, min, sym, ap, subst, ◌∙◌, arith, append-nil, slice_range, take_all, drop_at, length-append, length-drop, length-take-le, drop_of_length-le}
use Rattle.std.proofs.lemmas.Grind.{common_steps}
use Rattle.std.proofs.lemmas.List.{drop-drop, drop_min}
use Rattle.std.specs.Io.KnownBytes.{Consumes, IsAtEnd}
use borrow.Rule.Slice.PartMut.{put_mid, post_of}
use lib.Seq.{take-add, take-append-le}
use Rattle.replay_cases.specs.Numbers.{number_in}
use Rattle.replay_cases.specs.Cases.{Fills, ReadsWhole, length_read, size_read}

-- there was no more room
pub fills_room : (a b : Option (List ℕ)) (n : ℕ) (bytes : List ℕ) → n ≡ length bytes → Consumes a b (take n bytes) → Fills (length bytes) a b bytes n
fills_room None b n bytes all c = tt
fills_room (Some xs) None n bytes all c = absurd c
fills_room (Some xs) (Some ys) n bytes all c =
    let whole : take n bytes ≡ bytes = ap (λ k. take k bytes) all ∙ take_all (length bytes) bytes (omega arith) in
    let is : xs ≡ bytes ++ ys = c ∙ ap (λ l. l ++ ys) whole in
    let long : length xs ≡ length bytes + length ys = ap length is ∙ length-append bytes ys in
    (omega arith, whole ∙ grind (arith, common_steps), ap Some (grind (arith, common_steps)))

-- there was no more to read
pub fills_ended : (a b : Option (List ℕ)) (n : ℕ) (bytes : List ℕ) → n ≤ length bytes → Consumes a b (take n bytes) → IsAtEnd b → Fills (length bytes) a b bytes n
fills_ended None b n bytes within c e = tt
fills_ended (Some xs) None n bytes within c e = absurd c
fills_ended (Some xs) (Some ys) n bytes within c e =
    let is : xs ≡ take n bytes = c ∙ ap (λ l. take n bytes ++ l) e ∙ append-nil (take n bytes) in
    let long : length xs ≡ n = ap length is ∙ length-take-le n bytes within in (
      omega arith,
      sym is ∙ sym (take_all (length bytes) xs (omega arith)),
      ap Some (e ∙ sym (drop_of_length-le xs {i = length bytes} (omega arith))),
    )

-- what was read stands where it was read to, and so the front has grown by it
pub part_read : (a k n : ℕ) (xs ys : List ℕ) → a ≤ length xs → n ≤ length ys → slice_range (put_mid a k xs ys) a (a + n) ≡ take n ys
part_read a k n xs ys within fits =
    let same : (a + n) - a ≡ n = omega arith in
    let after = post_of a k xs in
    ap (take ((a + n) - a)) (drop_at (take a xs) (ys ++ after) a (length-take-le a xs within)) ∙ ap (λ m. take m (ys ++ after)) same ∙ take-append-le n ys after fits

pub front_read : (a b : ℕ) (old new : List ℕ) → a ≤ b → take a new ≡ take a old → take a old ++ slice_range new a b ≡ take b new
front_read a b old new h front =
    let same : a + (b - a) ≡ b = omega arith in
    ap (λ l. l ++ slice_range new a b) (sym front) ∙ sym (take-add a (b - a) new) ∙ ap (λ n. take n new) same

whole_head : (hs n : ℕ) (xs head : List ℕ) → length head ≡ hs → hs ≤ n → take n head ≡ take hs xs → head ≡ take hs xs
whole_head hs n xs head long whole read = sym (take_all n head (omega arith)) ∙ read

-- a case was read whole
pub case_read : (a b c : Option (List ℕ)) (hs rs n m size : ℕ) (head body tag : List ℕ) → length head ≡ hs → hs ≤ n → Fills hs a b head n
    → size ≡ number_in head 0 → size ≤ rs → length body ≡ size → size ≤ m → Fills size b c body m → tag ≡ drop 4 head
    → IfSome a (λ input. ReadsWhole hs rs input × (tag ≡ drop 4 (take hs input)) × (body ≡ take (size_read hs input) (drop hs input)))
case_read None b c hs rs n m size head body tag long whole first is fits sized short second named = tt
case_read (Some xs) b c hs rs n m size head body tag long whole first is fits sized short second named =
    let on = subst (λ o. Fills size o c body m) first.2 second in
    let front : head ≡ take hs xs = whole_head hs n xs head long whole first.1 in
    let same : size ≡ size_read hs xs = is ∙ ap (λ l. number_in l 0) front in
    let left : length (drop hs xs) ≡ length xs - hs = length-drop hs xs in
    let given : body ≡ take size (drop hs xs) = sym (take_all m body (omega arith)) ∙ on.1 in
    let counted : n ≡ min hs (length xs) = first.0 in
    let more : m ≡ min size (length (drop hs xs)) = on.0 in
    subst (λ k. ((k ≤ rs) × (hs + k ≤ length xs)) × (tag ≡ drop 4 (take hs xs)) × (body ≡ take k (drop hs xs))) same
    ((fits, omega arith), named ∙ ap (drop 4) front, given)

pub rest_read : (a b c : Option (List ℕ)) (hs rs n m size : ℕ) (head body : List ℕ) → length head ≡ hs → hs ≤ n → Fills hs a b head n
    → size ≡ number_in head 0 → size ≤ rs → Fills size b c body m → IfSome a (λ input. c ≡ Some (drop (length_read hs rs input) input))
rest_read None b c hs rs n m size head body long whole first is fits second = tt
rest_read (Some xs) b c hs rs n m size head body long whole first is fits second =
    let on = subst (λ o. Fills size o c body m) first.2 second in
    let front : head ≡ take hs xs = whole_head hs n xs head long whole first.1 in
    let same : size ≡ size_read hs xs = is ∙ ap (λ l. number_in l 0) front in
    let read : cond (leb size rs) (hs + size) hs ≡ hs + size = grind (arith, common_steps) in
    on.2 ∙ ap Some (drop-drop size hs xs ∙ ap (λ k. drop k xs) (sym read ∙ ap (λ k. cond (leb k rs) (hs + k) hs) same))

-- what follows the size
pub tag_read : (head : List ℕ) (k : ℕ) → k ≡ min (length head) 4 → slice_range head k (length head) ≡ drop 4 head
tag_read head k is =
    let short : k ≡ min 4 (length head) = omega arith in
    take_all (length head - k) (drop k head) (omega (arith, length-drop k head)) ∙ ap (λ i. drop i head) short ∙ drop_min 4 head
