-- The text of a listing, one step at a time.
use Rattle.std.proofs.Common.{◌≡◌, ℕ, zero, suc, ◌+◌, ◌-◌, ◌<◌, ◌≤◌, List, [], ◌++◌, length, length-append, length-take-le, append-nil, take, Option, None, Some, IfSome, Result, Ok, OnOk, refl, ap, subst, ◌∙◌, sym, arith}
use Rattle.std.specs.Io.KnownBytes.{Appends, Consumes, IsAtEnd}
use Rattle.std.proofs.Math.Seq.{take-append_seam}
use Rattle.std.proofs.lemmas.List.{take_all}
use Rattle.directory.specs.Answer.{Answered}
use Rattle.directory.specs.Directory.{spent_at}
use Rattle.directory.specs.Lent.{Lent}
use Rattle.index.specs.declared.cursor.Cursor.{Cursor}
use Rattle.index.specs.Step.{stand, step}
use Rattle.capture_show.specs.Front.{AppendsFront}
use Rattle.capture_show.specs.Text.{allowance, most_read, answer_text, lines_from, listing_text, output_of}
use Rattle.capture_show.proofs.FrontLemmas.{front_same}

-- with a step left, the text begins with its answer's
pub lines_here : (n : ℕ) (d : Lent) (cursor after : Cursor) (answer : Answered) → 0 < n → stand answer after ≡ step d (spent_at allowance) cursor
    → lines_from n d cursor ≡ answer_text answer (lines_from (n - 1) d after)
unfolding lines_from
lines_here zero d cursor after answer more e = absurd (omega arith)
lines_here (suc n) d cursor after answer more e =
    let less : suc n - 1 ≡ n = omega arith in
    rw less (ap (λ s. answer_text s.answer (lines_from n d s.cursor)) (sym e))

-- with none left, there is no more
pub lines_done : (n : ℕ) (d : Lent) (cursor : Cursor) → n ≡ 0 → lines_from n d cursor ≡ []
unfolding lines_from
lines_done n d cursor none = rw none refl

-- with room for k more than the bytes in front, there is nothing behind them
taken_with : (k n : ℕ) (bs rest : List ℕ) → n ≡ length bs + k → (0 < k → rest ≡ []) → take n (bs ++ rest) ≡ bs
taken_with zero n bs rest room end = let e : n ≡ length bs = omega arith in rw e (take-append_seam bs rest)
taken_with (suc k) n bs rest room end =
    let none : rest ≡ [] = end (omega arith) in
    rw none (take_all n (bs ++ []) (omega (arith, length-append bs [])) ∙ append-nil bs)

-- the bytes that a reader lost are all that it had, as far as there was room
pub known_taken : (old new : Option (List ℕ)) (bs : List ℕ) (n : ℕ) → Consumes old new bs → length bs ≤ n → (length bs < n → IsAtEnd new) → IfSome old (λ xs. take n xs ≡ bs)
known_taken None new bs n lost room end = tt
known_taken (Some xs) None bs n lost room end = absurd lost
known_taken (Some xs) (Some ys) bs n lost room end = ap (take n) lost ∙ taken_with (n - length bs) n bs ys (omega arith) (λ more. end (omega arith))

-- and so what a reader put at the front of a buffer of that length
pub known_read : {E : Type 0} (old new : Option (List ℕ)) (r : Result (Unit {0}) E) (u : Unit {0}) (n : ℕ) (buffer : List ℕ) → length buffer ≡ most_read → n ≤ length buffer
    → Consumes old new (take n buffer) → r ≡ Ok u → OnOk r (n < length buffer → IsAtEnd new) → IfSome old (λ xs. take most_read xs ≡ take n buffer)
known_read old new r u n buffer full room lost ok end =
    let long : length (take n buffer) ≡ n = length-take-le n buffer room in
    let at_end = rw ok at end in
    known_taken old new (take n buffer) most_read lost (omega arith) (λ more. at_end (omega arith))

-- what is written of these bytes is written of the input
pub shown : (whole old new : Option (List ℕ)) (bs : List ℕ) → IfSome whole (λ xs. take most_read xs ≡ bs) → Appends old new (listing_text bs)
    → IfSome whole (λ input. Appends old new (output_of input))
shown None old new bs same h = tt
shown (Some xs) old new bs same h = subst (λ l. Appends old new (listing_text l)) (sym same) h

pub shown_front : (whole old new : Option (List ℕ)) (bs : List ℕ) → IfSome whole (λ xs. take most_read xs ≡ bs) → AppendsFront old new (listing_text bs)
    → IfSome whole (λ input. AppendsFront old new (output_of input))
shown_front None old new bs same f = tt
shown_front (Some xs) old new bs same f = front_same old new (listing_text bs) (output_of xs) f (ap listing_text (sym same))
