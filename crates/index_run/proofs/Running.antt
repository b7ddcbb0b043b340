-- Step after step.
use Rattle.std.proofs.Common.{zero, suc, ℕ, ◌≡◌, ◌<◌, Bool, List, [], ◌∷◌, length, refl, sym, ◌∙◌, ap, subst, nat_lt, false, arith, Option, Some}
use Rattle.std.proofs.Common.{None, Result, Ok, Err}
use Rattle.directory.specs.Limits.{below_root, level_limit}
use Rattle.std.proofs.lemmas.Grind.{common_steps}
use Rattle.refusal.specs.declared.Refusal.{Refusal}
use Rattle.directory.specs.Answer.{Answered, some, none, refused}
use Rattle.directory.specs.Lent.{Lent, Passed, EntryPlaced}
use Rattle.directory.specs.Directory.{passed, root_node}
use Rattle.directory.specs.Node.{entries_of}
use Rattle.index.specs.declared.cursor.Level.{Level}
use Rattle.index.specs.declared.cursor.Cursor.{Cursor}
use Rattle.index.specs.Cursor.{blank, levels_of, cursor_of, new_cursor}
use Rattle.index.specs.Listing.{Listing, done, stop, item, and_then, list_below, listing}
use Rattle.index.specs.Step.{node_at, judge, Turn, yields, ends, refuses, goes_on, turn, weight, Outcome, comes_out, then_turns, turns, walk}
use Rattle.index.specs.Step.{judge_all, checked, walk_in, walked, step, StepTaken}
use Rattle.index.proofs.Frames.{frames-slots}
use Rattle.index.proofs.Turns.{IsLighter, turn-lighter}
use Rattle.index_run.proofs.Remaining.{remaining, says, turn-says, list_below-node}
use Rattle.index_run.proofs.Keeping.{IsKept, Keeps, turn-keeps}
use Rattle.index_run.specs.Run.{answer_after, said_at, StepsAreTheListing}

module _ (d : Passed) (spent : ℕ → Bool) where
  -- an outcome is what a listing says first, and leaves what it says then
  abbrev pub FitsEntry : Option EntryPlaced → ℕ → List Level → Listing → Type 0
  FitsEntry (Some entry) o levels l = (l ≡ item entry o (remaining d spent levels o)) × IsKept d levels
  FitsEntry None o levels l = (l ≡ done o) × (levels ≡ [])

  abbrev pub Fits : Answered → List Level → Listing → Type 0
  Fits (Ok told) levels l = FitsEntry told.entry told.opened levels l
  Fits (Err fault) levels l = (l ≡ stop fault.refusal fault.opened) × (levels ≡ [])

  abbrev pub FitsOutcome : Outcome → Listing → Type 0
  FitsOutcome its l = Fits its.answer its.levels l

  then-fits : (more : List Level → ℕ → Outcome) (its : Turn) (most : ℕ) (l : Listing) → IsLighter its most → Keeps d its → says d spent its ≡ l
      → ((levels : List Level) (o : ℕ) → weight levels < most → IsKept d levels → FitsOutcome (more levels o) (remaining d spent levels o))
      → FitsOutcome (then_turns more its) l
  then-fits more (yields entry o levels) most l light keeps is fits = (sym is, keeps)
  then-fits more (ends o) most l light keeps is fits = (sym is, refl)
  then-fits more (refuses refusal o) most l light keeps is fits = (sym is, refl)
  then-fits more (goes_on levels o) most l light keeps is fits =
      let P : Listing → Type 0 = λ x. FitsOutcome (more levels o) x in subst P is (fits levels o light keeps)

  turns-fit : (most : ℕ) (levels : List Level) (o : ℕ) → weight levels < most → IsKept d levels
      → FitsOutcome (turns most d spent levels o) (remaining d spent levels o)
  unfolding turns
  turns-fit zero levels o light kept = absurd (omega arith)
  turns-fit (suc most) levels o light kept =
      then-fits (λ ls x. turns most d spent ls x) (turn d spent levels o) (weight levels) (remaining d spent levels o)
      (turn-lighter d spent levels o) (turn-keeps d spent levels o kept) (turn-says d spent levels o)
      (λ ls x less keeps. turns-fit most ls x (omega arith) keeps)

  pub walk-fits : (levels : List Level) (o : ℕ) → IsKept d levels → FitsOutcome (walk d spent levels o) (remaining d spent levels o)
  unfolding walk
  walk-fits levels o kept = turns-fit (suc (weight levels)) levels o (omega arith) kept

  nothing-kept : IsKept d []
  unfolding judge_all
  nothing-kept = record { fine = refl; within = omega arith }

  -- what a cursor still has to say
  data Stands : Cursor → Listing → Type 0 where
    broken : (refusal : Refusal) (o : ℕ) → Stands (cursor_of [] o (Some refusal)) (stop refusal o)
    going : (levels : List Level) (o : ℕ) → IsKept d levels → Stands (cursor_of levels o None) (remaining d spent levels o)

  abbrev after_first : Listing → Listing
  after_first (done o) = done o
  after_first (stop refusal o) = stop refusal o
  after_first (item entry o rest) = rest

  first-then : (l : Listing) (at : ℕ) → said_at l (suc at) ≡ said_at (after_first l) at
  unfolding said_at
  first-then (done o) at = refl
  first-then (stop refusal o) at = refl
  first-then (item entry o rest) at = refl

  -- a step says the first, and stands for the rest
  abbrev Goes : StepTaken → Listing → Type 0
  Goes its l = (its.answer ≡ said_at l 0) × Stands its.cursor (after_first l)

  entry-goes : (entry : Option EntryPlaced) (o : ℕ) (levels : List Level) (l : Listing) → FitsEntry entry o levels l
      → Goes (walked (comes_out (Ok (record { entry = entry; opened = o })) levels)) l
  unfolding said_at remaining
  entry-goes (Some entry) o levels l fits = let P : Listing → Type 0 = λ x. Goes (walked (comes_out (some entry o) levels)) x in
      subst P (sym fits.0) (refl, going levels o fits.1)
  entry-goes None o levels l fits = let P : Listing → Type 0 = λ x. Goes (walked (comes_out (none o) levels)) x in
      subst P (sym fits.0)
      (let Q : List Level → Type 0 = λ ls. Goes (walked (comes_out (none o) ls)) (done o) in subst Q (sym fits.1) (refl, going [] o nothing-kept))

  outcome-goes : (answer : Answered) (levels : List Level) (l : Listing) → Fits answer levels l → Goes (walked (comes_out answer levels)) l
  unfolding said_at
  outcome-goes (Ok told) levels l fits = entry-goes told.entry told.opened levels l fits
  outcome-goes (Err fault) levels l fits = let P : Listing → Type 0 = λ x. Goes (walked (comes_out (Err fault) levels)) x in
      subst P (sym fits.0)
      (let Q : List Level → Type 0 = λ ls. Goes (walked (comes_out (Err fault) ls)) (stop fault.refusal fault.opened) in
      subst Q (sym fits.1) (refl, broken fault.refusal fault.opened))

  new-kept : IsKept d (blank ∷ [])
  unfolding judge_all judge node_at
  new-kept = record { fine = refl; within = omega arith }

  and_then-done : (l : Listing) → and_then l (λ x. done x) ≡ l
  and_then-done (done o) = refl
  and_then-done (stop refusal o) = refl
  and_then-done (item entry o rest) = ap (item entry o) (and_then-done rest)

  new-remaining : remaining d spent (blank ∷ []) 0 ≡ list_below d spent below_root (entries_of (root_node d)) 0
  unfolding remaining node_at
  new-remaining = and_then-done _ ∙ sym (list_below-node d spent below_root (entries_of (root_node d)) 0)

  module _ (lent : Lent) (is : passed lent ≡ Ok d) where
    checked-fine : (levels : List Level) (o : ℕ) → IsKept d levels → checked lent (cursor_of levels o None) ≡ Ok d
    unfolding checked
    checked-fine levels o kept =
        let within : nat_lt level_limit (length levels) ≡ false = let w = kept.within in grind (arith, common_steps) in
        let same : judge_all d (levels_of (cursor_of levels o None)) ≡ Ok tt = ap (judge_all d) (frames-slots levels kept.within) ∙ kept.fine in
        rw (is, within, same) refl

    step-goes : (cursor : Cursor) (l : Listing) → Stands cursor l → Goes (step lent spent cursor) l
    unfolding step remaining said_at
    step-goes cursor l (broken refusal o) = (refl, broken refusal o)
    step-goes cursor l (going [] o kept) = (refl, going [] o kept)
    step-goes cursor l (going (level ∷ above) o kept) =
        let P : StepTaken → Type 0 = λ its. Goes its (remaining d spent (level ∷ above) o) in
        subst P (sym walks) (outcome-goes _ _ (remaining d spent (level ∷ above) o) (walk-fits (level ∷ above) o kept))
      where
        walks : step lent spent (cursor_of (level ∷ above) o None) ≡ walked (walk d spent (level ∷ above) o)
        walks =
            ap (λ its. walked (walk_in spent its (levels_of (cursor_of (level ∷ above) o None)) o)) (checked-fine (level ∷ above) o kept)
            ∙ ap (λ ls. walked (walk d spent ls o)) (frames-slots (level ∷ above) kept.within)

    runs : (before : ℕ) (cursor : Cursor) (l : Listing) → Stands cursor l → answer_after lent spent before cursor ≡ said_at l before
    unfolding answer_after
    runs zero cursor l stands = (step-goes cursor l stands).0
    runs (suc before) cursor l stands =
        runs before ((step lent spent cursor).cursor) (after_first l) ((step-goes cursor l stands).1) ∙ sym (first-then l before)

-- a refusal is repeated
repeats : (lent : Lent) (spent : ℕ → Bool) (refusal : Refusal) (o before : ℕ)
    → answer_after lent spent before (cursor_of [] o (Some refusal)) ≡ refused refusal o
unfolding answer_after step
repeats lent spent refusal o zero = refl
repeats lent spent refusal o (suc before) = repeats lent spent refusal o before

new-refused : (lent : Lent) (spent : ℕ → Bool) (refusal : Refusal) → passed lent ≡ Err refusal
    → step lent spent new_cursor ≡ record { answer = refused refusal 0; cursor = cursor_of [] 0 (Some refusal) }
unfolding step checked
new-refused lent spent refusal is = rw is refl

listing-refused : (lent : Lent) (spent : ℕ → Bool) (refusal : Refusal) → passed lent ≡ Err refusal → listing lent spent ≡ stop refusal 0
unfolding listing
listing-refused lent spent refusal is = rw is refl

listing-passed : (lent : Lent) (spent : ℕ → Bool) (d : Passed) → passed lent ≡ Ok d
    → listing lent spent ≡ list_below d spent below_root (entries_of (root_node d)) 0
unfolding listing
listing-passed lent spent d is = rw is refl

by_root : (lent : Lent) (spent : ℕ → Bool) (r : Result Passed Refusal) → passed lent ≡ r → (before : ℕ)
    → answer_after lent spent before new_cursor ≡ said_at (listing lent spent) before
unfolding answer_after said_at
by_root lent spent (Ok d) is before =
    runs d spent lent is before new_cursor (remaining d spent (blank ∷ []) 0) (going (blank ∷ []) 0 (new-kept d spent))
    ∙ ap (λ l. said_at l before) (new-remaining d spent ∙ sym (listing-passed lent spent d is))
by_root lent spent (Err refusal) is zero =
    ap (λ its. its.answer) (new-refused lent spent refusal is) ∙ ap (λ l. said_at l 0) (sym (listing-refused lent spent refusal is))
by_root lent spent (Err refusal) is (suc before) =
    ap (λ its. answer_after lent spent before (its.cursor)) (new-refused lent spent refusal is) ∙ repeats lent spent refusal 0 before
    ∙ ap (λ l. said_at l (suc before)) (sym (listing-refused lent spent refusal is))

pub steps_are_the_listing : StepsAreTheListing
steps_are_the_listing lent spent before = by_root lent spent (passed lent) refl before
