-- Steps that hand their numbers on answer what the listing says: a step leaves a whole cursor, and a whole cursor comes back from its numbers.
-- A level that was judged fine has a record that lies in the pool, so its VCN is no larger than the pool's length.
use Rattle.std.proofs.Common.{zero, suc, ℕ, ℤ, pos, negsuc, ◌≡◌, ◌*◌, ◌^◌, ◌≤◌, ◌<◌, nat_lt, Bool, true, false, List, [], ◌∷◌, length, slice_index_or}
use Rattle.std.proofs.Common.{slice_set, replicate, refl, ◌∙◌, ap, subst, arith, if◌then◌else◌, Option, Some, None, Result, Ok, Err}
use Rattle.std.proofs.Math.Nat.{le-mul_of_pos_right}
use Rattle.std.proofs.lemmas.Grind.{common_steps}
use Rattle.refusal.specs.declared.Refusal.{Refusal}
use Rattle.refusal.specs.declared.Refusal.TheVariants.{TooManyLevels}
use Rattle.refusal.specs.Then.{◌>>=◌}
use Rattle.index_allocation.specs.Allocation.{Allocation, RecordPlaced, block_of, record_in, record_at, bytes_of}
use Rattle.directory.specs.Lent.{Lent, Passed, NodeSeen}
use Rattle.directory.specs.Limits.{level_limit}
use Rattle.directory.specs.Directory.{passed, placed, node_in, again}
use Rattle.index.specs.declared.cursor.NodeName.{NodeName}
use Rattle.index.specs.declared.cursor.NodeName.TheVariants.{Root, Record}
use Rattle.index.specs.declared.cursor.Level.{Level}
use Rattle.index.specs.declared.cursor.Cursor.{Cursor}
use Rattle.index.specs.Cursor.{blank, levels_of, slots_of, cursor_of, new_cursor}
use Rattle.index.specs.Step.{node_at, judge, judge_stage, judge_all, Turn, yields, ends, refuses, goes_on, turn, weight, Outcome, then_turns, turns}
use Rattle.index.specs.Step.{walk, walk_in, walked, checked, on_depth, on_kept, step}
use Rattle.index.proofs.Frames.{length-frames, length-slots_of}
use Rattle.index_run.specs.Run.{answer_after}
use Rattle.index_run.proofs.Keeping.{IsKept, Keeps, turn-keeps}
use Rattle.index_run.proofs.Running.{steps_are_the_listing}
use Rattle.c_api.specs.Words.{answer_words, cursor_words}
use Rattle.c_api.proofs.Places.{went, is-of, IsPool}
use Rattle.c_api_claims.specs.Words.{words_at, NumbersRun}
use Rattle.c_api_claims.proofs.Back.{Holds, Whole, words-back}

vcn-short : (v cluster_size record_size pool number : ℕ) → record_at (pos v) cluster_size record_size pool ≡ Ok number → v ≤ pool
unfolding record_at block_of record_in
vcn-short v cluster_size record_size pool number is =
    let some : 0 < cluster_size = grind (arith, common_steps) in
    let inside : v * cluster_size ≤ pool = grind (arith, common_steps) in
    omega (arith, le-mul_of_pos_right v some, inside)

below-nowhere : (below cluster_size record_size pool number : ℕ) → record_at (negsuc below) cluster_size record_size pool ≡ Ok number → ⊥
unfolding record_at block_of
below-nowhere below cluster_size record_size pool number is = cc

blanks : (n i : ℕ) → slice_index_or (replicate n blank) i blank ≡ blank
blanks zero i = refl
blanks (suc n) zero = refl
blanks (suc n) (suc i) = blanks n i

-- a level in a slot, among slots that hold
set-holds : (slots : List Level) (at : ℕ) (level : Level) → Holds level.node → ((i : ℕ) → Holds (slice_index_or slots i blank).node)
    → (i : ℕ) → Holds (slice_index_or (slice_set slots at level) i blank).node
set-holds [] at level holds hold i = tt
set-holds (slot ∷ slots) zero level holds hold zero = holds
set-holds (slot ∷ slots) zero level holds hold (suc i) = hold (suc i)
set-holds (slot ∷ slots) (suc at) level holds hold zero = hold 0
set-holds (slot ∷ slots) (suc at) level holds hold (suc i) = set-holds slots at level holds (λ j. hold (suc j)) i

-- the pool that is seen is the one lent, or none
abbrev IsShort : Option Allocation → Type 0
IsShort (Some a) = length a.pool < 2 ^ 63
IsShort None = Unit {0}

placed-holds : (a : Option Allocation) (vcn : ℤ) (r : RecordPlaced) → IsShort a → placed a vcn ≡ Ok r → Holds (Record vcn)
unfolding placed
placed-holds None vcn r short is = absurd (let P : ⊥ = cc in P)
placed-holds (Some a) (negsuc below) r short is =
    let number = went (record_at (negsuc below) a.cluster_size a.record_size (length a.pool))
    (λ n. Ok (record { number = n; vcn = negsuc below; bytes = bytes_of a n })) r is in
    absurd (below-nowhere below a.cluster_size a.record_size (length a.pool) number.0 number.1)
placed-holds (Some a) (pos v) r short is =
    let number = went (record_at (pos v) a.cluster_size a.record_size (length a.pool))
    (λ n. Ok (record { number = n; vcn = pos v; bytes = bytes_of a n })) r is in
    let low = vcn-short v a.cluster_size a.record_size (length a.pool) number.0 number.1 in
    record { sfits = omega (arith, low, short) }

module _ (d : Passed) (short : IsShort d.allocation) (spent : ℕ → Bool) where
  node-holds : (node : NodeName) (its : NodeSeen) → node_at d node ≡ Ok its → Holds node
  unfolding node_at again
  node-holds Root its is = tt
  node-holds (Record vcn) its is = let r = went (placed d.allocation vcn) node_in its is in placed-holds d.allocation vcn r.0 short r.1

  judged-holds : (level : Level) → judge d level ≡ Ok tt → Holds level.node
  unfolding judge
  judged-holds level fine = let its = went (node_at d level.node) (λ its. judge_stage level.stage its) tt fine in node-holds level.node its.0 its.1

  slots-hold : (levels : List Level) → judge_all d levels ≡ Ok tt → (i : ℕ) → Holds (slice_index_or (slots_of levels) i blank).node
  unfolding slots_of judge_all
  slots-hold [] fine i = rw (blanks level_limit i) tt
  slots-hold (level ∷ above) fine i =
      let its = went (judge_all d above) (λ fine. judge d level) tt fine in
      set-holds (slots_of above) (length above) level (judged-holds level its.2) (slots-hold above its.1) i

  whole-of : (levels : List Level) (o : ℕ) (kept : Option Refusal) → judge_all d levels ≡ Ok tt → Whole (cursor_of levels o kept)
  whole-of levels o kept fine = record { eight = length-slots_of levels; vcns = slots-hold levels fine }

  nothing-kept : IsKept d []
  unfolding judge_all
  nothing-kept = record { fine = refl; within = omega arith }

  then-kept : (more : List Level → ℕ → Outcome) (its : Turn) → Keeps d its → ((levels : List Level) (o : ℕ) → IsKept d levels → IsKept d (more levels o).levels)
      → IsKept d (then_turns more its).levels
  then-kept more (yields entry o levels) keeps goes = keeps
  then-kept more (ends o) keeps goes = nothing-kept
  then-kept more (refuses refusal o) keeps goes = nothing-kept
  then-kept more (goes_on levels o) keeps goes = goes levels o keeps

  turns-kept : (most : ℕ) (levels : List Level) (o : ℕ) → IsKept d levels → IsKept d (turns most d spent levels o).levels
  unfolding turns
  turns-kept zero levels o kept = nothing-kept
  turns-kept (suc most) levels o kept =
      then-kept (λ ls x. turns most d spent ls x) (turn d spent levels o) (turn-keeps d spent levels o kept) (λ ls x keeps. turns-kept most ls x keeps)

  walk-whole : (levels : List Level) (o : ℕ) → IsKept d levels → Whole (walked (walk d spent levels o)).cursor
  unfolding walk
  walk-whole levels o kept = whole-of _ _ _ (turns-kept (suc (weight levels)) levels o kept).fine

-- nothing is left of a cursor: its slots are blank
none-whole : (o : ℕ) (kept : Option Refusal) → Whole (cursor_of [] o kept)
unfolding slots_of
none-whole o kept = record { eight = refl; vcns = λ i. rw (blanks level_limit i) tt }

pub new-whole : Whole new_cursor
unfolding slots_of
new-whole = record { eight = refl; vcns = set-holds (replicate level_limit blank) 0 blank tt (λ i. rw (blanks level_limit i) tt) }

module _ (lent : Lent) (spent : ℕ → Bool) (small : length lent.pool < 2 ^ 63) where
  pool-short : (a : Option Allocation) → IsPool lent a → IsShort a
  pool-short (Some a) is = let same : length a.pool ≡ length lent.pool = ap length is.0 in omega (arith, same, small)
  pool-short None is = tt

  walk_in-whole : (r : Result Passed Refusal) (cursor : Cursor) → checked lent cursor ≡ r
      → Whole (walked (walk_in spent r (levels_of cursor) cursor.opened)).cursor
  unfolding checked
  walk_in-whole (Err refusal) cursor is = none-whole cursor.opened (Some refusal)
  walk_in-whole (Ok d) cursor is =
      let first = went (passed lent)
      (λ x. (if nat_lt level_limit cursor.depth then Err TooManyLevels else judge_all x (levels_of cursor)) >>= λ fine. Ok x) d is in
      let rest = went (if nat_lt level_limit cursor.depth then Err TooManyLevels else judge_all first.0 (levels_of cursor)) (λ fine. Ok first.0) d first.2 in
      let passes : passed lent ≡ Ok d = first.1 ∙ rest.2 in
      let same : first.0 ≡ d = let its = rest.2 in cc in
      walk-whole d (pool-short d.allocation (is-of lent d passes).pool) spent (levels_of cursor) cursor.opened
      (kept (nat_lt level_limit cursor.depth) refl (subst (λ (x : Passed). judged x) same rest.1))
    where
      judged : Passed → Type 0
      judged x = (if nat_lt level_limit cursor.depth then Err TooManyLevels else judge_all x (levels_of cursor)) ≡ Ok tt

      kept : (deep : Bool) → nat_lt level_limit cursor.depth ≡ deep → (if deep then Err TooManyLevels else judge_all d (levels_of cursor)) ≡ Ok tt
          → IsKept d (levels_of cursor)
      kept true test fine = absurd (let P : ⊥ = cc in P)
      kept false test fine =
          let long = length-frames cursor.levels cursor.depth in
          record { fine = fine; within = let inside : cursor.depth ≤ level_limit = grind (arith, common_steps) in omega (arith, long, inside) }

  on_depth-whole : (depth : ℕ) (cursor : Cursor) → Whole cursor → Whole (on_depth lent spent depth cursor).cursor
  on_depth-whole zero cursor whole = whole
  on_depth-whole (suc above) cursor whole = walk_in-whole (checked lent cursor) cursor refl

  on_kept-whole : (kept : Option Refusal) (cursor : Cursor) → Whole cursor → Whole (on_kept lent spent kept cursor).cursor
  on_kept-whole (Some refusal) cursor whole = whole
  on_kept-whole None cursor whole = on_depth-whole cursor.depth cursor whole

  -- whatever the step, a whole cursor is left whole
  pub step-whole : (cursor : Cursor) → Whole cursor → Whole (step lent spent cursor).cursor
  unfolding step
  step-whole cursor whole = on_kept-whole cursor.refusal cursor whole

  words-from : (before : ℕ) (cursor : Cursor) → Whole cursor
      → words_at lent spent before (cursor_words cursor) ≡ answer_words lent (answer_after lent spent before cursor)
  unfolding words_at answer_after
  words-from zero cursor whole = ap (λ c. answer_words lent ((step lent spent c).answer)) (words-back cursor whole)
  words-from (suc before) cursor whole =
      ap (λ c. words_at lent spent before (cursor_words ((step lent spent c).cursor))) (words-back cursor whole)
      ∙ words-from before ((step lent spent cursor).cursor) (step-whole cursor whole)

pub words_run : NumbersRun
words_run lent spent before small = words-from lent spent small before new_cursor new-whole ∙ ap (answer_words lent) (steps_are_the_listing lent spent before)
