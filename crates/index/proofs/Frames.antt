-- The levels of a cursor, at the deepest.
use Rattle.std.proofs.Common.{zero, suc, sub-one, add-one, ℕ, ◌≡◌, ◌+◌, ◌-◌, ◌<◌, ◌≤◌, List, [], ◌∷◌, length, ◌≢◌, Bool, true, false, nat_eq, nat_lt}
use Rattle.std.proofs.Common.{get_or, set, refl, sym, ◌∙◌, ap, arith}
use Rattle.directory.specs.Limits.{level_limit}
use Rattle.std.proofs.lemmas.List.{ext_get_or, get_or_past}
use Rattle.std.proofs.lemmas.Grind.{common_steps}
use Rattle.index.specs.declared.cursor.Level.{Level}
use Rattle.index.specs.declared.cursor.Cursor.{Cursor}
use Rattle.index.specs.Cursor.{blank, frames, levels_of, slots_of, cursor_of, IsTidy}

pub frames-top : (slots : List Level) (depth : ℕ) → 0 < depth → frames slots depth ≡ get_or slots (depth - 1) blank ∷ frames slots (depth - 1)
unfolding frames
frames-top slots zero some = absurd (omega arith)
frames-top slots (suc depth) some = rw sub-one refl

pub frames-none : (slots : List Level) (depth : ℕ) → depth ≡ 0 → frames slots depth ≡ []
unfolding frames
frames-none slots zero none = refl
frames-none slots (suc depth) none = absurd (omega arith)

pub length-frames : (slots : List Level) (depth : ℕ) → length (frames slots depth) ≡ depth
unfolding frames
length-frames slots zero = refl
length-frames slots (suc depth) = let more = length-frames slots depth in grind (arith, common_steps)

pub frames-set : (slots : List Level) (at depth : ℕ) (level : Level) → depth ≤ at → frames (set slots at level) depth ≡ frames slots depth
unfolding frames
frames-set slots at zero level below = refl
frames-set slots at (suc depth) level below = let more = frames-set slots at depth level (omega arith) in grind (arith, common_steps)

pub length-slots_of : (levels : List Level) → length (slots_of levels) ≡ level_limit
unfolding slots_of
length-slots_of [] = refl
length-slots_of (level ∷ above) = let more = length-slots_of above in grind (arith, common_steps)

pub frames-added : (slots : List Level) (depth : ℕ) (level : Level) → depth < length slots
    → frames (set slots depth level) (depth + 1) ≡ level ∷ frames slots depth
unfolding frames
frames-added slots depth level inside = let same = frames-set slots depth depth level (omega arith) in rw add-one (grind (arith, common_steps))

pub frames-replaced : (slots : List Level) (depth : ℕ) (level : Level) → 0 < depth → depth ≤ length slots
    → frames (set slots (depth - 1) level) depth ≡ level ∷ frames slots (depth - 1)
frames-replaced slots depth level some within =
    let its = frames-added slots (depth - 1) level (omega arith) in
    let back : depth - 1 + 1 ≡ depth = omega arith in
    rw back at its

-- past the levels all is blank
slots-blank : (levels : List Level) (at : ℕ) → length levels ≤ at → at < level_limit → get_or (slots_of levels) at blank ≡ blank
unfolding slots_of
slots-blank [] at past inside = grind (arith, common_steps)
slots-blank (level ∷ above) at past inside =
    let more = slots-blank above at (omega arith) inside in
    let long = length-slots_of above in
    let other : at ≢ length above = omega arith in
    grind (arith, common_steps)

pub slots_of-past : (levels : List Level) (at : ℕ) → length levels ≤ at → get_or (slots_of levels) at blank ≡ blank
slots_of-past levels at past = by (nat_lt at level_limit) refl
  where
    by : (low : Bool) → nat_lt at level_limit ≡ low → get_or (slots_of levels) at blank ≡ blank
    by true is = slots-blank levels at past (grind (arith, common_steps))
    by false is = let long = length-slots_of levels in get_or_past (slots_of levels) at blank (grind (arith, common_steps))

set-twice : (slots : List Level) (at : ℕ) (one other : Level) → set (set slots at one) at other ≡ set slots at other
set-twice [] at one other = refl
set-twice (level ∷ slots) zero one other = refl
set-twice (level ∷ slots) (suc at) one other = ap (λ s. level ∷ s) (set-twice slots at one other)

-- another level in the deepest one's place
pub slots-replaced : (slots : List Level) (depth : ℕ) (level : Level) → 0 < depth → slots ≡ slots_of (frames slots depth)
    → set slots (depth - 1) level ≡ slots_of (level ∷ frames slots (depth - 1))
unfolding slots_of
slots-replaced slots depth level some tidy =
    let its = tidy ∙ ap slots_of (frames-top slots depth some) in
    let long = length-frames slots (depth - 1) in
    let twice = set-twice (slots_of (frames slots (depth - 1))) (depth - 1) (get_or slots (depth - 1) blank) level in
    ap (λ s. set s (depth - 1) level) its ∙ rw long twice

pub slots-dropped : (slots : List Level) (depth : ℕ) → 0 < depth → depth ≤ level_limit → slots ≡ slots_of (frames slots depth)
    → set slots (depth - 1) blank ≡ slots_of (frames slots (depth - 1))
unfolding slots_of
slots-dropped slots depth some within tidy =
    slots-replaced slots depth blank some tidy ∙ cleared
  where
    cleared : slots_of (blank ∷ frames slots (depth - 1)) ≡ slots_of (frames slots (depth - 1))
    cleared =
        let long = length-frames slots (depth - 1) in
        let past = slots_of-past (frames slots (depth - 1)) (depth - 1) (omega arith) in
        grind (arith, common_steps)

pub slots-added : (slots : List Level) (depth : ℕ) (level : Level) → slots ≡ slots_of (frames slots depth)
    → set slots depth level ≡ slots_of (level ∷ frames slots depth)
unfolding slots_of
slots-added slots depth level tidy =
    let long = length-frames slots depth in ap (λ s. set s depth level) tidy ∙ grind (arith, common_steps)

pub tidy-added : (slots : List Level) (depth : ℕ) (level : Level) → depth < level_limit → slots ≡ slots_of (frames slots depth)
    → set slots depth level ≡ slots_of (frames (set slots depth level) (depth + 1))
tidy-added slots depth level room tidy =
    let long = ap length tidy ∙ length-slots_of (frames slots depth) in
    slots-added slots depth level tidy ∙ ap slots_of (sym (frames-added slots depth level (omega arith)))

pub tidy-replaced : (slots : List Level) (depth : ℕ) (level : Level) → 0 < depth → depth ≤ level_limit → slots ≡ slots_of (frames slots depth)
    → set slots (depth - 1) level ≡ slots_of (frames (set slots (depth - 1) level) depth)
tidy-replaced slots depth level some within tidy =
    let long = ap length tidy ∙ length-slots_of (frames slots depth) in
    slots-replaced slots depth level some tidy ∙ ap slots_of (sym (frames-replaced slots depth level some (omega arith)))

-- and a level has its slot
slots_of-at : (slots : List Level) (depth at : ℕ) → at < depth → depth ≤ level_limit → get_or (slots_of (frames slots depth)) at blank ≡ get_or slots at blank
unfolding slots_of frames
slots_of-at slots zero at inside within = absurd (omega arith)
slots_of-at slots (suc depth) at inside within = by (λ below. slots_of-at slots depth at below (omega arith)) (nat_eq at depth) refl
  where
    long : length (frames slots depth) ≡ depth
    long = length-frames slots depth

    eight : length (slots_of (frames slots depth)) ≡ level_limit
    eight = length-slots_of (frames slots depth)

    by : (at < depth → get_or (slots_of (frames slots depth)) at blank ≡ get_or slots at blank) → (here : Bool) → nat_eq at depth ≡ here
        → get_or (set (slots_of (frames slots depth)) (length (frames slots depth)) (get_or slots depth blank)) at blank ≡ get_or slots at blank
    by lower true is = let same : at ≡ depth = grind (arith, common_steps) in let wide = eight in let its = long in grind (arith, common_steps)
    by lower false is =
        let other : at ≢ depth = grind (arith, common_steps) in
        let more = lower (omega arith) in
        let wide = eight in let its = long in grind (arith, common_steps)

-- where all is blank past the levels, the slots are those of the levels
pub slots-cleared : (slots : List Level) (depth : ℕ) → length slots ≡ level_limit → depth ≤ level_limit
    → ((at : ℕ) → depth ≤ at → at < level_limit → get_or slots at blank ≡ blank) → slots ≡ slots_of (frames slots depth)
slots-cleared slots depth long within blanks =
    ext_get_or blank slots (slots_of (frames slots depth)) (long ∙ sym (length-slots_of (frames slots depth))) each
  where
    each : (at : ℕ) → at < length slots → get_or slots at blank ≡ get_or (slots_of (frames slots depth)) at blank
    each at inside = by (nat_lt at depth) refl
      where
        many : length (frames slots depth) ≡ depth
        many = length-frames slots depth

        by : (low : Bool) → nat_lt at depth ≡ low → get_or slots at blank ≡ get_or (slots_of (frames slots depth)) at blank
        by true is = let below : at < depth = grind (arith, common_steps) in sym (slots_of-at slots depth at below within)
        by false is =
            let past : depth ≤ at = grind (arith, common_steps) in let its = many in
            blanks at past (omega arith) ∙ sym (slots_of-past (frames slots depth) at (omega arith))

-- the slots of levels have those levels
pub frames-slots : (levels : List Level) → length levels ≤ level_limit → frames (slots_of levels) (length levels) ≡ levels
unfolding frames slots_of
frames-slots [] within = refl
frames-slots (level ∷ above) within =
    let more = frames-slots above (omega arith) in
    let same = frames-set (slots_of above) (length above) (length above) level (omega arith) in
    let long = length-slots_of above in
    let inside : length above < length (slots_of above) = grind (arith, common_steps) in
    grind (arith, common_steps)

pub ruleset of_frames = (
  frames-top,
  frames-none,
  length-frames,
  frames-set,
  frames-added,
  frames-replaced,
  length-slots_of,
  slots-dropped,
  tidy-added,
  tidy-replaced,
  slots-cleared,
)

-- a tidy cursor is the one of its levels
pub tidy-is : (cursor : Cursor) → IsTidy cursor → cursor ≡ cursor_of (levels_of cursor) cursor.opened cursor.refusal
tidy-is cursor tidy =
    λ i. record { levels = tidy.blanks i; depth = sym (length-frames cursor.levels cursor.depth) i; opened = cursor.opened; refusal = cursor.refusal }

pub ruleset of_cursors = (tidy-is)
