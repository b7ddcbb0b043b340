-- A cursor comes back from its numbers: each part by its cases, then the eight levels together.
use Rattle.std.proofs.Common.{ℕ, ◌≡◌, List, [], ◌∷◌, length, slice_index_or, refl, ap, arith, Option, Some, None}
use Rattle.std.specs.Int.{w64}
use Rattle.std.specs.Prelude.{FitsSigned}
use Rattle.std.proofs.lemmas.Int.{to_z-of_z}
use Rattle.directory.specs.Limits.{level_limit}
use Rattle.refusal.specs.declared.Refusal.{Refusal}
use Rattle.index.specs.declared.cursor.NodeName.{NodeName}
use Rattle.index.specs.declared.cursor.NodeName.TheVariants.{Root, Record}
use Rattle.index.specs.declared.cursor.Stage.{Stage}
use Rattle.index.specs.declared.cursor.Stage.TheVariants.{Fresh, Going, Due, Ended}
use Rattle.index.specs.declared.cursor.Level.{Level}
use Rattle.index.specs.declared.cursor.Cursor.{Cursor}
use Rattle.index.specs.Cursor.{blank}
use Rattle.index.specs.Step.{level_at}
use Rattle.c_api.specs.Words.{node_word, vcn_word, node_from, stage_word, due_word, stage_from, kept_word, kept_from, levels_words, levels_from}
use Rattle.c_api.specs.Words.{cursor_words, cursor_from}
use Rattle.c_api.proofs.Kept.{kept-number}

-- a VCN that 64 bits hold
abbrev pub Holds : NodeName → Type 0
Holds Root = Unit {0}
Holds (Record vcn) = FitsSigned w64 vcn

-- a cursor that comes back whole: eight levels, each VCN in 64 bits
pub record Whole (cursor : Cursor) : Type 0 where
  pub eight : length cursor.levels ≡ level_limit
  pub vcns : (i : ℕ) → Holds (slice_index_or cursor.levels i blank).node

node-back : (node : NodeName) → Holds node → node_from (node_word node) (vcn_word node) ≡ node
node-back Root holds = refl
node-back (Record vcn) holds = ap Record (to_z-of_z w64 vcn holds)

stage-back : (stage : Stage) → stage_from (stage_word stage) (due_word stage) ≡ stage
stage-back Fresh = refl
stage-back Going = refl
stage-back (Due at) = refl
stage-back Ended = refl

kept-back : (kept : Option Refusal) → kept_from (kept_word kept) ≡ kept
kept-back (Some refusal) = kept-number refusal
kept-back None = refl

-- a level as its numbers give it back
abbrev back_of : Level → Level
back_of level = level_at (node_from (node_word level.node) (vcn_word level.node)) level.next (stage_from (stage_word level.stage) (due_word level.stage))

level-back : (level : Level) → Holds level.node → back_of level ≡ level
level-back level holds = λ i. level_at (node-back level.node holds i) level.next (stage-back level.stage i)

-- eight levels, one by one, are all there are
abbrev backs : List Level → List Level
backs ls =
    back_of (slice_index_or ls 0 blank) ∷ back_of (slice_index_or ls 1 blank) ∷ back_of (slice_index_or ls 2 blank) ∷ back_of (slice_index_or ls 3 blank)
    ∷ back_of (slice_index_or ls 4 blank) ∷ back_of (slice_index_or ls 5 blank) ∷ back_of (slice_index_or ls 6 blank) ∷ back_of (slice_index_or ls 7 blank) ∷ []

levels-back : (ls : List Level) → length ls ≡ 8 → ((i : ℕ) → Holds (slice_index_or ls i blank).node) → backs ls ≡ ls
levels-back [] e h = absurd (omega arith)
levels-back (a ∷ []) e h = absurd (omega arith)
levels-back (a ∷ b ∷ []) e h = absurd (omega arith)
levels-back (a ∷ b ∷ c ∷ []) e h = absurd (omega arith)
levels-back (a ∷ b ∷ c ∷ d ∷ []) e h = absurd (omega arith)
levels-back (a ∷ b ∷ c ∷ d ∷ f ∷ []) e h = absurd (omega arith)
levels-back (a ∷ b ∷ c ∷ d ∷ f ∷ g ∷ []) e h = absurd (omega arith)
levels-back (a ∷ b ∷ c ∷ d ∷ f ∷ g ∷ k ∷ []) e h = absurd (omega arith)
levels-back (a ∷ b ∷ c ∷ d ∷ f ∷ g ∷ k ∷ l ∷ []) e h = λ i.
    level-back a (h 0) i ∷ level-back b (h 1) i ∷ level-back c (h 2) i ∷ level-back d (h 3) i ∷ level-back f (h 4) i ∷ level-back g (h 5) i
    ∷ level-back k (h 6) i ∷ level-back l (h 7) i ∷ []
levels-back (a ∷ b ∷ c ∷ d ∷ f ∷ g ∷ k ∷ l ∷ m ∷ ls) e h = absurd (omega arith)

pub words-back : (cursor : Cursor) → Whole cursor → cursor_from (cursor_words cursor) ≡ cursor
unfolding cursor_from cursor_words levels_from levels_words
words-back cursor whole = λ i. record {
  levels = levels-back cursor.levels whole.eight whole.vcns i;
  depth = cursor.depth;
  opened = cursor.opened;
  refusal = kept-back cursor.refusal i;
}
