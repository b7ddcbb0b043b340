-- Turns come to an end, and any number of them that is enough gives the same.
use Rattle.std.proofs.Common.{zero, suc, ℕ, ◌≡◌, ◌+◌, ◌-◌, ◌<◌, Bool, true, false, List, [], ◌∷◌, length, refl, subst, arith, Option, Some, None}
use Rattle.std.proofs.Common.{Result, Ok, Err}
use Rattle.directory.specs.Limits.{level_limit}
use Rattle.std.proofs.lemmas.Grind.{common_steps}
use Rattle.refusal.specs.declared.Refusal.{Refusal}
use Rattle.directory.specs.Lent.{Passed, EntryPlaced, NodeSeen}
use Rattle.index_entry.specs.Entry.{is_last}
use Rattle.directory.specs.Directory.{subnode}
use Rattle.directory.proofs.Openings.{subnode-levels}
use Rattle.directory.specs.Node.{entry_in, entries_at, first}
use Rattle.index.specs.declared.cursor.NodeName.{NodeName}
use Rattle.index.specs.declared.cursor.Stage.{Stage}
use Rattle.index.specs.declared.cursor.Stage.TheVariants.{Fresh, Going, Due, Ended}
use Rattle.index.specs.declared.cursor.Level.{Level}
use Rattle.index.specs.Step.{Turn, yields, ends, refuses, goes_on, level_at, node_at, passes, put_off, name_of, left_below, on_subnode, on_entry}
use Rattle.index.specs.Step.{on_next, on_due, by_stage, on_level, turn, weight_of, weight, Outcome, then_turns, turns, walk}

-- what a turn leaves is lighter
abbrev pub IsLighter : Turn → ℕ → Type 0
IsLighter (goes_on levels o) most = weight levels < most
IsLighter (yields entry o levels) most = Unit {0}
IsLighter (ends o) most = Unit {0}
IsLighter (refuses refusal o) most = Unit {0}

above-lighter : (level : Level) (above : List Level) → weight above < weight (level ∷ above)
unfolding weight
above-lighter level above = by level.stage
  where
    by : (stage : Stage) → weight above < weight_of stage (level_limit - (length above + 1)) + weight above
    by Fresh = omega arith
    by Going = omega arith
    by (Due at) = omega arith
    by Ended = omega arith

passed-lighter : (last : Bool) (node : NodeName) (next : ℕ) (entry : EntryPlaced) (o : ℕ) (level : Level) (above : List Level)
    → IsLighter (passes last node next entry o above) (weight (level ∷ above))
passed-lighter true node next entry o level above = above-lighter level above
passed-lighter false node next entry o level above = tt

begun-lighter : (node : NodeName) (next start : ℕ) (above : List Level) → weight (level_at node start Going ∷ above) < weight (level_at node next Fresh ∷ above)
unfolding weight
begun-lighter node next start above = omega arith

-- one level down: what is put off is light
entered-lighter : (last : Bool) (node below : NodeName) (next start : ℕ) (entry : List ℕ) (above : List Level) → 0 < level_limit - (length above + 1)
    → weight (level_at below start Going ∷ put_off last node next entry ∷ above) < weight (level_at node next Going ∷ above)
unfolding weight
entered-lighter true node below next start entry above room = grind (arith, common_steps)
entered-lighter false node below next start entry above room = grind (arith, common_steps)

on_subnode-lighter : (r : Result (Option NodeSeen) Refusal) (node : NodeName) (next : ℕ) (entry : EntryPlaced) (o : ℕ) (above : List Level)
    → ((below : NodeSeen) → r ≡ Ok (Some below) → 0 < level_limit - (length above + 1))
    → IsLighter (on_subnode r node next entry o above) (weight (level_at node next Going ∷ above))
on_subnode-lighter (Ok (Some below)) node next entry o above room =
    entered-lighter (is_last entry.bytes) node (name_of below.place) next below.start entry.bytes above (room below refl)
on_subnode-lighter (Ok None) node next entry o above room = passed-lighter (is_last entry.bytes) node next entry o (level_at node next Going) above
on_subnode-lighter (Err refusal) node next entry o above room = tt

module _ (d : Passed) (spent : ℕ → Bool) where
  on_entry-lighter : (entry : Result EntryPlaced Refusal) (node : NodeName) (next o : ℕ) (above : List Level)
      → IsLighter (on_entry d spent entry node next o above) (weight (level_at node next Going ∷ above))
  on_entry-lighter (Ok entry) node next o above =
      on_subnode-lighter (subnode d (left_below above) (spent o) entry.bytes) node next entry o above
      (subnode-levels d (left_below above) (spent o) entry.bytes)
  on_entry-lighter (Err refusal) node next o above = tt

  on_next-lighter : (entry : Option (Result EntryPlaced Refusal)) (node : NodeName) (next o : ℕ) (above : List Level)
      → IsLighter (on_next d spent entry node next o above) (weight (level_at node next Going ∷ above))
  on_next-lighter (Some entry) node next o above = on_entry-lighter entry node next o above
  on_next-lighter None node next o above = above-lighter (level_at node next Going) above

  on_due-lighter : (entry : Result EntryPlaced Refusal) (node : NodeName) (next o : ℕ) (above : List Level) (most : ℕ)
      → IsLighter (on_due entry node next o above) most
  on_due-lighter (Ok entry) node next o above most = tt
  on_due-lighter (Err refusal) node next o above most = tt

  by_stage-lighter : (stage : Stage) (its : NodeSeen) (node : NodeName) (next o : ℕ) (above : List Level)
      → IsLighter (by_stage d spent stage its node next o above) (weight (level_at node next stage ∷ above))
  by_stage-lighter Fresh its node next o above = begun-lighter node next its.start above
  by_stage-lighter Going its node next o above = on_next-lighter (first (entries_at its next)) node next o above
  by_stage-lighter (Due at) its node next o above = on_due-lighter (entry_in its at) node next o above (weight (level_at node next (Due at) ∷ above))
  by_stage-lighter Ended its node next o above = above-lighter (level_at node next Ended) above

  on_level-lighter : (its : Result NodeSeen Refusal) (level : Level) (o : ℕ) (above : List Level)
      → IsLighter (on_level d spent its level o above) (weight (level ∷ above))
  on_level-lighter (Ok its) level o above = by_stage-lighter level.stage its level.node level.next o above
  on_level-lighter (Err refusal) level o above = tt

  pub turn-lighter : (levels : List Level) (o : ℕ) → IsLighter (turn d spent levels o) (weight levels)
  unfolding turn
  turn-lighter [] o = tt
  turn-lighter (level ∷ above) o = on_level-lighter (node_at d level.node) level o above

  then_turns-same : (one other : List Level → ℕ → Outcome) (its : Turn) (most : ℕ) → IsLighter its most
      → ((levels : List Level) (o : ℕ) → weight levels < most → one levels o ≡ other levels o)
      → then_turns one its ≡ then_turns other its
  then_turns-same one other (yields entry o levels) most light same = refl
  then_turns-same one other (ends o) most light same = refl
  then_turns-same one other (refuses refusal o) most light same = refl
  then_turns-same one other (goes_on levels o) most light same = same levels o light

  pub enough : (few more : ℕ) (levels : List Level) (o : ℕ) → weight levels < few → weight levels < more → turns few d spent levels o ≡ turns more d spent levels o
  unfolding turns
  enough zero more levels o here there = absurd (omega arith)
  enough (suc few) zero levels o here there = absurd (omega arith)
  enough (suc few) (suc more) levels o here there =
      then_turns-same (λ ls x. turns few d spent ls x) (λ ls x. turns more d spent ls x) (turn d spent levels o) (weight levels) (turn-lighter levels o)
      (λ ls x light. enough few more ls x (omega arith) (omega arith))

  -- a walk, at its first turn
  pub walk-turn : (levels : List Level) (o : ℕ) → walk d spent levels o ≡ then_turns (walk d spent) (turn d spent levels o)
  unfolding walk turns
  walk-turn levels o =
      then_turns-same (λ ls x. turns (weight levels) d spent ls x) (walk d spent) (turn d spent levels o) (weight levels) (turn-lighter levels o)
      (λ ls x light. enough (weight levels) (suc (weight ls)) ls x light (omega arith))

  pub goes_on-lighter : (levels later : List Level) (o x : ℕ) → turn d spent levels o ≡ goes_on later x → weight later < weight levels
  goes_on-lighter levels later o x is = let P : Turn → Type 0 = λ t. IsLighter t (weight levels) in subst P is (turn-lighter levels o)

pub ruleset of_turns = (walk-turn, goes_on-lighter)
