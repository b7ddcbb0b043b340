-- Levels that are as they should be stay so.
use Rattle.std.proofs.Common.{ℤ, ℕ, ◌≡◌, ◌+◌, ◌-◌, ◌<◌, ◌≤◌, Bool, true, false, List, [], ◌∷◌, length, refl, ◌∙◌, ap, arith, Option, Some, None}
use Rattle.std.proofs.Common.{Result, Ok, Err}
use Rattle.directory.specs.Limits.{level_limit}
use Rattle.std.proofs.lemmas.Grind.{common_steps}
use Rattle.refusal.specs.declared.Refusal.{Refusal}
use Rattle.refusal.specs.Then.{◌>>=◌}
use Rattle.directory.specs.declared.place.Place.TheVariants as places
use Rattle.directory.specs.Node.{entry_in, entries_at, first}
use Rattle.directory.proofs.Entries.{entries_at-first}
use Rattle.directory.specs.Lent.{Passed, EntryPlaced, NodeSeen}
use Rattle.index_entry.specs.Entry.{is_last}
use Rattle.directory.specs.Directory.{subnode, again}
use Rattle.directory.proofs.Openings.{subnode-again, subnode-levels}
use Rattle.index.specs.declared.cursor.NodeName.{NodeName}
use Rattle.index.specs.declared.cursor.Stage.{Stage}
use Rattle.index.specs.declared.cursor.Stage.TheVariants.{Fresh, Going, Due, Ended}
use Rattle.index.specs.declared.cursor.Level.{Level}
use Rattle.index.specs.Step.{Turn, yields, ends, refuses, goes_on, level_at, node_at, passes, put_off, name_of, left_below, on_subnode, on_entry}
use Rattle.index.specs.Step.{on_next, on_due, by_stage, on_level, turn, judge, judge_stage, judge_all}

-- no more than eight levels, each as a step wants it
pub record IsKept (d : Passed) (levels : List Level) : Type 0 where
  pub fine : judge_all d levels ≡ Ok tt
  pub within : length levels ≤ level_limit

abbrev pub Keeps : Passed → Turn → Type 0
Keeps d (yields entry o levels) = IsKept d levels
Keeps d (ends o) = Unit {0}
Keeps d (refuses refusal o) = Unit {0}
Keeps d (goes_on levels o) = IsKept d levels

then-first : (one : Result (Unit {0}) Refusal) (other : Unit {0} → Result (Unit {0}) Refusal) → (one >>= other) ≡ Ok tt → one ≡ Ok tt
then-first (Ok fine) other is = refl
then-first (Err refusal) other is = cc

-- a subnode stands where its level says
pub subnode-stands : (d : Passed) (left : ℕ) (spent : Bool) (entry : List ℕ) (below : NodeSeen) → subnode d left spent entry ≡ Ok (Some below)
    → node_at d (name_of below.place) ≡ Ok below
unfolding node_at
subnode-stands d left spent entry below is = by (subnode-again d left spent entry below is)
  where
    by : (number : ℕ) × (vcn : ℤ) × (below.place ≡ places.Record number vcn) × (again d vcn ≡ Ok below) → node_at d (name_of below.place) ≡ Ok below
    by (number, vcn, place, stands) = ap (λ p. node_at d (name_of p)) place ∙ stands

module _ (d : Passed) (spent : ℕ → Bool) where
  above-kept : (level : Level) (above : List Level) → IsKept d (level ∷ above) → IsKept d above
  unfolding judge_all
  above-kept level above kept =
      record { fine = then-first (judge_all d above) (λ fine. judge d level) kept.fine; within = let w = kept.within in grind (arith, common_steps) }

  -- another level in the deepest one's place, or a new one
  below-kept : (level : Level) (above : List Level) → IsKept d above → length above < level_limit → judge d level ≡ Ok tt → IsKept d (level ∷ above)
  unfolding judge_all
  below-kept level above kept room fine = record { fine = rw (kept.fine) fine; within = grind (arith, common_steps) }

  judge-at : (node : NodeName) (its : NodeSeen) (next : ℕ) (stage : Stage) → node_at d node ≡ Ok its → judge_stage stage its ≡ Ok tt
      → judge d (level_at node next stage) ≡ Ok tt
  unfolding judge
  judge-at node its next stage is fine = rw is fine

  module _ (node : NodeName) (its : NodeSeen) (is : node_at d node ≡ Ok its) (above : List Level) (kept : IsKept d above)
      (room : length above < level_limit) where
    passed-keeps : (last : Bool) (at : ℕ) (entry : EntryPlaced) (o : ℕ) → Keeps d (passes last node at entry o above)
    passed-keeps true at entry o = kept
    passed-keeps false at entry o =
        below-kept (level_at node (at + length entry.bytes) Going) above kept room (judge-at node its (at + length entry.bytes) Going is refl)

    put_off-kept : (last : Bool) (at : ℕ) (entry : EntryPlaced) → entry_in its at ≡ Ok entry → IsKept d (put_off last node at entry.bytes ∷ above)
    put_off-kept true at entry here =
        below-kept (level_at node (at + length entry.bytes) Ended) above kept room (judge-at node its (at + length entry.bytes) Ended is refl)
    put_off-kept false at entry here =
        below-kept (level_at node (at + length entry.bytes) (Due at)) above kept room (judge-at node its (at + length entry.bytes) (Due at) is (rw here refl))

    subnode-keeps : (r : Result (Option NodeSeen) Refusal) (at : ℕ) (entry : EntryPlaced) (o : ℕ) → entry_in its at ≡ Ok entry
        → ((below : NodeSeen) → r ≡ Ok (Some below) → (node_at d (name_of below.place) ≡ Ok below) × (0 < level_limit - (length above + 1)))
        → Keeps d (on_subnode r node at entry o above)
    subnode-keeps (Err refusal) at entry o here opens = tt
    subnode-keeps (Ok None) at entry o here opens = passed-keeps (is_last entry.bytes) at entry o
    subnode-keeps (Ok (Some below)) at entry o here opens =
        below-kept (level_at (name_of below.place) below.start Going) (put_off (is_last entry.bytes) node at entry.bytes ∷ above)
        (put_off-kept (is_last entry.bytes) at entry here)
        (let some = (opens below refl).1 in grind (arith, common_steps)) (judge-at (name_of below.place) below below.start Going ((opens below refl).0) refl)

    entry-keeps : (entry : Result EntryPlaced Refusal) (at o : ℕ) → entry_in its at ≡ entry → Keeps d (on_entry d spent entry node at o above)
    entry-keeps (Ok entry) at o here = subnode-keeps (subnode d (left_below above) (spent o) entry.bytes) at entry o here
        (λ below is. (subnode-stands d (left_below above) (spent o) entry.bytes below is, subnode-levels d (left_below above) (spent o) entry.bytes below is))
    entry-keeps (Err refusal) at o here = tt

    next-keeps : (entry : Option (Result EntryPlaced Refusal)) (next o : ℕ) → first (entries_at its next) ≡ entry
        → Keeps d (on_next d spent entry node next o above)
    next-keeps (Some entry) next o is = entry-keeps entry next o (entries_at-first its next entry is).0
    next-keeps None next o is = kept

    due-keeps : (entry : Result EntryPlaced Refusal) (next o : ℕ) → Keeps d (on_due entry node next o above)
    due-keeps (Ok entry) next o = below-kept (level_at node next Going) above kept room (judge-at node its next Going is refl)
    due-keeps (Err refusal) next o = tt

    stage-keeps : (stage : Stage) (next o : ℕ) → Keeps d (by_stage d spent stage its node next o above)
    stage-keeps Fresh next o = below-kept (level_at node its.start Going) above kept room (judge-at node its its.start Going is refl)
    stage-keeps Going next o = next-keeps (first (entries_at its next)) next o refl
    stage-keeps (Due at) next o = due-keeps (entry_in its at) next o
    stage-keeps Ended next o = kept

  level-keeps : (its : Result NodeSeen Refusal) (level : Level) (above : List Level) (o : ℕ) → node_at d level.node ≡ its → IsKept d above
      → length above < level_limit → Keeps d (on_level d spent its level o above)
  level-keeps (Ok its) level above o is kept room = stage-keeps level.node its is above kept room level.stage level.next o
  level-keeps (Err refusal) level above o is kept room = tt

  pub turn-keeps : (levels : List Level) (o : ℕ) → IsKept d levels → Keeps d (turn d spent levels o)
  unfolding turn
  turn-keeps [] o kept = tt
  turn-keeps (level ∷ above) o kept =
      level-keeps (node_at d level.node) level above o refl (above-kept level above kept) (let w = kept.within in grind (arith, common_steps))
