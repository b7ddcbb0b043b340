-- What remains to be listed at some levels, and that a turn says what it is.
use Rattle.std.proofs.Common.{zero, suc, sub-one, ℕ, ◌≡◌, ◌+◌, ◌-◌, Bool, true, false, List, [], ◌∷◌, length, refl, sym, ◌∙◌, ap, if◌then◌else◌}
use Rattle.std.proofs.Common.{arith, Option, Some, None, Result, Ok, Err}
use Rattle.directory.specs.Limits.{level_limit}
use Rattle.std.proofs.lemmas.Grind.{common_steps}
use Rattle.refusal.specs.declared.Refusal.{Refusal}
use Rattle.refusal.specs.declared.Refusal.TheVariants.{TooManyLevels}
use Rattle.index_run.proofs.Keeping.{subnode-stands}
use Rattle.directory.specs.Lent.{Passed, EntryPlaced, NodeSeen}
use Rattle.index_entry.specs.Entry.{is_last}
use Rattle.directory.specs.Node.{entry_in, entries_at, first, Entries, start_after, entries_of}
use Rattle.directory.specs.Directory.{subnode}
use Rattle.directory.proofs.Entries.{entries_at-first, entries_at-none}
use Rattle.directory.proofs.Openings.{subnode-none_left}
use Rattle.index.specs.declared.cursor.NodeName.{NodeName}
use Rattle.index.specs.declared.cursor.Stage.{Stage}
use Rattle.index.specs.declared.cursor.Stage.TheVariants.{Fresh, Going, Due, Ended}
use Rattle.index.specs.declared.cursor.Level.{Level}
use Rattle.index.specs.Listing.{Listing, done, stop, item, and_then, list_subnode, list_entry, list_node, list_below}
use Rattle.index.specs.Step.{Turn, yields, ends, refuses, goes_on, level_at, node_at, passes, put_off, name_of, left_below, on_subnode, on_entry}
use Rattle.index.specs.Step.{on_next, on_due, by_stage, on_level, turn}

pub and_then-assoc : (l : Listing) (f g : ℕ → Listing) → and_then (and_then l f) g ≡ and_then l (λ x. and_then (f x) g)
and_then-assoc (done o) f g = refl
and_then-assoc (stop refusal o) f g = refl
and_then-assoc (item entry o rest) f g = ap (item entry o) (and_then-assoc rest f g)

into-none : (one other : Entries → ℕ → Listing) (below : Result (Option NodeSeen) Refusal) (o : ℕ) → ((node : NodeSeen) → below ≡ Ok (Some node) → ⊥)
    → list_subnode one below o ≡ list_subnode other below o
into-none one other (Ok (Some node)) o none = absurd (none node refl)
into-none one other (Ok None) o none = refl
into-none one other (Err refusal) o none = refl

module _ (d : Passed) (spent : ℕ → Bool) where
  -- an entry's subnode, with so many levels left
  abbrev pub list_down : ℕ → List ℕ → ℕ → Listing
  list_down left entry o = list_subnode (list_below d spent (left - 1)) (subnode d left (spent o) entry) o

  -- a node, by the subnodes of its entries
  pub list_below-node : (left : ℕ) (entries : Entries) (o : ℕ) → list_below d spent left entries o ≡ list_node (list_down left) entries o
  unfolding list_below
  list_below-node zero entries o = ap (λ sub. list_node sub entries o)
      (λ i entry x.
      into-none (λ es y. stop TooManyLevels y) (list_below d spent (0 - 1)) (subnode d 0 (spent x) entry) x (subnode-none_left d (spent x) entry) i)
  list_below-node (suc left) entries o =
      ap (λ n. list_node (λ entry x. list_subnode (list_below d spent n) (subnode d (suc left) (spent x) entry) x) entries o) (sym (sub-one (suc left)))

  abbrev pub due_then : Result EntryPlaced Refusal → ℕ → Listing → Listing
  due_then (Ok entry) o rest = item entry o rest
  due_then (Err refusal) o rest = stop refusal o

  abbrev pub rest_by : ℕ → Stage → NodeSeen → ℕ → ℕ → Listing
  rest_by left Fresh its next o = list_node (list_down left) (entries_of its) o
  rest_by left Going its next o = list_node (list_down left) (entries_at its next) o
  rest_by left (Due at) its next o = due_then (entry_in its at) o (list_node (list_down left) (entries_at its next) o)
  rest_by left Ended its next o = done o

  abbrev pub rest_in : ℕ → Result NodeSeen Refusal → Level → ℕ → Listing
  rest_in left (Ok its) level o = rest_by left level.stage its level.next o
  rest_in left (Err refusal) level o = stop refusal o

  -- the deepest level's rest, and then what remains above
  unfoldable pub remaining : List Level → ℕ → Listing
  remaining [] o = done o
  remaining (level ∷ above) o = and_then (rest_in (level_limit - (length above + 1)) (node_at d level.node) level o) (λ x. remaining above x)

  abbrev pub says : Turn → Listing
  says (yields entry o levels) = item entry o (remaining levels o)
  says (ends o) = done o
  says (refuses refusal o) = stop refusal o
  says (goes_on levels o) = remaining levels o

  remaining-at : (node : NodeName) (its : NodeSeen) → node_at d node ≡ Ok its → (above : List Level) (next : ℕ) (stage : Stage) (o : ℕ)
      → remaining (level_at node next stage ∷ above) o ≡ and_then (rest_by (level_limit - (length above + 1)) stage its next o) (λ x. remaining above x)
  unfolding remaining
  remaining-at node its is above next stage o = rw is refl

  module _ (node : NodeName) (its : NodeSeen) (is : node_at d node ≡ Ok its) (above : List Level) where
    abbrev left : ℕ
    left = level_limit - (length above + 1)

    abbrev from : ℕ → ℕ → Listing
    from at o = list_node (list_down left) (entries_at its at) o

    -- what was put off, where it is due
    put_off-says : (last : Bool) (at : ℕ) (entry : EntryPlaced) (o : ℕ) → entry_in its at ≡ Ok entry
        → and_then (list_entry last entry o (from (if last then its.end else (at + length entry.bytes)) o)) (λ x. remaining above x)
        ≡ remaining (put_off last node at entry.bytes ∷ above) o
    put_off-says true at entry o here = sym (remaining-at node its is above (at + length entry.bytes) Ended o)
    put_off-says false at entry o here = sym (remaining-at node its is above (at + length entry.bytes) (Due at) o ∙ rw here refl)

    passed-says : (last : Bool) (at : ℕ) (entry : EntryPlaced) (o : ℕ)
        → says (passes last node at entry o above)
        ≡ and_then (list_entry last entry o (from (if last then its.end else (at + length entry.bytes)) o)) (λ x. remaining above x)
    passed-says true at entry o = refl
    passed-says false at entry o = ap (item entry o) (remaining-at node its is above (at + length entry.bytes) Going o)

    subnode-says : (r : Result (Option NodeSeen) Refusal) (at : ℕ) (entry : EntryPlaced) (o : ℕ) → entry_in its at ≡ Ok entry
        → ((below : NodeSeen) → r ≡ Ok (Some below) → node_at d (name_of below.place) ≡ Ok below)
        → says (on_subnode r node at entry o above)
        ≡ and_then
        (and_then
        (list_subnode (list_below d spent (left - 1)) r o)
        (λ x. list_entry (is_last entry.bytes) entry x (from (start_after its at (Ok entry)) x)))
        (λ x. remaining above x)
    subnode-says (Err refusal) at entry o here stands = refl
    subnode-says (Ok None) at entry o here stands = passed-says (is_last entry.bytes) at entry o
    subnode-says (Ok (Some below)) at entry o here stands =
        remaining-at (name_of below.place) below (stands below refl) (put_off (is_last entry.bytes) node at entry.bytes ∷ above) below.start Going (o + 1)
        ∙ ap (λ n. and_then (list_node (list_down n) (entries_of below) (o + 1)) then_above) fewer
        ∙ ap (λ l. and_then l then_above) (sym (list_below-node (left - 1) (entries_of below) (o + 1)))
        ∙ ap (and_then (list_below d spent (left - 1) (entries_of below) (o + 1))) (λ i x. sym (put_off-says (is_last entry.bytes) at entry x here) i)
        ∙ sym (and_then-assoc (list_below d spent (left - 1) (entries_of below) (o + 1)) _ _)
      where
        then_above : ℕ → Listing
        then_above x = remaining (put_off (is_last entry.bytes) node at entry.bytes ∷ above) x

        fewer : left_below (put_off (is_last entry.bytes) node at entry.bytes ∷ above) ≡ left - 1
        fewer = grind (arith, common_steps)

    entry-says : (entry : Result EntryPlaced Refusal) (at o : ℕ) → entry_in its at ≡ entry
        → says (on_entry d spent entry node at o above)
        ≡ and_then (list_node (list_down left) (entry ∷ entries_at its (start_after its at entry)) o) (λ x. remaining above x)
    entry-says (Ok entry) at o here = subnode-says (subnode d left (spent o) entry.bytes) at entry o here (subnode-stands d left (spent o) entry.bytes)
    entry-says (Err refusal) at o here = refl

    going-says : (entry : Option (Result EntryPlaced Refusal)) (next o : ℕ) → first (entries_at its next) ≡ entry
        → says (on_next d spent entry node next o above) ≡ and_then (list_node (list_down left) (entries_at its next) o) (λ x. remaining above x)
    going-says (Some entry) next o is =
        let its_first = entries_at-first its next entry is in
        entry-says entry next o its_first.0
        ∙ ap (λ es. and_then (list_node (list_down left) es o) (λ x. remaining above x)) (sym its_first.1)
    going-says None next o is = ap (λ es. and_then (list_node (list_down left) es o) (λ x. remaining above x)) (sym (entries_at-none its next is))

    due-says : (entry : Result EntryPlaced Refusal) (next o : ℕ)
        → says (on_due entry node next o above)
        ≡ and_then (due_then entry o (list_node (list_down left) (entries_at its next) o)) (λ x. remaining above x)
    due-says (Ok entry) next o = ap (item entry o) (remaining-at node its is above next Going o)
    due-says (Err refusal) next o = refl

    stage-says : (stage : Stage) (next o : ℕ)
        → says (by_stage d spent stage its node next o above) ≡ and_then (rest_by left stage its next o) (λ x. remaining above x)
    stage-says Fresh next o = remaining-at node its is above its.start Going o
    stage-says Going next o = going-says (first (entries_at its next)) next o refl
    stage-says (Due at) next o = due-says (entry_in its at) next o
    stage-says Ended next o = refl

  level-says : (its : Result NodeSeen Refusal) (level : Level) (above : List Level) (o : ℕ) → node_at d level.node ≡ its
      → says (on_level d spent its level o above) ≡ and_then (rest_in (level_limit - (length above + 1)) its level o) (λ x. remaining above x)
  level-says (Ok its) level above o is = stage-says level.node its is above level.stage level.next o
  level-says (Err refusal) level above o is = refl

  -- a turn says what remains
  pub turn-says : (levels : List Level) (o : ℕ) → says (turn d spent levels o) ≡ remaining levels o
  unfolding turn remaining
  turn-says [] o = refl
  turn-says (level ∷ above) o = level-says (node_at d level.node) level above o refl
