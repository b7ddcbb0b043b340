-- Each entry that a lookup or a step answers is where its place says.
use Rattle.std.proofs.Common.{zero, suc, ℕ, ◌≡◌, ◌+◌, nat_lt, nat_eq, not, Bool, true, false, List, [], ◌∷◌, length, refl, ◌∙◌, subst, if◌then◌else◌}
use Rattle.std.proofs.Common.{Option, Some, None, Result, Ok, Err, Ordering, Less, Equal, Greater}
use Rattle.refusal.specs.declared.Refusal.{Refusal}
use Rattle.refusal.specs.declared.Refusal.TheVariants.{TableLength, NameTooLong, TooManyLevels}
use Rattle.refusal.specs.Then.{◌>>=◌}
use Rattle.index_entry.specs.Entry.{is_last}
use Rattle.upcase_table.specs.UpcaseTable.{table_size, mapped_by}
use Rattle.collation.specs.Kind.{Kind}
use Rattle.collation.specs.Names.{name_limit, file_names}
use Rattle.directory.specs.Answer.{Answered, some, refused}
use Rattle.directory.specs.Lent.{Lent, Passed, EntryPlaced, NodeSeen}
use Rattle.index_root.specs.Root.{record_size_of}
use Rattle.index_allocation.specs.Allocation.{record_at}
use Rattle.directory.specs.Directory.{passed, root_node, node_in, subnode}
use Rattle.directory.specs.Limits.{below_root, level_limit}
use Rattle.directory.specs.Node.{Entries, entry_in, entries_at, entries_of, first}
use Rattle.index_finder.specs.Find.{stands, choose, into, find_node, find_below, find_in, find}
use Rattle.index_finder.specs.FileNames.{find_file_name}
use Rattle.index.specs.declared.cursor.Cursor.{Cursor}
use Rattle.index.specs.declared.cursor.Level.{Level}
use Rattle.index.specs.declared.cursor.NodeName.{NodeName}
use Rattle.index.specs.declared.cursor.NodeName.TheVariants.{Root, Record}
use Rattle.index.specs.declared.cursor.Stage.{Stage}
use Rattle.index.specs.declared.cursor.Stage.TheVariants.{Fresh, Going, Due, Ended}
use Rattle.index.specs.Cursor.{levels_of, new_cursor}
use Rattle.index.specs.Listing.{listing}
use Rattle.index_run.specs.Run.{answer_after, said_at}
use Rattle.index_run.proofs.Running.{steps_are_the_listing}
use Rattle.index.specs.Step.{Turn, yields, ends, refuses, goes_on, node_at, passes, left_below, on_subnode, on_next, on_due, by_stage, on_level, turn}
use Rattle.index.specs.Step.{weight, Outcome, then_turns, turns, walk, judge_all, checked, walk_in, on_depth, on_kept, step}
use Rattle.index_node.specs.Node.{record_placed, view_of}
use Rattle.claims.specs.Nodes.{IsItsPlace, IsViewed, PlaceIsEntry}
use Rattle.claims.proofs.Nodes.{at_number, read-stands, entry-stands, Stands, root-stands, root-viewed, record-viewed, again-stands, subnode-stands, entry_in-placed, entry_in-good, entries_at-good, IsGood, AllGood}

abbrev IsGoodOption : Lent → Option EntryPlaced → Type 0
IsGoodOption d (Some entry) = IsItsPlace d entry
IsGoodOption d None = Unit {0}

abbrev IsGoodAnswer : Lent → Answered → Type 0
IsGoodAnswer d (Ok told) = IsGoodOption d told.entry
IsGoodAnswer d (Err fault) = Unit {0}

module _ (d : Lent) (p : Passed) (is : passed d ≡ Ok p) (spent : ℕ → Bool) where
  module _ {K : Type 0} (kind : Kind K) (sought : K) where
    choose-good : (its : Result Ordering Refusal) (entry : EntryPlaced) (o : ℕ) (next down : Answered) → IsItsPlace d entry → IsGoodAnswer d next
        → IsGoodAnswer d down
        → IsGoodAnswer d (choose its entry o next down)
    choose-good (Ok Equal) entry o next down here nexts downs = here
    choose-good (Ok Greater) entry o next down here nexts downs = nexts
    choose-good (Ok Less) entry o next down here nexts downs = downs
    choose-good (Err refusal) entry o next down here nexts downs = tt

    node-good : (its : List ℕ → Result Ordering Refusal) (down : List ℕ → ℕ → Answered) → ((entry : List ℕ) (o : ℕ) → IsGoodAnswer d (down entry o))
        → (es : Entries) → AllGood d p is es → (o : ℕ) → IsGoodAnswer d (find_node its down es o)
    node-good its down downs [] good o = tt
    node-good its down downs (Err refusal ∷ rest) good o = tt
    node-good its down downs (Ok entry ∷ rest) (here, more) o =
        choose-good (its entry.bytes) entry o (find_node its down rest o) (down entry.bytes o) here (node-good its down downs rest more o) (downs entry.bytes o)

    abbrev Good : (Entries → ℕ → Answered) → Type 0
    Good below = (node : NodeSeen) → Stands d node → (o : ℕ) → IsGoodAnswer d (below (entries_of node) o)

    into-good : (below : Entries → ℕ → Answered) → Good below → (sub : Result (Option NodeSeen) Refusal)
        → ((node : NodeSeen) → sub ≡ Ok (Some node) → Stands d node) → (o : ℕ)
        → IsGoodAnswer d (into below sub o)
    into-good below good (Ok (Some node)) stands o = good node (stands node refl) (o + 1)
    into-good below good (Ok None) stands o = tt
    into-good below good (Err refusal) stands o = tt

    below-good : (left : ℕ) → Good (find_below p spent kind sought left)
    unfolding find_below
    below-good zero node its o = node-good (stands kind sought) _
        (λ entry x. into-good (λ es y. refused TooManyLevels y) (λ n s y. tt) (subnode p 0 (spent x) entry) (subnode-stands d p is 0 (spent x) entry) x)
        (entries_of node) (entries_at-good d p is node its node.start) o
    below-good (suc left) node its o = node-good (stands kind sought) _
        (λ entry x. into-good (find_below p spent kind sought left) (below-good left)
        (subnode p (suc left) (spent x) entry) (subnode-stands d p is (suc left) (spent x) entry) x)
        (entries_of node) (entries_at-good d p is node its node.start) o

  abbrev IsGoodTurn : Turn → Type 0
  IsGoodTurn (yields entry o levels) = IsItsPlace d entry
  IsGoodTurn (ends o) = Unit {0}
  IsGoodTurn (refuses refusal o) = Unit {0}
  IsGoodTurn (goes_on levels o) = Unit {0}

  passes-good : (last : Bool) (node : NodeName) (at : ℕ) (entry : EntryPlaced) (o : ℕ) (above : List Level) → IsItsPlace d entry
      → IsGoodTurn (passes last node at entry o above)
  passes-good true node at entry o above good = tt
  passes-good false node at entry o above good = good

  entry-good : (sub : Result (Option NodeSeen) Refusal) (node : NodeName) (at : ℕ) (entry : EntryPlaced) (o : ℕ) (above : List Level)
      → IsItsPlace d entry → IsGoodTurn (on_subnode sub node at entry o above)
  entry-good (Ok (Some below)) node at entry o above good = tt
  entry-good (Ok None) node at entry o above good = passes-good (is_last entry.bytes) node at entry o above good
  entry-good (Err refusal) node at entry o above good = tt

  next-good : (es : Entries) → AllGood d p is es → (node : NodeName) (at o : ℕ) (above : List Level) → IsGoodTurn (on_next p spent (first es) node at o above)
  next-good [] good node at o above = tt
  next-good (Err refusal ∷ rest) good node at o above = tt
  next-good (Ok entry ∷ rest) (here, more) node at o above = entry-good (subnode p (left_below above) (spent o) entry.bytes) node at entry o above here

  due-good : (entry : Result EntryPlaced Refusal) → IsGood d p is entry → (node : NodeName) (next o : ℕ) (above : List Level)
      → IsGoodTurn (on_due entry node next o above)
  due-good (Ok entry) good node next o above = good
  due-good (Err refusal) good node next o above = tt

  stage-good : (stage : Stage) (its : NodeSeen) → Stands d its → (node : NodeName) (next o : ℕ) (above : List Level)
      → IsGoodTurn (by_stage p spent stage its node next o above)
  stage-good Fresh its stands node next o above = tt
  stage-good Going its stands node next o above = next-good (entries_at its next) (entries_at-good d p is its stands next) node next o above
  stage-good (Due at) its stands node next o above = due-good (entry_in its at) (entry_in-good d p is its stands at) node next o above
  stage-good Ended its stands node next o above = tt

  node_at-stands : (name : NodeName) (its : NodeSeen) → node_at p name ≡ Ok its → Stands d its
  unfolding node_at
  node_at-stands Root its same = let root : root_node p ≡ its = cc in let P : NodeSeen → Type 0 = Stands d in subst P root (root-stands d p is)
  node_at-stands (Record vcn) its same = again-stands d p is vcn its same

  level-good : (node : Result NodeSeen Refusal) (level : Level) → node_at p level.node ≡ node → (o : ℕ) (above : List Level)
      → IsGoodTurn (on_level p spent node level o above)
  level-good (Ok its) level was o above = stage-good level.stage its (node_at-stands level.node its was) level.node level.next o above
  level-good (Err refusal) level was o above = tt

  turn-good : (levels : List Level) (o : ℕ) → IsGoodTurn (turn p spent levels o)
  unfolding turn
  turn-good [] o = tt
  turn-good (level ∷ above) o = level-good (node_at p level.node) level refl o above

  then-good : (more : List Level → ℕ → Outcome) → ((levels : List Level) (o : ℕ) → IsGoodAnswer d (more levels o).answer) → (t : Turn) → IsGoodTurn t
      → IsGoodAnswer d (then_turns more t).answer
  then-good more mores (yields entry o levels) good = good
  then-good more mores (ends o) good = tt
  then-good more mores (refuses refusal o) good = tt
  then-good more mores (goes_on levels o) good = mores levels o

  turns-good : (most : ℕ) (levels : List Level) (o : ℕ) → IsGoodAnswer d (turns most p spent levels o).answer
  unfolding turns
  turns-good zero levels o = tt
  turns-good (suc most) levels o = then-good (λ ls x. turns most p spent ls x) (turns-good most) (turn p spent levels o) (turn-good levels o)

  walk-good : (levels : List Level) (o : ℕ) → IsGoodAnswer d (walk p spent levels o).answer
  unfolding walk
  walk-good levels o = turns-good (suc (weight levels)) levels o

module _ (d : Lent) (spent : ℕ → Bool) where
  find_in-good : {K : Type 0} (kind : Kind K) (sought : K) (p : Result Passed Refusal) → passed d ≡ p → IsGoodAnswer d (find_in spent kind sought p)
  find_in-good kind sought (Ok p) is = below-good d p is spent kind sought below_root (root_node p) (root-stands d p is) 0
  find_in-good kind sought (Err refusal) is = tt

  find-good : {K : Type 0} (kind : Kind K) (sought : K) → IsGoodAnswer d (find d spent kind sought)
  unfolding find
  find-good kind sought = find_in-good kind sought (passed d) refl

  file_name-good : (table name : List ℕ) → IsGoodAnswer d (find_file_name d spent table name)
  unfolding find_file_name
  file_name-good table name = by (nat_eq (length table) table_size) (nat_lt name_limit (length name))
    where
      judged : (whole long : Bool) → Answered
      judged whole long =
          if not whole then refused TableLength 0
          else if long then refused NameTooLong 0
          else find d spent (file_names (mapped_by table)) name

      by : (whole long : Bool) → IsGoodAnswer d (judged whole long)
      by false long = tt
      by true true = tt
      by true false = find-good (file_names (mapped_by table)) name

  checked-passed : (cursor : Cursor) (p : Passed) → checked d cursor ≡ Ok p → passed d ≡ Ok p
  unfolding checked
  checked-passed cursor p = by (passed d) refl
    where
      judged : Passed → Result (Unit {0}) Refusal
      judged seen = if nat_lt level_limit cursor.depth then Err TooManyLevels else judge_all seen (levels_of cursor)

      by : (r : Result Passed Refusal) → passed d ≡ r → (r >>= λ seen. judged seen >>= λ fine. Ok seen) ≡ Ok p → passed d ≡ Ok p
      by (Err refusal) was is = cc
      by (Ok seen) was is = outcome (judged seen) is
        where
          outcome : (fine : Result (Unit {0}) Refusal) → (fine >>= λ fine. Ok seen) ≡ Ok p → passed d ≡ Ok p
          outcome (Ok fine) is = was ∙ is
          outcome (Err refusal) is = cc

  walk_in-good : (p : Result Passed Refusal) → ((q : Passed) → p ≡ Ok q → passed d ≡ Ok q) → (levels : List Level) (o : ℕ)
      → IsGoodAnswer d (walk_in spent p levels o).answer
  walk_in-good (Ok p) passes levels o = walk-good d p (passes p refl) spent levels o
  walk_in-good (Err refusal) passes levels o = tt

  depth-good : (depth : ℕ) (cursor : Cursor) → IsGoodAnswer d (on_depth d spent depth cursor).answer
  depth-good zero cursor = tt
  depth-good (suc above) cursor = walk_in-good (checked d cursor) (checked-passed cursor) (levels_of cursor) cursor.opened

  kept-good : (kept : Option Refusal) (cursor : Cursor) → IsGoodAnswer d (on_kept d spent kept cursor).answer
  kept-good (Some refusal) cursor = tt
  kept-good None cursor = depth-good cursor.depth cursor

  step-good : (cursor : Cursor) → IsGoodAnswer d (step d spent cursor).answer
  unfolding step
  step-good cursor = kept-good cursor.refusal cursor

  after-good : (before : ℕ) (cursor : Cursor) → IsGoodAnswer d (answer_after d spent before cursor)
  unfolding answer_after
  after-good zero cursor = step-good cursor
  after-good (suc before) cursor = after-good before (step d spent cursor).cursor

  listing-good : (at : ℕ) → IsGoodAnswer d (said_at (listing d spent) at)
  listing-good at = let P : Answered → Type 0 = IsGoodAnswer d in subst P (steps_are_the_listing d spent at) (after-good at new_cursor)

-- a node that was opened by its name stands where its place says, and is that part of what holds it
view-stands : (d : Lent) (name : NodeName) (node : NodeSeen) → view_of d name ≡ Ok node → Stands d node × IsViewed d name node
unfolding view_of record_placed
view-stands d Root node = by (passed d) refl
  where
    by : (r : Result Passed Refusal) → passed d ≡ r → (r >>= λ its. Ok (root_node its)) ≡ Ok node → Stands d node × IsViewed d Root node
    by (Err refusal) was is = cc
    by (Ok p) was is =
        let root : root_node p ≡ node = cc in
        let P : NodeSeen → Type 0 = λ its. Stands d its × IsViewed d Root its in subst P root (root-stands d p was, root-viewed d p was)
view-stands d (Record vcn) node = by (record_at vcn d.cluster_size (record_size_of d.root) (length d.pool)) refl
  where
    by : (number : Result ℕ Refusal) → record_at vcn d.cluster_size (record_size_of d.root) (length d.pool) ≡ number
        → ((number >>= λ n. Ok (record { number = n; vcn = vcn; bytes = at_number d n })) >>= node_in) ≡ Ok node
        → Stands d node × IsViewed d (Record vcn) node
    by (Err refusal) was is = cc
    by (Ok number) was is = (
      read-stands d (record { number = number; vcn = vcn; bytes = at_number d number }) was refl node is,
      record-viewed d vcn number was node is,
    )

answered : (d : Lent) (answer : Answered) (entry : EntryPlaced) (opened : ℕ) → IsGoodAnswer d answer → answer ≡ some entry opened → IsItsPlace d entry
answered d answer entry opened good is = let P : Answered → Type 0 = IsGoodAnswer d in subst P is good

pub places_are_entries : PlaceIsEntry
places_are_entries = record {
  record_read = λ d vcn number node at entry leads reads here.
      entry-stands d node (read-stands d (record { number = number; vcn = vcn; bytes = at_number d number }) leads refl node reads) at entry here;
  named = λ d name node at entry its here. entry-stands d node (view-stands d name node its).0 at entry here;
  viewed = λ d name node its. (view-stands d name node its).1;
  opened = λ d p name node at entry is its here. entry_in-placed d p is node (node_at-stands d p is (λ o. false) name node its) at entry here;
  step = λ d spent cursor entry opened. answered d _ entry opened (step-good d spent cursor);
  listing = λ d spent at entry opened. answered d _ entry opened (listing-good d spent at);
  lookup = λ d spent table name entry opened. answered d _ entry opened (file_name-good d spent table name);
  lookup_of_kind = λ d spent kind sought entry opened. answered d _ entry opened (find-good d spent kind sought);
}
