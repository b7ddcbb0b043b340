-- What a step or a lookup answers lies where its place says.
use Rattle.std.proofs.Common.{zero, suc, ℕ, ℤ, ◌≡◌, ◌+◌, subst, ◌==◌, nat_lt, not, Bool, true, false, List, [], ◌∷◌, length, refl, ◌∙◌, if◌then◌else◌}
use Rattle.std.proofs.Common.{Option, Some, None, Result, Ok, Err, Ordering, Less, Equal, Greater}
use Rattle.refusal.specs.declared.Refusal.{Refusal}
use Rattle.refusal.specs.declared.Refusal.TheVariants.{TooManyLevels, TableLength, NameTooLong}
use Rattle.refusal.specs.Then.{◌>>=◌}
use Rattle.index_entry.specs.Entry.{is_last}
use Rattle.collation.specs.Kind.{Kind}
use Rattle.collation.specs.Names.{name_limit, file_names}
use Rattle.upcase_table.specs.UpcaseTable.{table_size, mapped_by}
use Rattle.directory.specs.declared.place.Place.TheVariants as places
use Rattle.directory.specs.Answer.{Answered, refused}
use Rattle.directory.specs.Lent.{Lent, Passed, EntryPlaced, NodeSeen}
use Rattle.directory.specs.Limits.{below_root, level_limit}
use Rattle.directory.specs.Directory.{passed, root_node, subnode, again}
use Rattle.directory.specs.Node.{Entries, entries_of, entry_in, entries_at, first}
use Rattle.directory.proofs.Entries.{entries_at-first}
use Rattle.directory.proofs.Openings.{subnode-again}
use Rattle.index.specs.declared.cursor.NodeName.{NodeName}
use Rattle.index.specs.declared.cursor.NodeName.TheVariants.{Root, Record}
use Rattle.index.specs.declared.cursor.Stage.{Stage}
use Rattle.index.specs.declared.cursor.Stage.TheVariants.{Fresh, Going, Due, Ended}
use Rattle.index.specs.declared.cursor.Level.{Level}
use Rattle.index.specs.declared.cursor.Cursor.{Cursor}
use Rattle.index.specs.Cursor.{levels_of}
use Rattle.index.specs.Step.{Turn, yields, ends, refuses, goes_on, node_at, passes, left_below, on_subnode, on_next, on_due, by_stage, on_level, turn}
use Rattle.index.specs.Step.{Outcome, then_turns, turns, weight, walk, walk_in, judge_all, checked, on_depth, on_kept, step}
use Rattle.index_finder.specs.Find.{stands, choose, find_node, into, find_below, find_in, find}
use Rattle.index_finder.specs.FileNames.{find_file_name}
use Rattle.c_api.specs.Lies.{Lies, AnswerLies}
use Rattle.c_api.proofs.Places.{went, IsOf, is-of, NodeLies, root-lies, again-lies, entry-lies, AllLie, entries-lie}

module _ (lent : Lent) (d : Passed) (of : IsOf lent d) (spent : ℕ → Bool) where
  abbrev TurnLies : Turn → Type 0
  TurnLies (yields entry o levels) = Lies lent entry
  TurnLies (ends o) = Unit {0}
  TurnLies (refuses refusal o) = Unit {0}
  TurnLies (goes_on levels o) = Unit {0}

  node_at-lies : (node : NodeName) (its : NodeSeen) → node_at d node ≡ Ok its → NodeLies lent its
  unfolding node_at
  node_at-lies Root its is = root is
    where
      root : ◌≡◌ {A = Result NodeSeen Refusal} (Ok (root_node d)) (Ok its) → NodeLies lent its
      root is = let same : root_node d ≡ its = cc in subst (NodeLies lent) same (root-lies lent d of)
  node_at-lies (Record vcn) its is = again-lies lent d vcn its of is

  passes-lies : (last : Bool) (node : NodeName) (at : ℕ) (entry : EntryPlaced) (o : ℕ) (above : List Level) → Lies lent entry
      → TurnLies (passes last node at entry o above)
  passes-lies true node at entry o above lies = tt
  passes-lies false node at entry o above lies = lies

  on_subnode-lies : (r : Result (Option NodeSeen) Refusal) (node : NodeName) (at : ℕ) (entry : EntryPlaced) (o : ℕ) (above : List Level)
      → Lies lent entry → TurnLies (on_subnode r node at entry o above)
  on_subnode-lies (Ok (Some below)) node at entry o above lies = tt
  on_subnode-lies (Ok None) node at entry o above lies = passes-lies (is_last entry.bytes) node at entry o above lies
  on_subnode-lies (Err refusal) node at entry o above lies = tt

  module _ (its : NodeSeen) (stands : NodeLies lent its) (node : NodeName) (next o : ℕ) (above : List Level) where
    on_next-lies : (entry : Option (Result EntryPlaced Refusal)) → first (entries_at its next) ≡ entry → TurnLies (on_next d spent entry node next o above)
    on_next-lies (Some (Ok entry)) is =
        on_subnode-lies (subnode d (left_below above)
        (spent o) entry.bytes) node next entry o above (entry-lies lent its next entry stands (entries_at-first its next (Ok entry) is).0)
    on_next-lies (Some (Err refusal)) is = tt
    on_next-lies None is = tt

    on_due-lies : (at : ℕ) (entry : Result EntryPlaced Refusal) → entry_in its at ≡ entry → TurnLies (on_due entry node next o above)
    on_due-lies at (Ok entry) is = entry-lies lent its at entry stands is
    on_due-lies at (Err refusal) is = tt

    by_stage-lies : (stage : Stage) → TurnLies (by_stage d spent stage its node next o above)
    by_stage-lies Fresh = tt
    by_stage-lies Going = on_next-lies (first (entries_at its next)) refl
    by_stage-lies (Due at) = on_due-lies at (entry_in its at) refl
    by_stage-lies Ended = tt

  on_level-lies : (its : Result NodeSeen Refusal) (level : Level) (o : ℕ) (above : List Level) → node_at d level.node ≡ its
      → TurnLies (on_level d spent its level o above)
  on_level-lies (Ok its) level o above is = by_stage-lies its (node_at-lies level.node its is) level.node level.next o above level.stage
  on_level-lies (Err refusal) level o above is = tt

  turn-lies : (levels : List Level) (o : ℕ) → TurnLies (turn d spent levels o)
  unfolding turn
  turn-lies [] o = tt
  turn-lies (level ∷ above) o = on_level-lies (node_at d level.node) level o above refl

  then-lies : (more : List Level → ℕ → Outcome) (its : Turn) → TurnLies its
      → ((levels : List Level) (o : ℕ) → AnswerLies lent (more levels o).answer) → AnswerLies lent (then_turns more its).answer
  then-lies more (yields entry o levels) lies goes = lies
  then-lies more (ends o) lies goes = tt
  then-lies more (refuses refusal o) lies goes = tt
  then-lies more (goes_on levels o) lies goes = goes levels o

  turns-lie : (most : ℕ) (levels : List Level) (o : ℕ) → AnswerLies lent (turns most d spent levels o).answer
  unfolding turns
  turns-lie zero levels o = tt
  turns-lie (suc most) levels o = then-lies (λ ls x. turns most d spent ls x) (turn d spent levels o) (turn-lies levels o) (λ ls x. turns-lie most ls x)

  walk-lies : (levels : List Level) (o : ℕ) → AnswerLies lent (walk d spent levels o).answer
  unfolding walk
  walk-lies levels o = turns-lie (suc (weight levels)) levels o

  module _ {K : Type 0} (kind : Kind K) (sought : K) where
    into-lies : (below : Entries → ℕ → Answered) (left : ℕ) (sooner : Bool) (entry : List ℕ) (o : ℕ)
        → ((es : Entries) (x : ℕ) → AllLie lent es → AnswerLies lent (below es x))
        → (r : Result (Option NodeSeen) Refusal) → subnode d left sooner entry ≡ r → AnswerLies lent (into below r o)
    into-lies below left sooner entry o lies (Ok (Some node)) is = there (subnode-again d left sooner entry node is)
      where
        there : (number : ℕ) × (vcn : ℤ) × (node.place ≡ places.Record number vcn) × (again d vcn ≡ Ok node) → AnswerLies lent (below (entries_of node) (o + 1))
        there (number, vcn, place, stands) = lies (entries_of node) (o + 1) (entries-lie lent node (again-lies lent d vcn node of stands))
    into-lies below left sooner entry o lies (Ok None) is = tt
    into-lies below left sooner entry o lies (Err refusal) is = tt

    choose-lies : (its : Result Ordering Refusal) (entry : EntryPlaced) (o : ℕ) (next down : Answered) → Lies lent entry → AnswerLies lent next
        → AnswerLies lent down → AnswerLies lent (choose its entry o next down)
    choose-lies (Ok Equal) entry o next down lies nexts downs = lies
    choose-lies (Ok Greater) entry o next down lies nexts downs = nexts
    choose-lies (Ok Less) entry o next down lies nexts downs = downs
    choose-lies (Err refusal) entry o next down lies nexts downs = tt

    find_node-lies : (its : List ℕ → Result Ordering Refusal) (down : List ℕ → ℕ → Answered) → ((entry : List ℕ) (o : ℕ) → AnswerLies lent (down entry o))
        → (es : Entries) (o : ℕ) → AllLie lent es → AnswerLies lent (find_node its down es o)
    find_node-lies its down downs [] o lie = tt
    find_node-lies its down downs (Err refusal ∷ rest) o lie = tt
    find_node-lies its down downs (Ok entry ∷ rest) o lie =
        choose-lies (its entry.bytes) entry o (find_node its down rest o) (down entry.bytes o) lie.0 (find_node-lies its down downs rest o lie.1)
        (downs entry.bytes o)

    find_below-lies : (left : ℕ) (es : Entries) (o : ℕ) → AllLie lent es → AnswerLies lent (find_below d spent kind sought left es o)
    unfolding find_below
    find_below-lies zero = find_node-lies (stands kind sought) _
        (λ entry o. into-lies (λ es y. refused TooManyLevels y) zero (spent o) entry o (λ es y lie. tt) (subnode d zero (spent o) entry) refl)
    find_below-lies (suc left) = find_node-lies (stands kind sought) _
        (λ entry o. into-lies (λ es y. find_below d spent kind sought left es y) (suc left) (spent o) entry o (find_below-lies left)
        (subnode d (suc left) (spent o) entry) refl)

module _ (lent : Lent) (spent : ℕ → Bool) where
  checked-passed : (cursor : Cursor) (d : Passed) → checked lent cursor ≡ Ok d → passed lent ≡ Ok d
  unfolding checked
  checked-passed cursor d is =
      let first = went (passed lent)
      (λ x. (if nat_lt level_limit cursor.depth then Err TooManyLevels else judge_all x (levels_of cursor)) >>= λ fine. Ok x) d is in
      let rest = went (if nat_lt level_limit cursor.depth then Err TooManyLevels else judge_all first.0 (levels_of cursor)) (λ fine. Ok first.0) d first.2 in
      first.1 ∙ rest.2

  walk_in-lies : (r : Result Passed Refusal) (cursor : Cursor) → checked lent cursor ≡ r
      → AnswerLies lent (walk_in spent r (levels_of cursor) cursor.opened).answer
  walk_in-lies (Ok d) cursor is = walk-lies lent d (is-of lent d (checked-passed cursor d is)) spent (levels_of cursor) cursor.opened
  walk_in-lies (Err refusal) cursor is = tt

  on_depth-lies : (depth : ℕ) (cursor : Cursor) → AnswerLies lent (on_depth lent spent depth cursor).answer
  on_depth-lies zero cursor = tt
  on_depth-lies (suc above) cursor = walk_in-lies (checked lent cursor) cursor refl

  on_kept-lies : (kept : Option Refusal) (cursor : Cursor) → AnswerLies lent (on_kept lent spent kept cursor).answer
  on_kept-lies (Some refusal) cursor = tt
  on_kept-lies None cursor = on_depth-lies cursor.depth cursor

  pub step-lies : (cursor : Cursor) → AnswerLies lent (step lent spent cursor).answer
  unfolding step
  step-lies cursor = on_kept-lies cursor.refusal cursor

  find_in-lies : {K : Type 0} (kind : Kind K) (sought : K) (r : Result Passed Refusal) → passed lent ≡ r → AnswerLies lent (find_in spent kind sought r)
  find_in-lies kind sought (Ok d) is =
      let of = is-of lent d is in
      find_below-lies lent d of spent kind sought below_root (entries_of (root_node d)) 0 (entries-lie lent (root_node d) (root-lies lent d of))
  find_in-lies kind sought (Err refusal) is = tt

  pub find-lies : {K : Type 0} (kind : Kind K) (sought : K) → AnswerLies lent (find lent spent kind sought)
  unfolding find
  find-lies kind sought = find_in-lies kind sought (passed lent) refl

  pub find_file_name-lies : (table name : List ℕ) → AnswerLies lent (find_file_name lent spent table name)
  unfolding find_file_name
  find_file_name-lies table name = by (not (length table == table_size)) (nat_lt name_limit (length name))
    where
      by : (no_table long : Bool)
          → AnswerLies lent (if no_table then refused TableLength 0 else
          (if long then refused NameTooLong 0 else find lent spent (file_names (mapped_by table)) name))
      by true long = tt
      by false true = tt
      by false false = find-lies (file_names (mapped_by table)) name

pub ruleset of_answers = (step-lies, find_file_name-lies)
