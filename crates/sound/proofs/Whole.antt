-- A whole directory: that it passes exactly if it is sorted, and what becomes of the marks.
use Rattle.std.proofs.Common.{zero, suc, ℕ, ◌≡◌, ◌+◌, ◌-◌, ◌<◌, ◌≤◌, Bool, true, false, nat_lt, nat_eq, not, List, length, get_or, get_or-drop, drop, replicate, refl, sym}
use Rattle.std.proofs.Common.{◌∙◌, ap, subst, arith, if◌then◌else◌, None, Result, Ok, Err}
use Rattle.std.specs.Prelude.{Contains}
use Rattle.std.proofs.lemmas.Grind.{common_steps}
use Rattle.std.proofs.lemmas.List.{length-replicate, get_or-append_right}
use Rattle.refusal.specs.declared.Fault.{Fault}
use Rattle.refusal.specs.declared.Refusal.{Refusal}
use Rattle.refusal.specs.declared.Refusal.TheVariants.{MarksTooShort, TableLength}
use Rattle.upcase_table.specs.UpcaseTable.{table_size, mapped_by}
use Rattle.collation.specs.Kind.{Kind}
use Rattle.collation.specs.Names.{file_names}
use Rattle.directory.specs.Answer.{fault_of}
use Rattle.directory.specs.Directory.{passed, records_in, root_node}
use Rattle.directory.specs.Lent.{Lent, Passed, NodeSeen}
use Rattle.directory.specs.Limits.{below_root}
use Rattle.directory.specs.Node.{Entries, entries_of}
use Rattle.checker.specs.Check.{State, Checked, cleared, settled, refused_at_once, check_from, check_root, check}
use Rattle.checker.specs.FileNames.{check_file_names}
use Rattle.checker.proofs.Laws.{check_entries-node}
use Rattle.sound.specs.Fit.{number_in, reached, Fit}
use Rattle.sound.specs.Pass.{Passes, Pass, PassFor, PassForAnyKind, Marks, MarksUnchanged, MarksCleared}
use Rattle.sound.specs.Sorted.{Ready, Sorted, records_of_passed, records_of, reached_root, reached_of, Marked, Cleared}
use Rattle.sound.specs.Tree.{Leads}
use Rattle.sound.proofs.Fit.{tree-fit, tree-reached, fit-tree}
use Rattle.sound.proofs.Marks.{no_repeat, AllBelow, below-append, below-contains, fresh-from, mark_all-none, mark_all-one}
use Rattle.sound.proofs.Passed.{passed-nodes, passes, length-mark_all}
use Rattle.sound.proofs.Places.{HasSizes, passed-sizes, wanted-within, subnode-made}
use Rattle.sound.proofs.WellTree.{WellTree, end_here, end_below, name_here, name_below, records, mark_all, IsSound}

settled-ok : (records : ℕ) (marks : List ℕ) (r : Result State Fault) (count : ℕ) → (settled records marks r).verdict ≡ Ok count → (s : State) × (r ≡ Ok s)
settled-ok records marks (Ok s) count ok = (s, refl)
settled-ok records marks (Err its) count ok = absurd (let P : ⊥ = cc in P)

pub settled-broken : (records : ℕ) (marks : List ℕ) (r : Result State Fault) (its : Fault) → (settled records marks r).verdict ≡ Err its
    → (settled records marks r).marks ≡ cleared records marks
settled-broken records marks (Ok s) its broken = absurd (let P : ⊥ = cc in P)
settled-broken records marks (Err other) its broken = refl

pub length-cleared : (most : ℕ) (marks : List ℕ) → most ≤ length marks → length (cleared most marks) ≡ length marks
length-cleared most marks room = grind (arith, common_steps)

cleared-zero : (most : ℕ) (marks : List ℕ) (at : ℕ) → at < most → get_or (cleared most marks) at 0 ≡ 0
cleared-zero most marks at inside = grind (arith, common_steps)

cleared-beyond : (most : ℕ) (marks : List ℕ) (at : ℕ) → most ≤ at → get_or (cleared most marks) at 0 ≡ get_or marks at 0
cleared-beyond most marks at past =
    get_or-append_right (replicate most 0) (drop most marks) most at 0 (length-replicate most 0) past
    ∙ get_or-drop most marks (at - most) 0
    ∙ ap (λ n. get_or marks n 0) (let same : most + (at - most) ≡ at = omega arith in same)

node-within : (d : Passed) → HasSizes d.allocation → (entry : List ℕ) (node : NodeSeen) → Leads d entry node → number_in node.place < records_in d.allocation
node-within d sizes entry node leads =
    let made = subnode-made d 1 entry node leads in
    let low = wanted-within d.allocation 1 false (made.vcn) (made.placed) sizes (made.lies) in
    let same = made.number in omega arith

-- the records of a tree are below the record count, and so are those reached
module _ (d : Passed) {K : Type 0} (kind : Kind K) (sizes : HasSizes d.allocation) where
  pub records-below : {left used at : ℕ} {es : Entries} (t : WellTree d kind left used at es) → AllBelow (records_in d.allocation) (records t)
  records-below (end_here left used at entry rest last ends alone) = tt
  records-below (end_below left used at entry rest last ends node leads below) = (node-within d sizes entry.bytes node leads, records-below below)
  records-below (name_here left used at entry rest name its ends alone more) = records-below more
  records-below (name_below left used at entry rest name its ends node leads below more) = (
    node-within d sizes entry.bytes node leads,
    below-append (records_in d.allocation) (records below) (records more) (records-below below) (records-below more),
  )

  pub reached-below : (levels : ℕ) (node : NodeSeen) → Fit d kind levels node → AllBelow (records_in d.allocation) (reached d levels node)
  unfolding reached
  reached-below zero node fit = tt
  reached-below (suc left) node fit =
      let its = fit-tree d kind left node fit in
      let P : List ℕ → Type 0 = AllBelow (records_in d.allocation) in
      subst P (sym (tree-reached d kind (its.tree))) (records-below (its.tree))

module _ (lent : Lent) {K : Type 0} (kind : Kind K) (marks : List ℕ) where
  abbrev begun : Passed → State
  begun d = record { marks = cleared (records_in d.allocation) marks; opened = 0; latest = None }

  abbrev walk : Passed → Result State Fault
  walk d = check_from d kind below_root (root_node d) (root_node d).start (begun d)

  -- where 1 to 7 and 21 do not arise the walk decides
  check-walk : (d : Passed) → passed lent ≡ Ok d → records_in d.allocation ≤ length marks
      → check lent kind marks ≡ settled (records_in d.allocation) marks (walk d)
  unfolding check
  check-walk d opens room =
      let test : nat_lt (length marks) (records_in d.allocation) ≡ false = grind (arith, common_steps) in
      ap (check_root kind marks) opens ∙ ap (λ b. if b then refused_at_once MarksTooShort marks else settled (records_in d.allocation) marks (walk d)) test

  -- where they do, the marks stay
  pub check-refused : (Ready lent marks → ⊥) → (refusal : Refusal) × (check lent kind marks ≡ refused_at_once refusal marks)
  unfolding check
  check-refused not_ready = by (passed lent) refl
    where
      by : (r : Result Passed Refusal) → passed lent ≡ r → (refusal : Refusal) × (check_root kind marks r ≡ refused_at_once refusal marks)
      by (Err refusal) opens = (refusal, refl)
      by (Ok d) opens = short (nat_lt (length marks) (records_in d.allocation)) refl
        where
          short : (b : Bool) → nat_lt (length marks) (records_in d.allocation) ≡ b
              → (refusal : Refusal) × ((if b then refused_at_once MarksTooShort marks else settled (records_in d.allocation) marks (walk d))
              ≡ refused_at_once refusal marks)
          short true test = (MarksTooShort, refl)
          short false test = absurd (not_ready (record { d = d; no_1_to_7 = opens; no_21 = grind (arith, common_steps) }))

  -- a pass is a sound directory
  root-ready : (r : Result Passed Refusal) (count : ℕ) → passed lent ≡ r → (check_root kind marks r).verdict ≡ Ok count → Ready lent marks
  root-ready (Err refusal) count opens ok = absurd (let P : ⊥ = cc in P)
  root-ready (Ok d) count opens ok = by (nat_lt (length marks) (records_in d.allocation)) refl ok
    where
      by : (short : Bool) → nat_lt (length marks) (records_in d.allocation) ≡ short
          → (if short then refused_at_once MarksTooShort marks else settled (records_in d.allocation) marks (walk d)).verdict ≡ Ok count → Ready lent marks
      by true test ok = absurd (let P : ⊥ = cc in P)
      by false test ok = record { d = d; no_1_to_7 = opens; no_21 = grind (arith, common_steps) }

  check-ready : (count : ℕ) → (check lent kind marks).verdict ≡ Ok count → Ready lent marks
  unfolding check
  check-ready count ok = root-ready (passed lent) count refl ok

  -- on a later fault the marks are the cleared ones
  pub check-broken : (ready : Ready lent marks) (its : Fault) → (check lent kind marks).verdict ≡ Err its
      → (check lent kind marks).marks ≡ cleared (records_in ready.d.allocation) marks
  check-broken ready its broken =
      let d = ready.d in
      let is = check-walk d (ready.no_1_to_7) (ready.no_21) in
      ap (λ (c : Checked). c.marks) is
      ∙ settled-broken (records_in d.allocation) marks (walk d) its (sym (ap (λ (c : Checked). c.verdict) is) ∙ broken)

  ready-sound : (ready : Ready lent marks) (count : ℕ) → (check lent kind marks).verdict ≡ Ok count → IsSound lent kind
  unfolding check_from
  ready-sound ready count ok =
      let d = ready.d in
      let most = records_in d.allocation in
      let room = ready.no_21 in
      let long = length-cleared most marks room in
      let its = settled-ok most marks (walk d) count (sym (ap (λ (c : Checked). c.verdict) (check-walk d (ready.no_1_to_7) room)) ∙ ok) in
      let all = passed-nodes d kind (passed-sizes lent d (ready.no_1_to_7)) below_root (root_node d).end (root_node d).start (entries_of (root_node d))
      (begun d) (its.0) (omega arith)
      (sym (check_entries-node kind d below_root (root_node d).end (root_node d).start (entries_of (root_node d)) (begun d)) ∙ its.1) in
      record { d = d; opens = ready.no_1_to_7; tree = all.tree; once = no_repeat (cleared most marks) (records (all.tree)) (all.fresh); rises = all.rises }

  abbrev marks_of : (sound : IsSound lent kind) → List ℕ
  marks_of sound = mark_all (records (sound.tree)) (cleared (records_in sound.d.allocation) marks)

  -- and a sound directory passes
  sound-checks : (sound : IsSound lent kind) → records_in sound.d.allocation ≤ length marks
      → check lent kind marks ≡ record { verdict = Ok (length (records (sound.tree))); marks = marks_of sound }
  unfolding check_from
  sound-checks sound room =
      let d = sound.d in
      let t = sound.tree in
      let most = records_in d.allocation in
      let long = length-cleared most marks room in
      let fresh = fresh-from most (cleared most marks) (records t) (omega arith) (cleared-zero most marks)
      (records-below d kind (passed-sizes lent d (sound.opens)) t) (sound.once) in
      let its = passes d kind t (begun d) (sound.rises) fresh in
      let count : its.after.opened ≡ length (records t) = its.opened ∙ omega arith in
      check-walk d (sound.opens) room
      ∙ ap (settled most marks) (check_entries-node kind d below_root (root_node d).end (root_node d).start (entries_of (root_node d)) (begun d) ∙ its.is)
      ∙ (λ i. record { verdict = Ok (count i); marks = its.marks i })

  -- a sound directory is a sorted one
  sound-sorted : (sound : IsSound lent kind) → records_in sound.d.allocation ≤ length marks → Sorted kind lent marks
  sound-sorted sound room = record {
    ready = record { d = sound.d; no_1_to_7 = sound.opens; no_21 = room };
    fit = tree-fit (sound.d) kind (root_node (sound.d)) below_root (sound.tree) (sound.once) (sound.rises);
  }

  pub sorted-sound : Sorted kind lent marks → IsSound lent kind
  sorted-sound sorted =
      let d = sorted.ready.d in
      let its = fit-tree d kind below_root (root_node d) (sorted.fit) in
      record { d = d; opens = sorted.ready.no_1_to_7; tree = its.tree; once = its.once; rises = its.rises }

  pub check-sorted : (count : ℕ) → (check lent kind marks).verdict ≡ Ok count → Sorted kind lent marks
  unfolding ready-sound
  check-sorted count ok = let ready = check-ready count ok in let sound = ready-sound ready count ok in sound-sorted sound (ready.no_21)

  sorted-checks : (sorted : Sorted kind lent marks) → (count : ℕ) × ((check lent kind marks).verdict ≡ Ok count)
  unfolding sorted-sound
  sorted-checks sorted = let sound = sorted-sound sorted in
      (length (records (sound.tree)), ap (λ (c : Checked). c.verdict) (sound-checks sound (sorted.ready.no_21)))

  -- its marks
  sound-reached : (sound : IsSound lent kind) → reached_of lent ≡ records (sound.tree)
  unfolding reached_of reached
  sound-reached sound = ap reached_root (sound.opens) ∙ tree-reached (sound.d) kind (sound.tree)

  ready-records : (d : Passed) → passed lent ≡ Ok d → records_of lent ≡ records_in d.allocation
  unfolding records_of
  ready-records d opens = ap records_of_passed opens

  sound-marked : (sound : IsSound lent kind) → records_in sound.d.allocation ≤ length marks → Marked lent marks (marks_of sound) (length (records (sound.tree)))
  sound-marked sound room =
      let d = sound.d in
      let most = records_in d.allocation in
      let xs = records (sound.tree) in
      let start = cleared most marks in
      let same = sound-reached sound in
      let all = ready-records d (sound.opens) in
      let long = length-cleared most marks room in
      let below = records-below d kind (passed-sizes lent d (sound.opens)) (sound.tree) in
      let its : (i : ℕ) → Contains (reached_of lent) i → Contains xs i = λ i has. let P : List ℕ → Type 0 = λ l. Contains l i in subst P same has in
      let back : (i : ℕ) → Contains xs i → Contains (reached_of lent) i = λ i has. let P : List ℕ → Type 0 = λ l. Contains l i in subst P (sym same) has in
      record {
        counted = ap length (sym same);
        size = length-mark_all xs start ∙ long;
        inside = λ i has. let low = below-contains most xs i below (its i has) in omega arith;
        ones = λ i has. mark_all-one most xs start i (omega arith) below (sound.once) (its i has);
        zeros = λ i low without. mark_all-none xs start i (λ has. without (back i has)) ∙ cleared-zero most marks i (omega arith);
        beyond = λ i past. mark_all-none xs start i (λ has. let low = below-contains most xs i below has in omega arith)
            ∙ cleared-beyond most marks i (omega arith);
      }

  pub check-marked : (count : ℕ) → (check lent kind marks).verdict ≡ Ok count → Marked lent marks (check lent kind marks).marks count
  unfolding ready-sound
  check-marked count ok =
      let ready = check-ready count ok in
      let sound = ready-sound ready count ok in
      let is = sound-checks sound (ready.no_21) in
      let counted : Ok (length (records (sound.tree))) ≡ Ok count = sym (ap (λ (c : Checked). c.verdict) is) ∙ ok in
      let same : length (records (sound.tree)) ≡ count = cc in
      let P : ℕ → Type 0 = λ n. Marked lent marks (marks_of sound) n in
      let Q : List ℕ → Type 0 = λ m. Marked lent marks m count in
      subst Q (sym (ap (λ (c : Checked). c.marks) is)) (subst P same (sound-marked sound (ready.no_21)))

  pub check-cleared : Ready lent marks → (its : Fault) → (check lent kind marks).verdict ≡ Err its → Cleared lent marks (check lent kind marks).marks
  check-cleared ready its broken =
      let d = ready.d in
      let most = records_in d.allocation in
      let room = ready.no_21 in
      let is = check-walk d (ready.no_1_to_7) room in
      let after : (check lent kind marks).marks ≡ cleared most marks = ap (λ (c : Checked). c.marks) is
      ∙ settled-broken most marks (walk d) its (sym (ap (λ (c : Checked). c.verdict) is) ∙ broken) in
      let all = ready-records d (ready.no_1_to_7) in
      let P : List ℕ → Type 0 = λ m. Cleared lent marks m in
      subst P (sym after) (record {
        size = length-cleared most marks room;
        zeros = λ i low. cleared-zero most marks i (omega arith);
        beyond = λ i past. cleared-beyond most marks i (omega arith);
      })

pub pass_for : {K : Type 0} (kind : Kind K) → PassFor kind
pass_for kind lent marks = (λ its. check-sorted lent kind marks (its.0) (its.1), λ sorted. sorted-checks lent kind marks sorted)

pub pass_for_any_kind : PassForAnyKind
pass_for_any_kind K kind = pass_for kind

-- file names: 19 before all else
table-whole : (lent : Lent) (table marks : List ℕ) → length table ≡ table_size
    → check_file_names lent table marks ≡ check lent (file_names (mapped_by table)) marks
unfolding check_file_names
table-whole lent table marks whole =
    let test : nat_eq (length table) table_size ≡ true = grind (arith, common_steps) in
    ap (λ b. if not b then refused_at_once TableLength marks else check lent (file_names (mapped_by table)) marks) test

table-broken : (lent : Lent) (table marks : List ℕ) → (length table ≡ table_size → ⊥) → check_file_names lent table marks ≡ refused_at_once TableLength marks
unfolding check_file_names
table-broken lent table marks broken = by (nat_eq (length table) table_size) refl
  where
    by : (b : Bool) → nat_eq (length table) table_size ≡ b
        → (if not b then refused_at_once TableLength marks else check lent (file_names (mapped_by table)) marks) ≡ refused_at_once TableLength marks
    by true test = absurd (broken (grind (arith, common_steps)))
    by false test = refl

pub table-passed : (lent : Lent) (table marks : List ℕ) (count : ℕ) → (check_file_names lent table marks).verdict ≡ Ok count → length table ≡ table_size
unfolding check_file_names
table-passed lent table marks count ok = by (nat_eq (length table) table_size) refl ok
  where
    by : (b : Bool) → nat_eq (length table) table_size ≡ b
        → (if not b then refused_at_once TableLength marks else check lent (file_names (mapped_by table)) marks).verdict ≡ Ok count → length table ≡ table_size
    by true test ok = grind (arith, common_steps)
    by false test ok = absurd (let P : ⊥ = cc in P)

pub passes-sorted : (lent : Lent) (table marks : List ℕ) → Passes table lent marks → Sorted (file_names (mapped_by table)) lent marks
passes-sorted lent table marks its =
    check-sorted lent (file_names (mapped_by table)) marks (its.0)
    (sym (ap (λ (c : Checked). c.verdict) (table-whole lent table marks (table-passed lent table marks (its.0) (its.1)))) ∙ its.1)

pub pass : Pass
pass table lent marks = (
  λ its. (table-passed lent table marks (its.0) (its.1), passes-sorted lent table marks its),
  λ both.
      let its = sorted-checks lent (file_names (mapped_by table)) marks (both.1) in
      (its.0, ap (λ (c : Checked). c.verdict) (table-whole lent table marks (both.0)) ∙ its.1),
)

pub marks_after_a_pass : Marks
marks_after_a_pass table lent marks count ok =
    let same = table-whole lent table marks (table-passed lent table marks count ok) in
    let P : Checked → Type 0 = λ c. Marked lent marks (c.marks) count in
    subst P (sym same) (check-marked lent (file_names (mapped_by table)) marks count (sym (ap (λ (c : Checked). c.verdict) same) ∙ ok))

pub marks_unchanged : MarksUnchanged
marks_unchanged table lent marks not_ready = by (nat_eq (length table) table_size) refl
  where
    by : (b : Bool) → nat_eq (length table) table_size ≡ b
        → (refusal : Refusal) × (check_file_names lent table marks ≡ record { verdict = Err (fault_of refusal 0); marks = marks })
    by true test =
        let whole : length table ≡ table_size = grind (arith, common_steps) in
        let its = check-refused lent (file_names (mapped_by table)) marks (λ ready. not_ready (whole, ready)) in
        (its.0, table-whole lent table marks whole ∙ its.1)
    by false test = (TableLength, table-broken lent table marks (λ whole. let P : ⊥ = grind (arith, common_steps) in P))

pub marks_after_a_fault : MarksCleared
marks_after_a_fault table lent marks whole ready refusal count broken =
    let same = table-whole lent table marks whole in
    let P : Checked → Type 0 = λ c. Cleared lent marks (c.marks) in
    subst P (sym same) (check-cleared lent (file_names (mapped_by table)) marks ready (fault_of refusal count)
    (sym (ap (λ (c : Checked). c.verdict) same) ∙ broken))
