-- What is found in a directory that has passed.
use Rattle.std.proofs.Common.{ℕ, ◌≡◌, ◌≤◌, ◌↔◌, true, false, nat_lt, nat_eq, List, length, refl, sym, ◌∙◌, ap, subst, arith, ◌⊎◌, inl, inr, Ok}
use Rattle.std.specs.Cmp.{IsTotalOrder}
use Rattle.std.proofs.lemmas.Grind.{common_steps}
use Rattle.upcase_table.specs.Names.{name_order-total}
use Rattle.upcase_table.specs.UpcaseTable.{table_size, mapped_by}
use Rattle.collation.specs.Kind.{Kind}
use Rattle.collation.specs.Names.{name_limit, file_names}
use Rattle.directory.specs.Answer.{Answered, none}
use Rattle.directory.specs.Directory.{root_node, spent_at}
use Rattle.directory.specs.Lent.{Lent, EntryPlaced}
use Rattle.directory.specs.Limits.{below_root}
use Rattle.directory.specs.Node.{entries_of}
use Rattle.index_finder.specs.Find.{find, find_in}
use Rattle.index_finder.specs.FileNames.{find_file_name}
use Rattle.index.specs.Listing.{list_in, listing}
use Rattle.sound.specs.Fit.{yielded}
use Rattle.sound.specs.Found.{Holds, Finds, full_entries, FoundIffListed, FoundOrNot, FoundFor, FoundForAnyKind}
use Rattle.sound.specs.Keys.{keys_of}
use Rattle.sound.specs.Sorted.{Sorted}
use Rattle.index_run.specs.More.{never}
use Rattle.sound.specs.Tree.{Searched, hit, miss, items, keys}
use Rattle.sound.proofs.Fit.{tree-listed}
use Rattle.sound.proofs.Keys.{keys_of-contains}
use Rattle.sound.proofs.Tree.{keys_of-items, none_lost_for}
use Rattle.sound.proofs.Whole.{sorted-sound, table-passed, passes-sorted}
use Rattle.sound.proofs.WellTree.{IsSound, tree_of}

module _ {K : Type 0} (kind : Kind K) (sought : K) where
  -- a search says whether there is one that is equal
  pub searched-holds : (entries : List EntryPlaced) (answer : Answered) → Searched kind sought entries (keys_of kind entries) answer → Holds kind sought entries
      → Finds kind sought entries answer
  searched-holds entries answer (hit entry o is member equals) holds =
      record { holds = record { entry = entry; member = member; equals = equals }; count = o; is = is }
  searched-holds entries answer (miss o is not_equal) holds =
      let its = holds.equals in absurd (not_equal (its.0) (keys_of-contains kind entries (holds.entry) (its.0) (holds.member) (its.1)) (its.2))

  pub searched-or_not : (entries : List EntryPlaced) (answer : Answered) → Searched kind sought entries (keys_of kind entries) answer
      → Finds kind sought entries answer ⊎ ((count : ℕ) × (answer ≡ none count))
  searched-or_not entries answer (hit entry o is member equals) =
      inl (record { holds = record { entry = entry; member = member; equals = equals }; count = o; is = is })
  searched-or_not entries answer (miss o is not_equal) = inr (o, is)

  -- a lookup searches the full listing
  sound-searched : (lent : Lent) (allowance : ℕ) → IsTotalOrder kind.order → below_root ≤ allowance → IsSound lent kind
      → Searched kind sought (full_entries lent) (keys_of kind (full_entries lent)) (find lent (spent_at allowance) kind sought)
  unfolding find listing
  sound-searched lent allowance total many sound =
      let d = sound.d in
      let t = tree_of (sound.tree) in
      let listed : full_entries lent ≡ items t = ap (λ r. yielded (list_in never r)) (sound.opens) ∙ tree-listed d kind (sound.tree) in
      let named : keys_of kind (full_entries lent) ≡ keys t = ap (keys_of kind) listed ∙ keys_of-items d kind t in
      let looked = ap (find_in (spent_at allowance) kind sought) (sound.opens) in
      let its = none_lost_for kind sought total d below_root (entries_of (root_node d)) t allowance many (sound.rises) in
      let P : Answered → Type 0 = λ a. Searched kind sought (full_entries lent) (keys_of kind (full_entries lent)) a in
      let Q : List EntryPlaced → Type 0 = λ xs. Searched kind sought xs (keys_of kind (full_entries lent)) (find_in (spent_at allowance) kind sought (Ok d)) in
      let R : List K → Type 0 = λ ks. Searched kind sought (items t) ks (find_in (spent_at allowance) kind sought (Ok d)) in
      subst P (sym looked) (subst Q (sym listed) (subst R (sym named) its))

pub found_for : {K : Type 0} (kind : Kind K) → FoundFor kind
found_for kind total sought lent marks allowance sorted many = (
  λ finds. finds.holds,
  searched-holds kind sought (full_entries lent) (find lent (spent_at allowance) kind sought)
      (sound-searched kind sought lent allowance total many (sorted-sound lent kind marks sorted)),
)

pub found_for_any_kind : FoundForAnyKind
found_for_any_kind K kind = found_for kind

pub found_or_not_for : {K : Type 0} (kind : Kind K) → IsTotalOrder kind.order → (sought : K) (lent : Lent) (marks : List ℕ) (allowance : ℕ)
    → Sorted kind lent marks → below_root ≤ allowance
    → Finds kind sought (full_entries lent) (find lent (spent_at allowance) kind sought)
    ⊎ ((count : ℕ) × (find lent (spent_at allowance) kind sought ≡ none count))
found_or_not_for kind total sought lent marks allowance sorted many =
    searched-or_not kind sought (full_entries lent) (find lent (spent_at allowance) kind sought)
    (sound-searched kind sought lent allowance total many (sorted-sound lent kind marks sorted))

-- 19 and 20 do not arise
name-found : (lent : Lent) (table name : List ℕ) (allowance : ℕ) → length table ≡ table_size → length name ≤ name_limit
    → find_file_name lent (spent_at allowance) table name ≡ find lent (spent_at allowance) (file_names (mapped_by table)) name
unfolding find_file_name
name-found lent table name allowance whole short =
    let test : nat_eq (length table) table_size ≡ true = grind (arith, common_steps) in
    let fits : nat_lt name_limit (length name) ≡ false = grind (arith, common_steps) in
    rw (test, fits) refl

pub found_iff_listed : FoundIffListed
found_iff_listed table name lent marks allowance passes many short =
    let kind = file_names (mapped_by table) in
    let same = name-found lent table name allowance (table-passed lent table marks (passes.0) (passes.1)) short in
    let P : Answered → Type 0 = λ a. Finds kind name (full_entries lent) a ↔ Holds kind name (full_entries lent) in
    subst P (sym same) (found_for kind (name_order-total (mapped_by table)) name lent marks allowance (passes-sorted lent table marks passes) many)

pub found_or_not : FoundOrNot
found_or_not table name lent marks allowance passes many short =
    let kind = file_names (mapped_by table) in
    let same = name-found lent table name allowance (table-passed lent table marks (passes.0) (passes.1)) short in
    let P : Answered → Type 0 = λ a. Finds kind name (full_entries lent) a ⊎ ((count : ℕ) × (a ≡ none count)) in
    subst P (sym same) (found_or_not_for kind (name_order-total (mapped_by table)) name lent marks allowance (passes-sorted lent table marks passes) many)
