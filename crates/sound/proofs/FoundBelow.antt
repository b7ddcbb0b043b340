-- What is found below a node of any number of levels, where all below it is well formed and its names never fall.
use Rattle.std.proofs.Common.{zero, suc, sub-one, ℕ, ◌≡◌, ◌-◌, ◌≤◌, ◌↔◌, List, sym, ◌∙◌, ap, subst, arith, ◌⊎◌}
use Rattle.std.specs.Cmp.{IsTotalOrder}
use Rattle.collation.specs.Kind.{Kind}
use Rattle.directory.specs.Answer.{Answered, none}
use Rattle.directory.specs.Directory.{spent_at}
use Rattle.directory.specs.Lent.{Passed, EntryPlaced, NodeSeen}
use Rattle.directory.specs.Node.{entries_of}
use Rattle.index_finder.specs.Find.{find_below}
use Rattle.index.specs.Listing.{list_below}
use Rattle.index_run.specs.More.{never}
use Rattle.sound.specs.Fit.{yielded, Fit, here}
use Rattle.sound.specs.Found.{Holds, Finds}
use Rattle.sound.specs.Keys.{keys_of}
use Rattle.sound.specs.Tree.{Searched, items, keys}
use Rattle.sound.proofs.Fit.{fit-tree, tree-listed}
use Rattle.sound.proofs.Found.{searched-holds, searched-or_not}
use Rattle.sound.proofs.Tree.{keys_of-items, none_lost_for}
use Rattle.sound.proofs.WellTree.{tree_of}

module _ (d : Passed) {K : Type 0} (kind : Kind K) (sought : K) where
  -- the entries listed below a node, and a lookup's answer there
  abbrev pub listed : (left : ℕ) → NodeSeen → List EntryPlaced
  listed left node = yielded (list_below d never left (entries_of node) 0)

  abbrev pub answered : (left allowance : ℕ) → NodeSeen → Answered
  answered left allowance node = find_below d (spent_at allowance) kind sought left (entries_of node) 0

  abbrev IsSearched : (left allowance : ℕ) → NodeSeen → Type 0
  IsSearched left allowance node = Searched kind sought (listed left node) (keys_of kind (listed left node)) (answered left allowance node)

  module _ (total : IsTotalOrder kind.order) where
    tree-searched : (left allowance : ℕ) (node : NodeSeen) → left ≤ allowance → Fit d kind (suc left) node → IsSearched left allowance node
    tree-searched left allowance node few fit =
        let its = fit-tree d kind left node fit in
        let t = tree_of (its.tree) in
        let same : listed left node ≡ items t = tree-listed d kind (its.tree) in
        let named : keys_of kind (listed left node) ≡ keys t = ap (keys_of kind) same ∙ keys_of-items d kind t in
        let P : List EntryPlaced → Type 0 = λ xs. Searched kind sought xs (keys_of kind (listed left node)) (answered left allowance node) in
        let Q : List K → Type 0 = λ ks. Searched kind sought (items t) ks (answered left allowance node) in
        subst P (sym same) (subst Q (sym named) (none_lost_for kind sought total d left (entries_of node) t allowance few (its.rises)))

    -- the node itself is a level
    fit-searched : (levels allowance : ℕ) (node : NodeSeen) → levels ≤ suc allowance → Fit d kind levels node → IsSearched (levels - 1) allowance node
    fit-searched zero allowance node few fit = absurd (let none = fit.at_most 0 node (here node) in omega arith)
    fit-searched (suc left) allowance node few fit =
        let P : ℕ → Type 0 = λ n. IsSearched n allowance node in
        subst P (sym (sub-one (suc left))) (tree-searched left allowance node (omega arith) fit)

    pub found_iff_listed_below : (levels allowance : ℕ) (node : NodeSeen) → levels ≤ suc allowance → Fit d kind levels node
        → Finds kind sought (listed (levels - 1) node) (answered (levels - 1) allowance node) ↔ Holds kind sought (listed (levels - 1) node)
    found_iff_listed_below levels allowance node few fit = (
      λ finds. finds.holds,
      searched-holds kind sought (listed (levels - 1) node) (answered (levels - 1) allowance node) (fit-searched levels allowance node few fit),
    )

    pub found_or_not_below : (levels allowance : ℕ) (node : NodeSeen) → levels ≤ suc allowance → Fit d kind levels node
        → Finds kind sought (listed (levels - 1) node) (answered (levels - 1) allowance node)
        ⊎ ((count : ℕ) × (answered (levels - 1) allowance node ≡ none count))
    found_or_not_below levels allowance node few fit =
        searched-or_not kind sought (listed (levels - 1) node) (answered (levels - 1) allowance node) (fit-searched levels allowance node few fit)
