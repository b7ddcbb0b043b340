-- A directory that is a finite tree: a listing lists its entries, and a lookup searches their names.
use Rattle.std.proofs.Common.{suc, ℕ, ◌≡◌, ◌+◌, ◌<◌, ◌≤◌, Bool, false, List, ◌∷◌, ◌++◌, refl, sym, ◌∙◌, ap, subst, arith, Option, Some}
use Rattle.std.proofs.Common.{None, Ok}
use Rattle.std.specs.Cmp.{IsTotalOrder}
use Rattle.index_entry.specs.Entry.{key_of}
use Rattle.collation.specs.Kind.{Kind}
use Rattle.directory.specs.Answer.{Answered, none}
use Rattle.directory.specs.Directory.{spent_at}
use Rattle.directory.specs.Lent.{Passed, EntryPlaced}
use Rattle.directory.specs.Node.{Entries}
use Rattle.index_finder.specs.Find.{find_below}
use Rattle.index.specs.Listing.{Listing, list_node}
use Rattle.index_run.proofs.Remaining.{list_down, list_below-node}
use Rattle.sound.specs.Fit.{yielded}
use Rattle.sound.specs.Keys.{read_as, key_read, keys_of, NeverFall}
use Rattle.index_run.specs.More.{never}
use Rattle.sound.specs.Tree.{Tree, out, end, down, leaf, fork, items, keys, Lists, lists_none, lists_one, Searched, hit, miss, TreeListed}
use Rattle.sound.specs.Tree.{TreeListedFor, TreeListedForAnyKind, NoneLost, NoneLostFor, NoneLostForAnyKind}
use Rattle.sound.specs.AnyDirectory as any
use Rattle.sound.specs.AnyDirectory.{dir_of}
use Rattle.sound.proofs.AnyDirectory as in_any
use Rattle.sound.proofs.AnyDirectory.{Ends, spent-late}
use Rattle.sound.proofs.CodeWalks.{leads-any, code_lists_so, code_finds_so_for}
use Rattle.sound.proofs.Keys.{is-named, keys_of-named, keys_of-append}

pub yielded-lists : {l : Listing} {xs : List EntryPlaced} {n : ℕ} → Lists l xs n → yielded l ≡ xs
unfolding yielded
yielded-lists (lists_none o) = refl
yielded-lists (lists_one entry o rest xs n its) = ap (λ more. entry ∷ more) (yielded-lists its)

module _ (d : Passed) {K : Type 0} (kind : Kind K) where
  read-same : (entry : List ℕ) (name : K) → key_read kind entry ≡ Ok (Some name) → read_as kind (key_of entry) ≡ Ok (Some name)
  unfolding key_read
  read-same entry name named = named

  -- the same tree in the directory as functions give it
  abbrev wide : {left : ℕ} {es : Entries} → Tree d kind left es → any.TreeIn (dir_of d) kind (suc left) es
  wide (out left) = any.out left
  wide (end left entry rest last alone) = any.end left entry rest last alone
  wide (down left entry rest last node leads below) = any.down (suc left) entry rest last node (leads-any d entry.bytes node leads) (wide below)
  wide (leaf left entry rest name named alone more) =
      any.leaf left entry rest name ((is-named kind entry.bytes name named).goes_on) (read-same entry.bytes name named) alone (wide more)
  wide (fork left entry rest name named node leads below more) =
      any.fork (suc left) entry rest name ((is-named kind entry.bytes name named).goes_on) (read-same entry.bytes name named) node
      (leads-any d entry.bytes node leads) (wide below) (wide more)

  wide-items : {left : ℕ} {es : Entries} (t : Tree d kind left es) → any.items_in (wide t) ≡ items t
  wide-items (out left) = refl
  wide-items (end left entry rest last alone) = refl
  wide-items (down left entry rest last node leads below) = wide-items below
  wide-items (leaf left entry rest name named alone more) = ap (λ xs. entry ∷ xs) (wide-items more)
  wide-items (fork left entry rest name named node leads below more) = λ i. wide-items below i ++ entry ∷ wide-items more i

  wide-keys : {left : ℕ} {es : Entries} (t : Tree d kind left es) → any.keys_in (wide t) ≡ keys t
  wide-keys (out left) = refl
  wide-keys (end left entry rest last alone) = refl
  wide-keys (down left entry rest last node leads below) = wide-keys below
  wide-keys (leaf left entry rest name named alone more) = ap (λ xs. name ∷ xs) (wide-keys more)
  wide-keys (fork left entry rest name named node leads below more) = λ i. wide-keys below i ++ name ∷ wide-keys more i

  -- the listing yields the tree's entries
  pub tree-ends : {left : ℕ} {es : Entries} (t : Tree d kind left es) (o : ℕ) → Ends (list_node (list_down d never left) es o) (items t)
  tree-ends {left} {es} t o =
      let P : Listing → Type 0 = λ l. Ends l (any.items_in (wide t)) in
      let Q : List EntryPlaced → Type 0 = λ xs. Ends (list_node (list_down d never left) es o) xs in
      subst Q (wide-items t)
      (subst P (sym (code_lists_so d never left es o) ∙ list_below-node d never left es o) (in_any.tree-ends (dir_of d) kind (wide t) o))

  -- the names of its entries are its names
  pub keys_of-items : {left : ℕ} {es : Entries} (t : Tree d kind left es) → keys_of kind (items t) ≡ keys t
  unfolding keys_of
  keys_of-items (out left) = refl
  keys_of-items (end left entry rest last alone) = refl
  keys_of-items (down left entry rest last node leads below) = keys_of-items below
  keys_of-items (leaf left entry rest name named alone more) = keys_of-named kind entry (items more) name named ∙ ap (λ xs. name ∷ xs) (keys_of-items more)
  keys_of-items (fork left entry rest name named node leads below more) =
      keys_of-append kind (items below) (entry ∷ items more)
      ∙ ap (λ xs. xs ++ keys_of kind (entry ∷ items more)) (keys_of-items below)
      ∙ ap (λ xs. keys below ++ xs) (keys_of-named kind entry (items more) name named ∙ ap (λ xs. name ∷ xs) (keys_of-items more))

  module _ (sought : K) (total : IsTotalOrder kind.order) (most : ℕ) (spent : ℕ → Bool) (fresh : (o : ℕ) → o < most → spent o ≡ false) where
    narrow : {xs : List EntryPlaced} {ks : List K} {answer : Answered} → any.SearchedIn (dir_of d) kind sought xs ks answer → Searched kind sought xs ks answer
    unfolding key_read
    narrow (any.hit entry o is has equal) = hit entry o is has equal
    narrow (any.miss o is none) = miss o is none

    -- the lookup searches the tree's names
    pub tree-finds : {left : ℕ} {es : Entries} (t : Tree d kind left es) (o : ℕ) (before : Option K) → o + left ≤ most → NeverFall kind.order before (keys t)
        → Searched kind sought (items t) (keys t) (find_below d spent kind sought left es o)
    tree-finds {left} {es} t o before few rises =
        let P : Answered → Type 0 = λ a. Searched kind sought (any.items_in (wide t)) (any.keys_in (wide t)) a in
        let Q : List EntryPlaced → Type 0 = λ xs. Searched kind sought xs (any.keys_in (wide t)) (find_below d spent kind sought left es o) in
        let R : List K → Type 0 = λ ks. Searched kind sought (items t) ks (find_below d spent kind sought left es o) in
        let N : List K → Type 0 = NeverFall kind.order before in
        let its = in_any.tree-finds (dir_of d) kind sought total most spent fresh (wide t) o before (omega arith) (subst N (sym (wide-keys t)) rises) in
        subst R (wide-keys t) (subst Q (wide-items t) (subst P (sym (code_finds_so_for kind d spent sought left es o)) (narrow its)))

pub tree_listed_for : {K : Type 0} (kind : Kind K) → TreeListedFor kind
tree_listed_for kind d left es t =
    let its = tree-ends d kind t 0 in
    let P : Listing → Type 0 = λ l. Ends l (items t) in subst P (sym (list_below-node d never left es 0)) its

pub tree_listed_for_any_kind : TreeListedForAnyKind
tree_listed_for_any_kind K kind = tree_listed_for kind

pub tree_listed : TreeListed
tree_listed kind = tree_listed_for kind

pub none_lost_for : {K : Type 0} (kind : Kind K) → NoneLostFor kind
none_lost_for kind sought total d left es t allowance few rises =
    tree-finds d kind sought total allowance (spent_at allowance) (spent-late allowance) t 0 None (omega arith) rises

pub none_lost_for_any_kind : NoneLostForAnyKind
none_lost_for_any_kind K kind = none_lost_for kind

pub none_lost : NoneLost
none_lost kind = none_lost_for kind
