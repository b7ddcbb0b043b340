-- In any directory that is a finite tree a listing lists its entries, and a lookup searches their names.
use Rattle.std.proofs.Common.{suc, ℕ, ℤ, ◌≡◌, ◌+◌, ◌<◌, ◌≤◌, nat_eq, Bool, true, false, List, [], ◌∷◌, ◌++◌, refl, sym, ◌∙◌, ap, subst, arith}
use Rattle.std.proofs.Common.{Option, Some, None, Result, Ok, Err, Ordering, Less, Equal, Greater}
use Rattle.std.specs.Cmp.{IsTotalOrder}
use Rattle.std.proofs.lemmas.Grind.{common_steps}
use Rattle.std.proofs.lemmas.List.Elements.{Contains-append_left, Contains-append_right}
use Rattle.refusal.specs.declared.Refusal.{Refusal}
use Rattle.refusal.specs.Then.{◌>>=◌}
use Rattle.collation.specs.Kind.{Kind}
use Rattle.directory.specs.Answer.{Answered, none}
use Rattle.directory.specs.Directory.{spent_at}
use Rattle.directory.specs.Lent.{EntryPlaced, NodeSeen}
use Rattle.directory.specs.Node.{Entries}
use Rattle.index_finder.specs.Find.{stands_to, choose}
use Rattle.index.specs.Listing.{Listing, and_then, list_entry}
use Rattle.index_run.specs.More.{never}
use Rattle.sound.specs.AnyDirectory.{Dir, opening, opening_of, subnode, LeadsIn, list_subnode, list_node, list, into, stands_at, find}
use Rattle.sound.specs.AnyDirectory.{TreeIn, out, end, down, leaf, fork, items_in, keys_in, SearchedIn, hit, miss}
use Rattle.sound.specs.AnyDirectory.{TreeListedInAnyDirectory, TreeListedInAnyDirectoryFor, TreeListedInAnyDirectoryForAnyKind}
use Rattle.sound.specs.AnyDirectory.{NoneLostInAnyDirectory, NoneLostInAnyDirectoryFor, NoneLostInAnyDirectoryForAnyKind}
use Rattle.sound.specs.Keys.{read_as, NeverFall, NoneEqual}
use Rattle.sound.specs.Tree.{Lists, lists_none, lists_one}
use Rattle.sound.proofs.Elements.{contains-here, contains-there}
use Rattle.sound.proofs.Names.{none-nil, none-cons, none-append, none-to, none-from, rises-to, rises-front, rises-back, rises-from}

-- a listing that comes to its end with these entries, and goes on with others
abbrev pub Ends : Listing → List EntryPlaced → Type 0
Ends l entries = (n : ℕ) × Lists l entries n

pub ends-then : {l : Listing} {xs : List EntryPlaced} {n : ℕ} → Lists l xs n → (ys : List EntryPlaced) (next : ℕ → Listing) → ((o : ℕ) → Ends (next o) ys)
    → Ends (and_then l next) (xs ++ ys)
ends-then (lists_none o) ys next more = more o
ends-then (lists_one entry o rest xs n its) ys next more = let then_more = ends-then its ys next more in
    (then_more.0, lists_one entry o (and_then rest next) (xs ++ ys) (then_more.0) (then_more.1))

append-nil : (xs : List EntryPlaced) → xs ++ [] ≡ xs
append-nil [] = refl
append-nil (x ∷ xs) = ap (λ ys. x ∷ ys) (append-nil xs)

-- an allowance is not spent sooner
pub spent-late : (allowance o : ℕ) → o < allowance → spent_at allowance o ≡ false
spent-late allowance o low = grind (arith, common_steps)

module _ (d : Dir) where
  pub subnode-lone : (left : ℕ) (spent : Bool) (entry : List ℕ) → d.vcn entry ≡ Ok None → subnode d left spent entry ≡ Ok None
  unfolding subnode
  subnode-lone left spent entry alone = ap (opening_of d left spent) alone

  pub leads-opens : (left : ℕ) (entry : List ℕ) (node : NodeSeen) → LeadsIn d entry node → subnode d (suc left) false entry ≡ Ok (Some node)
  unfolding subnode opening
  leads-opens left entry node leads = by (d.vcn entry) ∙ leads
    where
      by : (vcn : Result (Option ℤ) Refusal) → opening_of d (suc left) false vcn ≡ opening_of d 1 false vcn
      by (Ok (Some vcn)) = let some : nat_eq (suc left) 0 ≡ false = grind (arith, common_steps) in rw some refl
      by (Ok None) = refl
      by (Err refusal) = refl

  -- what it takes to lead to a node: a VCN, a pool, and that the VCN leads there
  pub leads-when : (entry : List ℕ) (vcn : ℤ) (node : NodeSeen) → d.vcn entry ≡ Ok (Some vcn) → d.empty ≡ false → d.opens vcn ≡ Ok node → LeadsIn d entry node
  unfolding subnode opening
  leads-when entry vcn node says some opens = rw (says, some, opens) refl

module _ (d : Dir) {K : Type 0} (kind : Kind K) where
  pub tall : {levels : ℕ} {es : Entries} → TreeIn d kind levels es → (left : ℕ) × (levels ≡ suc left)
  tall (out left) = (left, refl)
  tall (end left entry rest last alone) = (left, refl)
  tall (down left entry rest last node leads below) = (left, refl)
  tall (leaf left entry rest name goes named alone more) = (left, refl)
  tall (fork left entry rest name goes named node leads below more) = (left, refl)

  -- above a tree what leads to a node may be opened
  pub opens-tree : {levels : ℕ} {es : Entries} → TreeIn d kind levels es → (entry : List ℕ) (node : NodeSeen) → LeadsIn d entry node
      → subnode d levels false entry ≡ Ok (Some node)
  opens-tree t entry node leads =
      let its = tall t in ap (λ n. subnode d n false entry) (its.1) ∙ leads-opens d (its.0) entry node leads

  abbrev list_at : ℕ → List ℕ → ℕ → Listing
  list_at left entry o = list_subnode d (λ below y. list d never left below y) (subnode d left (never o) entry) o

  last-ends : (entry : EntryPlaced) (rest : ℕ → Listing) (o : ℕ) → d.last entry.bytes ≡ true → Ends (list_entry (d.last entry.bytes) entry o (rest o)) []
  last-ends entry rest o last = rw last (o, lists_none o)

  named-ends : (entry : EntryPlaced) (rest : ℕ → Listing) (xs : List EntryPlaced) (o : ℕ) → d.last entry.bytes ≡ false → Ends (rest o) xs
      → Ends (list_entry (d.last entry.bytes) entry o (rest o)) (entry ∷ xs)
  named-ends entry rest xs o goes its = rw goes (its.0, lists_one entry o (rest o) xs (its.0) (its.1))

  here-ends : (left : ℕ) (entry : EntryPlaced) (rest : Entries) (o : ℕ) (xs : List EntryPlaced) → d.vcn entry.bytes ≡ Ok None
      → Ends (list_entry (d.last entry.bytes) entry o (list_node d (list_at left) rest o)) xs
      → Ends (list_node d (list_at left) (Ok entry ∷ rest) o) xs
  here-ends left entry rest o xs alone its =
      let P : Result (Option NodeSeen) Refusal → Type 0 = λ r. Ends
      (and_then (list_subnode d (λ below y. list d never left below y) r o)
      (λ x. list_entry (d.last entry.bytes) entry x (list_node d (list_at left) rest x))) xs in
      subst P (sym (subnode-lone d left false entry.bytes alone)) its

  below-ends : (left : ℕ) (entry : EntryPlaced) (rest : Entries) (node : NodeSeen) (o : ℕ) (xs ys : List EntryPlaced)
      → subnode d left false entry.bytes ≡ Ok (Some node)
      → Ends (list d never left (d.entries node) (o + 1)) xs
      → ((x : ℕ) → Ends (list_entry (d.last entry.bytes) entry x (list_node d (list_at left) rest x)) ys)
      → Ends (list_node d (list_at left) (Ok entry ∷ rest) o) (xs ++ ys)
  below-ends left entry rest node o xs ys leads its more =
      let P : Result (Option NodeSeen) Refusal → Type 0 = λ r. Ends
      (and_then (list_subnode d (λ below y. list d never left below y) r o)
      (λ x. list_entry (d.last entry.bytes) entry x (list_node d (list_at left) rest x))) (xs ++ ys) in
      subst P (sym leads) (ends-then (its.1) ys _ more)

  -- the listing yields the tree's entries
  pub tree-ends : {levels : ℕ} {es : Entries} (t : TreeIn d kind levels es) (o : ℕ) → Ends (list d never levels es o) (items_in t)
  unfolding list
  tree-ends (out left) o = (o, lists_none o)
  tree-ends (end left entry rest last alone) o = here-ends left entry rest o [] alone (last-ends entry (λ x. list_node d (list_at left) rest x) o last)
  tree-ends (down left entry rest last node leads below) o =
      let P : List EntryPlaced → Type 0 = λ xs. Ends (list_node d (list_at left) (Ok entry ∷ rest) o) xs in
      subst P (append-nil (items_in below))
      (below-ends left entry rest node o (items_in below) [] (opens-tree below entry.bytes node leads) (tree-ends below (o + 1))
      (λ x. last-ends entry (λ y. list_node d (list_at left) rest y) x last))
  tree-ends (leaf left entry rest name goes named alone more) o =
      here-ends left entry rest o (entry ∷ items_in more) alone
      (named-ends entry (λ x. list_node d (list_at left) rest x) (items_in more) o goes (tree-ends more o))
  tree-ends (fork left entry rest name goes named node leads below more) o =
      below-ends left entry rest node o (items_in below) (entry ∷ items_in more) (opens-tree below entry.bytes node leads) (tree-ends below (o + 1))
      (λ x. named-ends entry (λ y. list_node d (list_at left) rest y) (items_in more) x goes (tree-ends more x))

  module _ (sought : K) where
    stands-some : (entry : List ℕ) (name : K) → d.last entry ≡ false → read_as kind (d.key entry) ≡ Ok (Some name)
        → stands_at d kind sought (d.last entry) entry ≡ Ok (kind.order sought name)
    stands-some entry name goes named = ap (λ b. stands_at d kind sought b entry) goes ∙ by (d.key entry) named
      where
        reading : (r : Result K Refusal) → (r >>= λ x. Ok (Some x)) ≡ Ok (Some name) → (r >>= λ x. Ok (kind.order sought x)) ≡ Ok (kind.order sought name)
        reading (Ok x) is = let same : x ≡ name = cc in ap (λ y. Ok (kind.order sought y)) same
        reading (Err refusal) is = absurd (let P : ⊥ = cc in P)

        by : (key : Result (Option (List ℕ)) Refusal) → read_as kind key ≡ Ok (Some name) → stands_to kind sought key ≡ Ok (kind.order sought name)
        by (Ok (Some key)) is = reading (kind.reads key) is
        by (Ok None) is = absurd (let P : ⊥ = cc in P)
        by (Err refusal) is = absurd (let P : ⊥ = cc in P)

    module _ (total : IsTotalOrder kind.order) (most : ℕ) (spent : ℕ → Bool) (fresh : (o : ℕ) → o < most → spent o ≡ false) where
      abbrev lower : ℕ → Result (Option NodeSeen) Refusal → ℕ → Answered
      lower left sub o = into d (λ below y. find d spent kind sought left below y) sub o

      -- a lookup at an entry of which the key and the subnode are known
      found-at : (left : ℕ) (entry : EntryPlaced) (rest : Entries) (o : ℕ) (its : Result Ordering Refusal) (sub : Result (Option NodeSeen) Refusal)
          → stands_at d kind sought (d.last entry.bytes) entry.bytes ≡ its → subnode d left (spent o) entry.bytes ≡ sub
          → find d spent kind sought (suc left) (Ok entry ∷ rest) o
          ≡ choose its entry o (find d spent kind sought (suc left) rest o) (lower left sub o)
      unfolding find
      found-at left entry rest o its sub stand is =
          ap (λ r. choose r entry o (find d spent kind sought (suc left) rest o) (lower left (subnode d left (spent o) entry.bytes) o)) stand
          ∙ ap (λ r. choose its entry o (find d spent kind sought (suc left) rest o) (lower left r o)) is

      found-over : (left o : ℕ) → find d spent kind sought (suc left) [] o ≡ none o
      unfolding find
      found-over left o = refl

      -- above a tree what leads to a node is opened
      opened-then : {levels : ℕ} {es : Entries} → TreeIn d kind levels es → (entry : List ℕ) (node : NodeSeen) (o : ℕ) → o + suc levels ≤ suc most
          → LeadsIn d entry node → subnode d levels (spent o) entry ≡ Ok (Some node)
      opened-then {levels} t entry node o few leads =
          let its = tall t in let same = its.1 in
          ap (λ b. subnode d levels b entry) (fresh o (omega arith)) ∙ opens-tree t entry node leads

      searched-same : (xs : List EntryPlaced) (ks : List K) (answer other : Answered) → other ≡ answer → SearchedIn d kind sought xs ks answer
          → SearchedIn d kind sought xs ks other
      searched-same xs ks answer other same its = let P : Answered → Type 0 = λ a. SearchedIn d kind sought xs ks a in subst P (sym same) its

      -- a lookup at a named entry, given what was searched in front of it and behind it
      named-searched : (entry : EntryPlaced) (name : K) (o : ℕ) (next low : Answered) (fore back : List EntryPlaced) (before after : List K)
          → read_as kind (d.key entry.bytes) ≡ Ok (Some name)
          → SearchedIn d kind sought back after next → SearchedIn d kind sought fore before low
          → (kind.order sought name ≡ Greater → NoneEqual kind.order sought before)
          → (kind.order sought name ≡ Less → NoneEqual kind.order sought after)
          → SearchedIn d kind sought (fore ++ entry ∷ back) (before ++ name ∷ after) (choose (Ok (kind.order sought name)) entry o next low)
      named-searched entry name o next low fore back before after named nexts lows greater less = by (kind.order sought name) refl
        where
          not_equal : (r : Ordering) → (r ≡ Equal → ⊥) → kind.order sought name ≡ r → kind.order sought name ≡ Equal → ⊥
          not_equal r not is same = not (sym is ∙ same)

          went_low : kind.order sought name ≡ Less → SearchedIn d kind sought fore before low
              → SearchedIn d kind sought (fore ++ entry ∷ back) (before ++ name ∷ after) low
          went_low is (hit found x its has equal) = hit found x its (Contains-append_left fore (entry ∷ back) found has) equal
          went_low is (miss x its none) =
              miss x its (none-append kind.order sought before (name ∷ after) none
              (none-cons kind.order sought name after (not_equal Less (λ same. let P : ⊥ = cc in P) is) (less is)))

          went_on : kind.order sought name ≡ Greater → SearchedIn d kind sought back after next
              → SearchedIn d kind sought (fore ++ entry ∷ back) (before ++ name ∷ after) next
          went_on is (hit found x its has equal) =
              hit found x its (Contains-append_right fore (entry ∷ back) found (contains-there found entry back has)) equal
          went_on is (miss x its none) =
              miss x its (none-append kind.order sought before (name ∷ after) (greater is)
              (none-cons kind.order sought name after (not_equal Greater (λ same. let P : ⊥ = cc in P) is) none))

          by : (r : Ordering) → kind.order sought name ≡ r
              → SearchedIn d kind sought (fore ++ entry ∷ back) (before ++ name ∷ after) (choose (Ok r) entry o next low)
          by Less is = went_low is lows
          by Equal is = hit entry o refl (Contains-append_right fore (entry ∷ back) entry (contains-here entry back)) (name, named, is)
          by Greater is = went_on is nexts

      -- the lookup searches the tree's names
      pub tree-finds : {levels : ℕ} {es : Entries} (t : TreeIn d kind levels es) (o : ℕ) (before : Option K) → o + levels ≤ suc most
          → NeverFall kind.order before (keys_in t)
          → SearchedIn d kind sought (items_in t) (keys_in t) (find d spent kind sought levels es o)
      tree-finds (out left) o before few rises = miss o (found-over left o) (none-nil kind.order sought)
      tree-finds (end left entry rest last alone) o before few rises =
          miss o (found-at left entry rest o (Ok Less) (Ok None) (ap (λ b. stands_at d kind sought b entry.bytes) last)
          (subnode-lone d left (spent o) entry.bytes alone))
          (none-nil kind.order sought)
      tree-finds (down left entry rest last node leads below) o before few rises =
          searched-same (items_in below) (keys_in below) (find d spent kind sought left (d.entries node) (o + 1))
          (find d spent kind sought (suc left) (Ok entry ∷ rest) o)
          (found-at left entry rest o (Ok Less) (Ok (Some node)) (ap (λ b. stands_at d kind sought b entry.bytes) last)
          (opened-then below entry.bytes node o few leads))
          (tree-finds below (o + 1) before (omega arith) rises)
      tree-finds (leaf left entry rest name goes named alone more) o before few rises =
          searched-same (entry ∷ items_in more) (name ∷ keys_in more) _ (find d spent kind sought (suc left) (Ok entry ∷ rest) o)
          (found-at left entry rest o (Ok (kind.order sought name)) (Ok None) (stands-some entry.bytes name goes named)
          (subnode-lone d left (spent o) entry.bytes alone))
          (named-searched entry name o (find d spent kind sought (suc left) rest o) (none o) [] (items_in more) [] (keys_in more) named
          (tree-finds more o (Some name) few (rises.1))
          (miss o refl (none-nil kind.order sought)) (λ greater. none-nil kind.order sought)
          (λ less. none-from kind.order total sought name (keys_in more) less (rises-from kind.order total name (keys_in more) (rises.1))))
      tree-finds (fork left entry rest name goes named node leads below more) o before few rises =
          let behind = rises-back kind.order before (keys_in below) name (keys_in more) rises in
          let low = find d spent kind sought left (d.entries node) (o + 1) in
          searched-same (items_in below ++ entry ∷ items_in more) (keys_in below ++ name ∷ keys_in more) _ (find d spent kind sought (suc left) (Ok entry ∷ rest) o)
          (found-at left entry rest o (Ok (kind.order sought name)) (Ok (Some node)) (stands-some entry.bytes name goes named)
          (opened-then below entry.bytes node o few leads))
          (named-searched entry name o (find d spent kind sought (suc left) rest o) low (items_in below) (items_in more) (keys_in below) (keys_in more) named
          (tree-finds more o (Some name) few behind)
          (tree-finds below (o + 1) before (omega arith) (rises-front kind.order before (keys_in below) name (keys_in more) rises))
          (λ greater. none-to kind.order total sought name (keys_in below) greater (rises-to kind.order total before (keys_in below) name (keys_in more) rises))
          (λ less. none-from kind.order total sought name (keys_in more) less (rises-from kind.order total name (keys_in more) behind)))

pub tree_listed_in_any_directory_for : {K : Type 0} (kind : Kind K) → TreeListedInAnyDirectoryFor kind
tree_listed_in_any_directory_for kind d levels es t = tree-ends d kind t 0

pub tree_listed_in_any_directory_for_any_kind : TreeListedInAnyDirectoryForAnyKind
tree_listed_in_any_directory_for_any_kind K kind = tree_listed_in_any_directory_for kind

pub tree_listed_in_any_directory : TreeListedInAnyDirectory
tree_listed_in_any_directory kind = tree_listed_in_any_directory_for kind

pub none_lost_in_any_directory_for : {K : Type 0} (kind : Kind K) → NoneLostInAnyDirectoryFor kind
none_lost_in_any_directory_for kind sought total d levels es t allowance few rises =
    tree-finds d kind sought total allowance (spent_at allowance) (spent-late allowance) t 0 None (omega arith) rises

pub none_lost_in_any_directory_for_any_kind : NoneLostInAnyDirectoryForAnyKind
none_lost_in_any_directory_for_any_kind K kind = none_lost_in_any_directory_for kind

pub none_lost_in_any_directory : NoneLostInAnyDirectory
none_lost_in_any_directory kind = none_lost_in_any_directory_for kind
