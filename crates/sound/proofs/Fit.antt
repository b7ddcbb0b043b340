-- What is said of a directory's parts one by one is that it is a tree of well formed nodes.
use Rattle.std.proofs.Common.{zero, suc, sub-one, ℕ, ◌≡◌, ◌+◌, ◌<◌, ◌≤◌, true, false, List, [], ◌∷◌, ◌++◌, length, refl, sym, ◌∙◌, ap, subst, arith}
use Rattle.std.proofs.Common.{if◌then◌else◌, inl, inr, Some, None, Ok}
use Rattle.std.specs.Prelude.{Contains}
use Rattle.index_entry.specs.Entry.{is_last, subnode_of}
use Rattle.collation.specs.Kind.{Kind}
use Rattle.directory.specs.Directory.{subnode}
use Rattle.directory.specs.Lent.{Passed, EntryPlaced, NodeSeen}
use Rattle.directory.specs.Node.{Entries, entries_of}
use Rattle.index.specs.Listing.{list_below}
use Rattle.index_run.proofs.Remaining.{list_below-node}
use Rattle.sound.specs.Fit.{Has, at_first, later, NoRepeat, yielded, number_in, Down, here, into, AtMost, reached_sub, reached_in, reached, WellFrom, ends}
use Rattle.sound.specs.Fit.{goes_on, Well, AllWell, listed_keys, Fit}
use Rattle.sound.specs.Keys.{key_read, keys_of, NeverFall}
use Rattle.sound.specs.Pass.{ReachedByPath}
use Rattle.sound.specs.Sorted.{Reaches}
use Rattle.index_run.specs.More.{never}
use Rattle.sound.specs.Tree.{Leads, items}
use Rattle.sound.specs.AnyDirectory as any
use Rattle.sound.specs.AnyDirectory.{dir_of}
use Rattle.sound.proofs.AnyPaths.{reached_by_path_in_any_directory}
use Rattle.sound.proofs.CodeWalks.{leads-any, any-leads, code_reaches_so}
use Rattle.sound.proofs.Keys.{is-named}
use Rattle.sound.proofs.Subnodes.{subnode-lone, leads-not}
use Rattle.sound.proofs.Tree.{tree-ends, yielded-lists, keys_of-items}
use Rattle.sound.proofs.WellTree.{WellTree, end_here, end_below, name_here, name_below, tree_of, names, records}

module _ (d : Passed) {K : Type 0} (kind : Kind K) where
  -- a tree below a node, where a level was left
  data Grown : ℕ → NodeSeen → Type 0 where
    grown : (left : ℕ) (node : NodeSeen) → WellTree d kind left node.end node.start (entries_of node) → Grown (suc left) node

  leads-same : (entry : List ℕ) (node other : NodeSeen) → Leads d entry node → Leads d entry other → node ≡ other
  leads-same entry node other one two = let both = sym one ∙ two in cc

  grown-same : (left : ℕ) (entry : List ℕ) (node other : NodeSeen) → Leads d entry node → Leads d entry other
      → WellTree d kind left node.end node.start (entries_of node) → Grown (suc left) other
  grown-same left entry node other one two below = let P : NodeSeen → Type 0 = λ n. Grown (suc left) n in
      subst P (leads-same entry node other one two) (grown left node below)

  not_last : {A : Type 0} (entry : List ℕ) → is_last entry ≡ true → is_last entry ≡ false → A
  not_last entry last goes = absurd (let both = sym last ∙ goes in let P : ⊥ = cc in P)

  -- what an entry of a tree leads to is a tree
  grown-below : {left used at : ℕ} {es : Entries} → WellTree d kind left used at es → (entry : EntryPlaced) (node : NodeSeen) → Has es entry
      → Leads d entry.bytes node → Grown left node
  grown-below (end_here left used at entry rest last there alone) _ node (at_first _ _) leads = absurd (leads-not d entry.bytes node alone leads)
  grown-below (end_here left used at entry rest last there alone) other node (later _ _ _ goes has) leads = not_last entry.bytes last goes
  grown-below (end_below left used at entry rest last there node opens below) _ other (at_first _ _) leads =
      grown-same left entry.bytes node other opens leads below
  grown-below (end_below left used at entry rest last there node opens below) other to (later _ _ _ goes has) leads = not_last entry.bytes last goes
  grown-below (name_here left used at entry rest name named there alone more) _ node (at_first _ _) leads = absurd (leads-not d entry.bytes node alone leads)
  grown-below (name_here left used at entry rest name named there alone more) other node (later _ _ _ goes has) leads = grown-below more other node has leads
  grown-below (name_below left used at entry rest name named there node opens below more) _ other (at_first _ _) leads =
      grown-same left entry.bytes node other opens leads below
  grown-below (name_below left used at entry rest name named there node opens below more) other to (later _ _ _ goes has) leads =
      grown-below more other to has leads

  -- so it has at most its levels, and all of its nodes are well formed
  below-levels : (steps : ℕ) (node : NodeSeen) (left : ℕ) → Grown left node
      → ((l : ℕ) → WellTree d kind l node.end node.start (entries_of node) → steps < suc l) → suc steps < suc left
  below-levels steps node _ (grown left _ t) lower = let less = lower left t in omega arith

  pub tree-levels : (steps : ℕ) (node to : NodeSeen) (left : ℕ) → WellTree d kind left node.end node.start (entries_of node) → Down d steps node to
      → steps < suc left
  tree-levels _ _ _ left t (here node) = omega arith
  tree-levels _ _ _ left t (into steps node below to entry has leads path) =
      below-levels steps below left (grown-below t entry below has leads) (λ l low. tree-levels steps below to l low path)

  pub tree-well : {left used at : ℕ} {es : Entries} → WellTree d kind left used at es → WellFrom d kind used at es
  tree-well (end_here left used at entry rest last there alone) = ends at entry rest last there (inl alone)
  tree-well (end_below left used at entry rest last there node opens below) = ends at entry rest last there (inr (node, opens))
  tree-well (name_here left used at entry rest name named there alone more) = goes_on at entry rest name named there (inl alone) (tree-well more)
  tree-well (name_below left used at entry rest name named there node opens below more) =
      goes_on at entry rest name named there (inr (node, opens)) (tree-well more)

  below-all_well : (node to : NodeSeen) (left : ℕ) → Grown left node → ((l : ℕ) → WellTree d kind l node.end node.start (entries_of node) → Well d kind to)
      → Well d kind to
  below-all_well node to _ (grown left _ t) lower = lower left t

  pub tree-all_well : (steps : ℕ) (node to : NodeSeen) (left : ℕ) → WellTree d kind left node.end node.start (entries_of node) → Down d steps node to
      → Well d kind to
  tree-all_well _ _ _ left t (here node) = tree-well t
  tree-all_well _ _ _ left t (into steps node below to entry has leads path) =
      below-all_well below to left (grown-below t entry below has leads) (λ l low. tree-all_well steps below to l low path)

  append-nil : (xs : List ℕ) → xs ++ [] ≡ xs
  append-nil [] = refl
  append-nil (x ∷ xs) = ap (λ ys. x ∷ ys) (append-nil xs)

  -- and the records reached are its records
  sub-lone : (below : NodeSeen → List ℕ) (entry : List ℕ) → subnode_of entry ≡ Ok None → reached_sub d below (subnode d 1 false entry) ≡ []
  sub-lone below entry alone = ap (reached_sub d below) (subnode-lone d 1 entry false alone)

  pub tree-reached : {left used at : ℕ} {es : Entries} (t : WellTree d kind left used at es) → reached_in d (reached d left) es ≡ records t
  unfolding reached_in reached
  tree-reached (end_here left used at entry rest last there alone) =
      ap (λ xs. xs ++ (if is_last entry.bytes then [] else reached_in d (reached d left) rest)) (sub-lone (reached d left) entry.bytes alone)
      ∙ ap (λ b. if b then [] else reached_in d (reached d left) rest) last
  tree-reached (end_below left used at entry rest last there node opens below) =
      ap (λ r. reached_sub d (reached d (suc left)) r ++ (if is_last entry.bytes then [] else reached_in d (reached d (suc left)) rest)) opens
      ∙ ap (λ b. (number_in node.place ∷ reached d (suc left) node) ++ (if b then [] else reached_in d (reached d (suc left)) rest)) last
      ∙ append-nil (number_in node.place ∷ reached d (suc left) node)
      ∙ ap (λ xs. number_in node.place ∷ xs) (tree-reached below)
  tree-reached (name_here left used at entry rest name named there alone more) =
      ap (λ xs. xs ++ (if is_last entry.bytes then [] else reached_in d (reached d left) rest)) (sub-lone (reached d left) entry.bytes alone)
      ∙ ap (λ b. if b then [] else reached_in d (reached d left) rest) ((is-named kind entry.bytes name named).goes_on)
      ∙ tree-reached more
  tree-reached (name_below left used at entry rest name named there node opens below more) =
      ap (λ r. reached_sub d (reached d (suc left)) r ++ (if is_last entry.bytes then [] else reached_in d (reached d (suc left)) rest)) opens
      ∙ ap (λ b. (number_in node.place ∷ reached d (suc left) node) ++ (if b then [] else reached_in d (reached d (suc left)) rest))
      ((is-named kind entry.bytes name named).goes_on)
      ∙ ap (λ xs. (number_in node.place ∷ xs) ++ reached_in d (reached d (suc left)) rest) (tree-reached below)
      ∙ ap (λ xs. number_in node.place ∷ records below ++ xs) (tree-reached more)

  -- the names of its listing are its names
  pub tree-listed : {left used at : ℕ} {es : Entries} (t : WellTree d kind left used at es) → yielded (list_below d never left es 0) ≡ items (tree_of t)
  tree-listed {left} {used} {at} {es} t = ap yielded (list_below-node d never left es 0) ∙ yielded-lists ((tree-ends d kind (tree_of t) 0).1)

  pub tree-keys : (node : NodeSeen) (left : ℕ) (t : WellTree d kind left node.end node.start (entries_of node)) → listed_keys d kind (suc left) node ≡ names t
  tree-keys node left t =
      ap (λ n. keys_of kind (yielded (list_below d never n (entries_of node) 0))) (sub-one (suc left)) ∙ ap (keys_of kind) (tree-listed t)
      ∙ keys_of-items d kind (tree_of t)

  pub tree-fit : (node : NodeSeen) (left : ℕ) (t : WellTree d kind left node.end node.start (entries_of node)) → NoRepeat (records t)
      → NeverFall kind.order None (names t) → Fit d kind (suc left) node
  unfolding reached
  tree-fit node left t once rises = record {
    at_most = λ steps to path. tree-levels steps node to left t path;
    well = λ steps to path. tree-all_well steps node to left t path;
    once = let P : List ℕ → Type 0 = NoRepeat in subst P (sym (tree-reached t)) once;
    rising = let P : List K → Type 0 = NeverFall kind.order None in subst P (sym (tree-keys node left t)) rises;
  }

  -- and back: well formed nodes within so many levels are a tree
  grow-end : (left used at : ℕ) (entry : EntryPlaced) (rest : Entries) (node : NodeSeen) → is_last entry.bytes ≡ true → at + length entry.bytes ≡ used
      → Leads d entry.bytes node → Grown left node
      → WellTree d kind left used at (Ok entry ∷ rest)
  grow-end _ used at entry rest _ last there leads (grown left node below) = end_below left used at entry rest last there node leads below

  grow-named : (left used at : ℕ) (entry : EntryPlaced) (rest : Entries) (name : K) (node : NodeSeen) → key_read kind entry.bytes ≡ Ok (Some name)
      → at + length entry.bytes ≤ used → Leads d entry.bytes node → Grown left node
      → WellTree d kind left used (at + length entry.bytes) rest → WellTree d kind left used at (Ok entry ∷ rest)
  grow-named _ used at entry rest name _ named there leads (grown left node below) more =
      name_below left used at entry rest name named there node leads below more

  grow-entries : (left used at : ℕ) (es : Entries) → WellFrom d kind used at es
      → ((entry : EntryPlaced) (node : NodeSeen) → Has es entry → Leads d entry.bytes node → Grown left node) → WellTree d kind left used at es
  grow-entries left used _ _ (ends at entry rest last there (inl alone)) sub = end_here left used at entry rest last there alone
  grow-entries left used _ _ (ends at entry rest last there (inr (node, leads))) sub =
      grow-end left used at entry rest node last there leads (sub entry node (at_first entry rest) leads)
  grow-entries left used _ _ (goes_on at entry rest name named there (inl alone) more) sub =
      name_here left used at entry rest name named there alone
      (grow-entries left used (at + length entry.bytes) rest more
      (λ other node has. sub other node (later other entry rest ((is-named kind entry.bytes name named).goes_on) has)))
  grow-entries left used _ _ (goes_on at entry rest name named there (inr (node, leads)) more) sub =
      grow-named left used at entry rest name node named there leads (sub entry node (at_first entry rest) leads)
      (grow-entries left used (at + length entry.bytes) rest more
      (λ other node has. sub other node (later other entry rest ((is-named kind entry.bytes name named).goes_on) has)))

  pub grow : (left : ℕ) (node : NodeSeen) → AtMost d (suc left) node → AllWell d kind node → WellTree d kind left node.end node.start (entries_of node)
  grow zero node levels well =
      grow-entries 0 node.end node.start (entries_of node) (well 0 node (here node))
      (λ entry below has leads. absurd (let less = levels 1 below (into 0 node below below entry has leads (here below)) in omega arith))
  grow (suc left) node levels well =
      grow-entries (suc left) node.end node.start (entries_of node) (well 0 node (here node))
      (λ entry below has leads. grown left below (grow left below
      (λ steps to path. let less = levels (suc steps) to (into steps node below to entry has leads path) in omega arith)
      (λ steps to path. well (suc steps) to (into steps node below to entry has leads path))))

  pub record IsGrown (left : ℕ) (node : NodeSeen) : Type 0 where
    pub tree : WellTree d kind left node.end node.start (entries_of node)
    pub once : NoRepeat (records tree)
    pub rises : NeverFall kind.order None (names tree)

  pub fit-tree : (left : ℕ) (node : NodeSeen) → Fit d kind (suc left) node → IsGrown left node
  unfolding reached
  fit-tree left node fit =
      let t = grow left node (fit.at_most) (fit.well) in
      record {
        tree = t;
        once = let P : List ℕ → Type 0 = NoRepeat in subst P (tree-reached t) (fit.once);
        rises = let P : List K → Type 0 = NeverFall kind.order None in subst P (tree-keys node left t) (fit.rising);
      }

-- the records reached are those that a path leads to
module _ (d : Passed) where
  has-any : {es : Entries} {entry : EntryPlaced} → Has es entry → any.HasIn (dir_of d) es entry
  has-any (at_first entry rest) = any.at_first entry rest
  has-any (later entry first rest goes there) = any.later entry first rest goes (has-any there)

  any-has : {es : Entries} {entry : EntryPlaced} → any.HasIn (dir_of d) es entry → Has es entry
  any-has (any.at_first entry rest) = at_first entry rest
  any-has (any.later entry first rest goes there) = later entry first rest goes (any-has there)

  down-any : {steps : ℕ} {root to : NodeSeen} → Down d steps root to → any.DownIn (dir_of d) steps (entries_of root) (entries_of to)
  down-any (here node) = any.here (entries_of node)
  down-any (into steps node below to entry has leads path) =
      any.into_node steps (entries_of node) (entries_of to) entry below (has-any has) (leads-any d entry.bytes below leads) (down-any path)

  -- a node to which a path leads, of those entries
  record IsFrom (steps : ℕ) (root : NodeSeen) (es : Entries) : Type 0 where
    from : NodeSeen
    same : entries_of from ≡ es
    path : Down d steps root from

  any-down : {steps : ℕ} {es to : Entries} → any.DownIn (dir_of d) steps es to → (root : NodeSeen) → entries_of root ≡ es → IsFrom steps root to
  any-down (any.here es) root same = record { from = root; same = same; path = here root }
  any-down (any.into_node steps es to entry node has leads path) root same =
      let its = any-down path node refl in
      let P : Entries → Type 0 = λ entries. Has entries entry in
      record {
        from = its.from;
        same = its.same;
        path = into steps root node (its.from) entry (subst P (sym same) (any-has has)) (any-leads d entry.bytes node leads) (its.path);
      }

  pub reached-path : (levels : ℕ) (root : NodeSeen) (number : ℕ) → Contains (reached d levels root) number → Reaches d levels root number
  reached-path levels root number has =
      let P : List ℕ → Type 0 = λ xs. Contains xs number in
      let its = (reached_by_path_in_any_directory (dir_of d) levels (entries_of root) number).0 (subst P (code_reaches_so d levels root) has) in
      let end = any-down (its.path) root refl in
      let Q : Entries → Type 0 = λ entries. Has entries its.entry in
      record {
        steps = its.steps;
        few = its.few;
        from = end.from;
        entry = its.entry;
        to = its.to;
        path = end.path;
        has = subst Q (sym end.same) (any-has (its.has));
        leads = any-leads d its.entry.bytes its.to (its.leads);
        is = its.is;
      }

  path-reached : (levels : ℕ) (root : NodeSeen) (number : ℕ) → Reaches d levels root number → Contains (reached d levels root) number
  path-reached levels root number its =
      let P : List ℕ → Type 0 = λ xs. Contains xs number in
      subst P (sym (code_reaches_so d levels root))
      ((reached_by_path_in_any_directory (dir_of d) levels (entries_of root) number).1
      (record {
        steps = its.steps;
        few = its.few;
        from = entries_of its.from;
        entry = its.entry;
        to = its.to;
        path = down-any (its.path);
        has = has-any (its.has);
        leads = leads-any d its.entry.bytes its.to (its.leads);
        is = its.is;
      }))

pub reached_by_path : ReachedByPath
reached_by_path d levels root number = (reached-path d levels root number, path-reached d levels root number)
