-- What the code walks is a directory as functions give it.
use Rattle.std.proofs.Common.{zero, suc, ℕ, ℤ, ◌≡◌, ◌+◌, nat_eq, Bool, true, false, List, [], ◌∷◌, ◌++◌, refl, sym, ◌∙◌, ap, if◌then◌else◌}
use Rattle.std.proofs.Common.{Option, Some, None, Result, Ok, Err}
use Rattle.refusal.specs.declared.Refusal.{Refusal}
use Rattle.refusal.specs.declared.Refusal.TheVariants.{SubnodeWithoutPool, TooManyLevels, AllowanceSpent}
use Rattle.refusal.specs.Then.{◌>>=◌}
use Rattle.index_entry.specs.Entry.{is_last, subnode_of}
use Rattle.index_allocation.specs.Allocation.{Allocation, placed_in}
use Rattle.collation.specs.Kind.{Kind}
use Rattle.directory.specs.Answer.{Answered, refused}
use Rattle.directory.specs.Directory.{opening, opening_of, subnode, wanted, node_in, placed, again}
use Rattle.directory.specs.Lent.{Passed, NodeSeen}
use Rattle.directory.specs.Node.{Entries, entries_of}
use Rattle.index_finder.specs.Find.{stands, find_node, into, find_below}
use Rattle.index.specs.Listing.{Listing, stop, and_then, list_subnode, list_entry, list_node, list_below}
use Rattle.sound.specs.AnyDirectory as any
use Rattle.sound.specs.AnyDirectory.{Dir, no_pool, dir_of, CodeListsSo, CodeFindsSoFor, CodeFindsSoForAnyKind, CodeReachesSo, CodeWalksSo}
use Rattle.sound.specs.Fit.{number_in, reached_sub, reached_in, reached}
use Rattle.sound.specs.Tree.{Leads}
use Rattle.sound.proofs.Keys.{stands-none}

module _ (p : Passed) where
  abbrev its_dir : Dir
  its_dir = dir_of p

  opening-same : (left : ℕ) (spent : Bool) (vcn : ℤ) → opening p left spent vcn ≡ any.opening its_dir left spent vcn
  unfolding opening wanted placed again any.opening
  opening-same left spent vcn = by p.allocation
    where
      by : (a : Option Allocation)
          → (wanted a left spent vcn >>= node_in)
          ≡ (if no_pool a then Err SubnodeWithoutPool
          else if nat_eq left 0 then Err TooManyLevels
          else if spent then Err AllowanceSpent
          else (placed a vcn >>= node_in))
      by None = refl
      by (Some a) = levels (nat_eq left 0) spent
        where
          levels : (none over : Bool)
              → ((if none then Err TooManyLevels else if over then Err AllowanceSpent else placed_in a vcn) >>= node_in)
              ≡ (if none then Err TooManyLevels else if over then Err AllowanceSpent else (placed_in a vcn >>= node_in))
          levels true over = refl
          levels false true = refl
          levels false false = refl

  pub subnode-same : (left : ℕ) (spent : Bool) (entry : List ℕ) → subnode p left spent entry ≡ any.subnode its_dir left spent entry
  unfolding subnode any.subnode
  subnode-same left spent entry = by (subnode_of entry)
    where
      by : (vcn : Result (Option ℤ) Refusal) → opening_of p left spent vcn ≡ any.opening_of its_dir left spent vcn
      by (Ok (Some vcn)) = ap (λ r. r >>= λ node. Ok (Some node)) (opening-same left spent vcn)
      by (Ok None) = refl
      by (Err refusal) = refl

  -- so an entry leads to the same nodes
  pub leads-any : (entry : List ℕ) (node : NodeSeen) → Leads p entry node → any.LeadsIn its_dir entry node
  leads-any entry node leads = sym (subnode-same 1 false entry) ∙ leads

  pub any-leads : (entry : List ℕ) (node : NodeSeen) → any.LeadsIn its_dir entry node → Leads p entry node
  any-leads entry node leads = subnode-same 1 false entry ∙ leads

  -- a node is listed alike where its entries' subnodes are
  list_subnode-same : (one other : Entries → ℕ → Listing) → ((es : Entries) (o : ℕ) → one es o ≡ other es o)
      → (r : Result (Option NodeSeen) Refusal) (o : ℕ) → list_subnode one r o ≡ any.list_subnode its_dir other r o
  list_subnode-same one other same (Ok (Some node)) o = same (entries_of node) (o + 1)
  list_subnode-same one other same (Ok None) o = refl
  list_subnode-same one other same (Err refusal) o = refl

  list_node-same : (one other : List ℕ → ℕ → Listing) → ((entry : List ℕ) (o : ℕ) → one entry o ≡ other entry o)
      → (es : Entries) (o : ℕ) → list_node one es o ≡ any.list_node its_dir other es o
  list_node-same one other same [] o = refl
  list_node-same one other same (Err refusal ∷ rest) o = refl
  list_node-same one other same (Ok entry ∷ rest) o =
      λ i. and_then (same entry.bytes o i) (λ x. list_entry (is_last entry.bytes) entry x (list_node-same one other same rest x i))

  module _ (spent : ℕ → Bool) where
    list_at-same : (left : ℕ) (one other : Entries → ℕ → Listing) → ((es : Entries) (o : ℕ) → one es o ≡ other es o) → (entry : List ℕ) (o : ℕ)
        → list_subnode one (subnode p left (spent o) entry) o ≡ any.list_subnode its_dir other (any.subnode its_dir left (spent o) entry) o
    list_at-same left one other same entry o =
        list_subnode-same one other same (subnode p left (spent o) entry) o
        ∙ ap (λ r. any.list_subnode its_dir other r o) (subnode-same left (spent o) entry)

    lists-same : (left : ℕ) (es : Entries) (o : ℕ) → list_below p spent left es o ≡ any.list its_dir spent (suc left) es o
    unfolding list_below any.list
    lists-same zero es o = list_node-same _ _ (list_at-same 0 (λ below y. stop TooManyLevels y) (any.list its_dir spent 0) (λ below y. refl)) es o
    lists-same (suc left) es o =
        list_node-same _ _ (list_at-same (suc left) (list_below p spent left) (any.list its_dir spent (suc left)) (lists-same left)) es o

  module _ {K : Type 0} (kind : Kind K) (sought : K) where
    stands-same : (entry : List ℕ) → stands kind sought entry ≡ any.stands_at its_dir kind sought (is_last entry) entry
    unfolding stands
    stands-same entry = by (is_last entry) refl
      where
        by : (last : Bool) → is_last entry ≡ last → stands kind sought entry ≡ any.stands_at its_dir kind sought last entry
        by true last = stands-none kind sought entry last
        by false goes = refl

    into-same : (one other : Entries → ℕ → Answered) → ((es : Entries) (o : ℕ) → one es o ≡ other es o)
        → (r : Result (Option NodeSeen) Refusal) (o : ℕ) → into one r o ≡ any.into its_dir other r o
    into-same one other same (Ok (Some node)) o = same (entries_of node) (o + 1)
    into-same one other same (Ok None) o = refl
    into-same one other same (Err refusal) o = refl

    module _ (spent : ℕ → Bool) where
      find_node-same : (left : ℕ) (one other : Entries → ℕ → Answered) → ((es : Entries) (o : ℕ) → one es o ≡ other es o) → (es : Entries) (o : ℕ)
          → find_node (stands kind sought) (λ entry x. into one (subnode p left (spent x) entry) x) es o
          ≡ find_node (λ entry. any.stands_at its_dir kind sought (is_last entry) entry)
          (λ entry x. any.into its_dir other (any.subnode its_dir left (spent x) entry) x) es o
      find_node-same left one other same es o =
          let down : (entry : List ℕ) (x : ℕ)
          → into one (subnode p left (spent x) entry) x ≡ any.into its_dir other (any.subnode its_dir left (spent x) entry) x =
          λ entry x. into-same one other same (subnode p left (spent x) entry) x
          ∙ ap (λ r. any.into its_dir other r x) (subnode-same left (spent x) entry) in
          λ i. find_node (λ entry. stands-same entry i) (λ entry x. down entry x i) es o

      finds-same : (left : ℕ) (es : Entries) (o : ℕ) → find_below p spent kind sought left es o ≡ any.find its_dir spent kind sought (suc left) es o
      unfolding find_below any.find
      finds-same zero es o = find_node-same 0 (λ below y. refused TooManyLevels y) (any.find its_dir spent kind sought 0) (λ below y. refl) es o
      finds-same (suc left) es o =
          find_node-same (suc left) (find_below p spent kind sought left) (any.find its_dir spent kind sought (suc left)) (finds-same left) es o

  -- the records reached
  reached_sub-same : (one : NodeSeen → List ℕ) (other : Entries → List ℕ) → ((node : NodeSeen) → one node ≡ other (entries_of node))
      → (r : Result (Option NodeSeen) Refusal) → reached_sub p one r ≡ any.reached_below its_dir other r
  reached_sub-same one other same (Ok (Some node)) = ap (λ xs. number_in node.place ∷ xs) (same node)
  reached_sub-same one other same (Ok None) = refl
  reached_sub-same one other same (Err refusal) = refl

  reached_in-same : (one : NodeSeen → List ℕ) (other : Entries → List ℕ) → ((node : NodeSeen) → one node ≡ other (entries_of node))
      → (es : Entries) → reached_in p one es ≡ any.reached_at its_dir other es
  unfolding reached_in any.reached_at
  reached_in-same one other same [] = refl
  reached_in-same one other same (Err refusal ∷ rest) = refl
  reached_in-same one other same (Ok entry ∷ rest) =
      let sub = reached_sub-same one other same (subnode p 1 false entry.bytes) ∙ ap (any.reached_below its_dir other) (subnode-same 1 false entry.bytes) in
      λ i. sub i ++ (if is_last entry.bytes then [] else reached_in-same one other same rest i)

  reaches-same : (levels : ℕ) (node : NodeSeen) → reached p levels node ≡ any.reached_within its_dir levels (entries_of node)
  unfolding reached any.reached_within
  reaches-same zero node = refl
  reaches-same (suc levels) node = reached_in-same (reached p levels) (any.reached_within its_dir levels) (reaches-same levels) (entries_of node)

pub code_lists_so : CodeListsSo
code_lists_so p spent left es o = lists-same p spent left es o

pub code_finds_so_for : {K : Type 0} (kind : Kind K) → CodeFindsSoFor kind
code_finds_so_for kind p spent sought left es o = finds-same p kind sought spent left es o

pub code_finds_so_for_any_kind : CodeFindsSoForAnyKind
code_finds_so_for_any_kind K kind = code_finds_so_for kind

pub code_reaches_so : CodeReachesSo
code_reaches_so p levels node = reaches-same p levels node

pub code_walks_so : CodeWalksSo
code_walks_so = (code_lists_so, code_finds_so_for, code_reaches_so)
