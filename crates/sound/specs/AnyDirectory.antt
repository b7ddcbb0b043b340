-- A directory as any functions give it: what an entry's bytes say, where a VCN leads, which entries a node has. The code's is one of them.
use Rattle.std.specs.Prelude.{zero, suc, ℕ, ℤ, ◌≡◌, ◌+◌, ◌==◌, ◌<◌, ◌≤◌, ◌↔◌, Bool, true, false, List, [], ◌∷◌, ◌++◌, Contains}
use Rattle.std.specs.Prelude.{if◌then◌else◌, Option, Some, None, Result, Ok, Err}
use Rattle.std.specs.Cmp.{IsTotalOrder}
use Rattle.std.specs.declared.cmp.Ordering.{Ordering}
use Rattle.std.specs.declared.cmp.Ordering.TheVariants.{Less, Equal}
use Rattle.refusal.specs.declared.Refusal.{Refusal}
use Rattle.refusal.specs.declared.Refusal.TheVariants.{SubnodeWithoutPool, TooManyLevels, AllowanceSpent}
use Rattle.refusal.specs.Then.{◌>>=◌}
use Rattle.index_entry.specs.Entry.{is_last, key_of, subnode_of}
use Rattle.index_allocation.specs.Allocation.{Allocation}
use Rattle.collation.specs.Kind.{Kind}
use Rattle.directory.specs.Answer.{Answered, some, none, refused}
use Rattle.directory.specs.Directory.{again, spent_at}
use Rattle.directory.specs.Lent.{Passed, EntryPlaced, NodeSeen}
use Rattle.directory.specs.Node.{Entries, entries_of}
use Rattle.index.specs.Listing.{Listing, done, stop, and_then, list_entry, list_below}
use Rattle.index_finder.specs.Find.{stands_to, find_node, find_below}
use Rattle.index_run.specs.More.{never}
use Rattle.sound.specs.Fit.{number_in, reached}
use Rattle.sound.specs.Keys.{read_as, NeverFall, NoneEqual}
use Rattle.sound.specs.Tree.{Lists}

-- is an entry a LAST_ENTRY, what is its key, which VCN is its subnode's; is there no pool, what does a VCN lead to, which entries has a node
pub record Dir : Type 0 where
  pub last : List ℕ → Bool
  pub key : List ℕ → Result (Option (List ℕ)) Refusal
  pub vcn : List ℕ → Result (Option ℤ) Refusal
  pub empty : Bool
  pub opens : ℤ → Result NodeSeen Refusal
  pub entries : NodeSeen → Entries

abbrev pub no_pool : Option Allocation → Bool
no_pool None = true
no_pool (Some allocation) = false

-- the directory that the code walks
abbrev pub dir_of : Passed → Dir
dir_of p = record { last = is_last; key = key_of; vcn = subnode_of; empty = no_pool p.allocation; opens = again p; entries = entries_of }

module _ (d : Dir) where
  -- 10, 11, 12, and then what a VCN leads to
  unfoldable pub opening : ℕ → Bool → ℤ → Result NodeSeen Refusal
  opening left spent vcn =
      if d.empty then Err SubnodeWithoutPool
      else if left == 0 then Err TooManyLevels
      else if spent then Err AllowanceSpent
      else d.opens vcn

  abbrev pub opening_of : ℕ → Bool → Result (Option ℤ) Refusal → Result (Option NodeSeen) Refusal
  opening_of left spent (Ok (Some vcn)) = opening left spent vcn >>= λ node. Ok (Some node)
  opening_of left spent (Ok None) = Ok None
  opening_of left spent (Err refusal) = Err refusal

  -- an entry's subnode, if it has one, opened where levels are left below it
  unfoldable pub subnode : ℕ → Bool → List ℕ → Result (Option NodeSeen) Refusal
  subnode left spent entry = opening_of left spent (d.vcn entry)

  -- one that shows no refusal
  abbrev pub LeadsIn : List ℕ → NodeSeen → Type 0
  LeadsIn entry node = subnode 1 false entry ≡ Ok (Some node)

  -- the listing: of each entry its subnode first, then the entry; a LAST_ENTRY is not listed, and nothing follows it
  abbrev pub list_subnode : (Entries → ℕ → Listing) → Result (Option NodeSeen) Refusal → ℕ → Listing
  list_subnode below (Ok (Some node)) o = below (d.entries node) (o + 1)
  list_subnode below (Ok None) o = done o
  list_subnode below (Err refusal) o = stop refusal o

  abbrev pub list_node : (List ℕ → ℕ → Listing) → Entries → ℕ → Listing
  list_node sub [] o = done o
  list_node sub (Err refusal ∷ rest) o = stop refusal o
  list_node sub (Ok entry ∷ rest) o = and_then (sub entry.bytes o) (λ x. list_entry (d.last entry.bytes) entry x (list_node sub rest x))

  -- so many levels, this one with them
  unfoldable pub list : (ℕ → Bool) → ℕ → Entries → ℕ → Listing
  list spent zero es o = stop TooManyLevels o
  list spent (suc left) es o = list_node (λ entry x. list_subnode (λ below y. list spent left below y) (subnode left (spent x) entry) x) es o

  -- the lookup: equal: found; greater: the next entry; less, or no key: the subnode; a LAST_ENTRY counts as one without a key
  abbrev pub into : (Entries → ℕ → Answered) → Result (Option NodeSeen) Refusal → ℕ → Answered
  into below (Ok (Some node)) o = below (d.entries node) (o + 1)
  into below (Ok None) o = none o
  into below (Err refusal) o = refused refusal o

  abbrev pub stands_at : {K : Type 0} → Kind K → K → Bool → List ℕ → Result Ordering Refusal
  stands_at kind sought true entry = Ok Less
  stands_at kind sought false entry = stands_to kind sought (d.key entry)

  unfoldable pub find : {K : Type 0} → (ℕ → Bool) → Kind K → K → ℕ → Entries → ℕ → Answered
  find spent kind sought zero es o = refused TooManyLevels o
  find spent kind sought (suc left) es o =
      find_node (λ entry. stands_at kind sought (d.last entry) entry)
      (λ entry x. into (λ below y. find spent kind sought left below y) (subnode left (spent x) entry) x) es o

  -- an entry of these; none stands behind a LAST_ENTRY
  pub data HasIn : Entries → EntryPlaced → Type 0 where
    at_first : (entry : EntryPlaced) (rest : Entries) → HasIn (Ok entry ∷ rest) entry
    later : (entry first : EntryPlaced) (rest : Entries) → d.last first.bytes ≡ false → HasIn rest entry → HasIn (Ok first ∷ rest) entry

  -- entries are reached from others by going down that many times
  pub data DownIn : ℕ → Entries → Entries → Type 0 where
    here : (es : Entries) → DownIn 0 es es
    into_node : (steps : ℕ) (es to : Entries) (entry : EntryPlaced) (node : NodeSeen) → HasIn es entry → LeadsIn entry.bytes node
        → DownIn steps (d.entries node) to
        → DownIn (suc steps) es to

  -- the records reached within so many levels, in the order of the listing
  abbrev pub reached_below : (Entries → List ℕ) → Result (Option NodeSeen) Refusal → List ℕ
  reached_below below (Ok (Some node)) = number_in node.place ∷ below (d.entries node)
  reached_below below (Ok None) = []
  reached_below below (Err refusal) = []

  unfoldable pub reached_at : (Entries → List ℕ) → Entries → List ℕ
  reached_at below [] = []
  reached_at below (Err refusal ∷ rest) = []
  reached_at below (Ok entry ∷ rest) = reached_below below (subnode 1 false entry.bytes) ++ (if d.last entry.bytes then [] else reached_at below rest)

  unfoldable pub reached_within : ℕ → Entries → List ℕ
  reached_within zero es = []
  reached_within (suc levels) es = reached_at (reached_within levels) es

  -- a path leads to a record within so many levels: some entries reached have one whose subnode it is
  pub record ReachesIn (levels : ℕ) (root : Entries) (number : ℕ) : Type 0 where
    pub steps : ℕ
    pub few : steps < levels
    pub from : Entries
    pub entry : EntryPlaced
    pub to : NodeSeen
    pub path : DownIn steps root from
    pub has : HasIn from entry
    pub leads : LeadsIn entry.bytes to
    pub is : number_in to.place ≡ number

-- entries with so many levels, theirs with them; they run out, or end with a LAST_ENTRY, or a named entry and more
pub data TreeIn (d : Dir) {K : Type 0} (kind : Kind K) : (levels : ℕ) → Entries → Type 0 where
  out : (left : ℕ) → TreeIn d kind (suc left) []
  end : (left : ℕ) (entry : EntryPlaced) (rest : Entries) → d.last entry.bytes ≡ true → d.vcn entry.bytes ≡ Ok None → TreeIn d kind (suc left) (Ok entry ∷ rest)
  down : (left : ℕ) (entry : EntryPlaced) (rest : Entries) → d.last entry.bytes ≡ true → (node : NodeSeen) → LeadsIn d entry.bytes node
      → TreeIn d kind left (d.entries node)
      → TreeIn d kind (suc left) (Ok entry ∷ rest)
  leaf : (left : ℕ) (entry : EntryPlaced) (rest : Entries) (name : K) → d.last entry.bytes ≡ false → read_as kind (d.key entry.bytes) ≡ Ok (Some name)
      → d.vcn entry.bytes ≡ Ok None
      → TreeIn d kind (suc left) rest
      → TreeIn d kind (suc left) (Ok entry ∷ rest)
  fork : (left : ℕ) (entry : EntryPlaced) (rest : Entries) (name : K) → d.last entry.bytes ≡ false → read_as kind (d.key entry.bytes) ≡ Ok (Some name)
      → (node : NodeSeen) → LeadsIn d entry.bytes node
      → TreeIn d kind left (d.entries node)
      → TreeIn d kind (suc left) rest → TreeIn d kind (suc left) (Ok entry ∷ rest)

-- the entries in the order of the listing, and their names
abbrev pub items_in : {d : Dir} {K : Type 0} {kind : Kind K} {levels : ℕ} {es : Entries} → TreeIn d kind levels es → List EntryPlaced
items_in (out left) = []
items_in (end left entry rest last alone) = []
items_in (down left entry rest last node leads below) = items_in below
items_in (leaf left entry rest name goes named alone more) = entry ∷ items_in more
items_in (fork left entry rest name goes named node leads below more) = items_in below ++ entry ∷ items_in more

abbrev pub keys_in : {d : Dir} {K : Type 0} {kind : Kind K} {levels : ℕ} {es : Entries} → TreeIn d kind levels es → List K
keys_in (out left) = []
keys_in (end left entry rest last alone) = []
keys_in (down left entry rest last node leads below) = keys_in below
keys_in (leaf left entry rest name goes named alone more) = name ∷ keys_in more
keys_in (fork left entry rest name goes named node leads below more) = keys_in below ++ name ∷ keys_in more

-- the name of an entry compares equal to the sought one
abbrev pub EqualsIn : Dir → {K : Type 0} → Kind K → K → EntryPlaced → Type 0
EqualsIn d {K} kind sought entry = (name : K) × (read_as kind (d.key entry.bytes) ≡ Ok (Some name)) × (kind.order sought name ≡ Equal)

-- a lookup's answer where these entries are listed, with these names: one of them that is equal, or not found and none is equal
pub data SearchedIn (d : Dir) {K : Type 0} (kind : Kind K) (sought : K) (entries : List EntryPlaced) (names : List K) (answer : Answered) : Type 0 where
  hit : (entry : EntryPlaced) (o : ℕ) → answer ≡ some entry o → Contains entries entry → EqualsIn d kind sought entry
      → SearchedIn d kind sought entries names answer
  miss : (o : ℕ) → answer ≡ none o → NoneEqual kind.order sought names → SearchedIn d kind sought entries names answer

-- in any directory the full listing of a tree yields its entries, and ends
abbrev pub TreeListedInAnyDirectoryFor : {K : Type 0} → Kind K → Type 0
TreeListedInAnyDirectoryFor kind = (d : Dir) (levels : ℕ) (es : Entries) (t : TreeIn d kind levels es)
    → (n : ℕ) × Lists (list d never levels es 0) (items_in t) n

abbrev pub TreeListedInAnyDirectoryForAnyKind : Type 1
TreeListedInAnyDirectoryForAnyKind = (K : Type 0) (kind : Kind K) → TreeListedInAnyDirectoryFor kind

-- in every kind whose names are lists of numbers
abbrev pub TreeListedInAnyDirectory : Type 0
TreeListedInAnyDirectory = (kind : Kind (List ℕ)) → TreeListedInAnyDirectoryFor kind

-- over any total order, in a tree of any directory whose names never fall, going down as lookup does loses no equal entry
abbrev pub NoneLostInAnyDirectoryFor : {K : Type 0} → Kind K → Type 0
NoneLostInAnyDirectoryFor {K} kind = (sought : K) → IsTotalOrder kind.order → (d : Dir) (levels : ℕ) (es : Entries) (t : TreeIn d kind levels es) (allowance : ℕ)
    → levels ≤ suc allowance → NeverFall kind.order None (keys_in t)
    → SearchedIn d kind sought (items_in t) (keys_in t) (find d (spent_at allowance) kind sought levels es 0)

abbrev pub NoneLostInAnyDirectoryForAnyKind : Type 1
NoneLostInAnyDirectoryForAnyKind = (K : Type 0) (kind : Kind K) → NoneLostInAnyDirectoryFor kind

abbrev pub NoneLostInAnyDirectory : Type 0
NoneLostInAnyDirectory = (kind : Kind (List ℕ)) → NoneLostInAnyDirectoryFor kind

-- in any directory the records reached are those that a path of entries leads to
abbrev pub ReachedByPathInAnyDirectory : Type 0
ReachedByPathInAnyDirectory = (d : Dir) (levels : ℕ) (root : Entries) (number : ℕ) → Contains (reached_within d levels root) number ↔ ReachesIn d levels root number

-- the code's listing is that of its directory
abbrev pub CodeListsSo : Type 0
CodeListsSo = (p : Passed) (spent : ℕ → Bool) (left : ℕ) (es : Entries) (o : ℕ) → list_below p spent left es o ≡ list (dir_of p) spent (suc left) es o

-- its lookup too
abbrev pub CodeFindsSoFor : {K : Type 0} → Kind K → Type 0
CodeFindsSoFor {K} kind = (p : Passed) (spent : ℕ → Bool) (sought : K) (left : ℕ) (es : Entries) (o : ℕ)
    → find_below p spent kind sought left es o ≡ find (dir_of p) spent kind sought (suc left) es o

abbrev pub CodeFindsSoForAnyKind : Type 1
CodeFindsSoForAnyKind = (K : Type 0) (kind : Kind K) → CodeFindsSoFor kind

-- and the records that it reaches
abbrev pub CodeReachesSo : Type 0
CodeReachesSo = (p : Passed) (levels : ℕ) (node : NodeSeen) → reached p levels node ≡ reached_within (dir_of p) levels (entries_of node)

-- so what holds in any directory holds of what the code walks
abbrev pub CodeWalksSo : Type 0
CodeWalksSo = CodeListsSo × ((kind : Kind (List ℕ)) → CodeFindsSoFor kind) × CodeReachesSo
