-- Where a record lies, and what a place names.
use Rattle.std.proofs.Common.{zero, suc, ℕ, ℤ, pos, negsuc, ◌≡◌, ◌+◌, ◌*◌, ◌/◌, ◌%◌, ◌≤◌, ◌<◌, ◌-◌, Bool, true, false, nat_le, nat_lt, nat_eq, List}
use Rattle.std.proofs.Common.{[], ◌∷◌, length, take, drop, refl, sym, ◌∙◌, ap, subst, arith, if◌then◌else◌, Option, Some, None, Result, Ok, Err}
use Rattle.std.proofs.Math.Nat.{mod-add-div', mul-div_cancel}
use Rattle.std.proofs.lemmas.Grind.{common_steps}
use Rattle.std.proofs.lemmas.List.{drop-take, length-take, take-take}
use Rattle.refusal.specs.declared.Refusal.{Refusal}
use Rattle.refusal.specs.declared.Refusal.TheVariants.{LargeWithoutPool}
use Rattle.refusal.specs.Then.{◌>>=◌}
use Rattle.index_entry.specs.Entry.{entry_at}
use Rattle.index_root.specs.Root.{Root, root_of, record_size_of, used_end_of}
use Rattle.index_allocation.specs.Allocation.{Allocation, RecordPlaced, allocation_of, block_of, record_in, record_at}
use Rattle.index_record.specs.Record.{Record, record_of}
use Rattle.directory.specs.Lent.{Lent, Passed, EntryPlaced, NodeSeen}
use Rattle.directory.specs.Directory.{passed, allocation_in, root_node, placed, node_in, again, subnode}
use Rattle.directory.specs.Node.{Entries, placed_at, entry_in, start_after, entries_within, entries_at}
use Rattle.directory.proofs.Openings.{subnode-again}
use Rattle.directory.specs.declared.place.Place.{Place}
use Rattle.directory.specs.declared.place.Place.TheVariants as places
use Rattle.index.specs.declared.cursor.NodeName.TheVariants as names
use Rattle.index.specs.Step.{name_of}
use Rattle.index_node.specs.Node.{record_placed}
use Rattle.index_node.specs.Bytes.{part_of, node_bytes, place_bytes, view_bytes}
use Rattle.c_api.specs.Lies.{holder_of, start_of, AreAt}
use Rattle.c_api.proofs.Places.{are_at-cut, is-of}
use Rattle.c_api_claims.specs.Places.{span_at, place_span, told_words}
use Rattle.claims.specs.Nodes.{RecordInPool, OneVcn, held_by, IsNode, IsItsPlace, IsViewed}

pub record_in-lies : (offset size len r : ℕ) → record_in offset size len ≡ Ok r → (r * size ≡ offset) × (offset + size ≤ len)
unfolding record_in
record_in-lies offset size len r is =
    let divided = mod-add-div' offset size in
    let whole : offset % size ≡ 0 = grind (arith, common_steps) in
    let same : r ≡ offset / size = grind (arith, common_steps) in
    (rw same (omega (arith, divided, whole)), grind (arith, common_steps))

pub record_at-lies : (n cluster size len r : ℕ) → record_at (pos n) cluster size len ≡ Ok r → (0 < cluster) × (r * size ≡ n * cluster) × (n * cluster + size ≤ len)
unfolding record_at block_of
record_at-lies n cluster size len r is =
    let inside : record_in (n * cluster) size len ≡ Ok r = grind (arith, common_steps) in
    let some : 0 < cluster = grind (arith, common_steps) in
    let (lies, fits) = record_in-lies (n * cluster) size len r inside in
    (some, lies, fits)

pub in_pool : RecordInPool
unfolding record_at block_of
in_pool (negsuc n) cluster size len r is = cc
in_pool (pos n) cluster size len r is =
    let (some, lies, fits) = record_at-lies n cluster size len r is in
    record { number = n; not_negative = refl; offset = lies; whole = rw lies fits }

pub one_vcn : OneVcn
unfolding record_at block_of
one_vcn (negsuc n) w cluster size len r one other = cc
one_vcn (pos n) (negsuc m) cluster size len r one other = cc
one_vcn (pos n) (pos m) cluster size len r one other =
    let (some, lies, fits) = record_at-lies n cluster size len r one in
    let (some2, lies2, fits2) = record_at-lies m cluster size len r other in
    let same : n ≡ m = sym (mul-div_cancel n some) ∙ ap (λ k. k / cluster) (sym lies ∙ lies2) ∙ mul-div_cancel m some in
    ap pos same

length-take-most : {A : Type 0} (n : ℕ) (l : List A) → length (take n l) ≤ n
length-take-most n l = let long = length-take n l in grind (arith, common_steps)

entry_at-part : (node : List ℕ) (at : ℕ) (entry : List ℕ) → entry_at node at ≡ Ok entry
    → (take (length entry) (drop at node) ≡ entry) × (at + length entry ≤ length node)
unfolding entry_at
entry_at-part node at entry is = (grind (arith, common_steps), grind (arith, common_steps))

-- an entry of a part that begins what holds it
pub prefix-inside : (held : List ℕ) (used at : ℕ) (entry : List ℕ) → entry_at (take used held) at ≡ Ok entry → at + length entry ≤ length held
prefix-inside held used at entry is =
    let (part, inside) = entry_at-part (take used held) at entry is in
    grind (arith, common_steps)

pub prefix-entry : (held : List ℕ) (used at : ℕ) (entry : List ℕ) → entry_at (take used held) at ≡ Ok entry → part_of held at (length entry) ≡ entry
unfolding part_of
prefix-entry held used at entry is =
    let (part, inside) = entry_at-part (take used held) at entry is in
    let within : at + length entry ≤ used = grind (arith, common_steps) in
    let fits : nat_le (at + length entry) (length held) ≡ true = grind (arith, common_steps) in
    let split : used ≡ at + (used - at) = omega arith in
    let later : drop at (take used held) ≡ take (used - at) (drop at held) = ap (λ n. drop at (take n held)) split ∙ drop-take at (used - at) held in
    rw fits (sym (take-take (length entry) (used - at) (drop at held) (omega arith)) ∙ ap (take (length entry)) (sym later) ∙ part)

pub root_of-is : (bytes : List ℕ) (root : Root) → root_of bytes ≡ Ok root
    → (root.bytes ≡ take (used_end_of bytes) bytes) × (root.record_size ≡ record_size_of bytes)
unfolding root_of
root_of-is bytes root is = (grind (arith, common_steps), grind (arith, common_steps))

pub allocation_of-is : (pool : List ℕ) (record_size cluster_size : ℕ) (a : Allocation) → allocation_of pool record_size cluster_size ≡ Ok a
    → a ≡ record { pool = pool; record_size = record_size; cluster_size = cluster_size }
unfolding allocation_of
allocation_of-is pool record_size cluster_size a is = grind (arith, common_steps)

pub record_of-is : (bytes : List ℕ) (vcn : ℤ) (held : Record) → record_of bytes vcn ≡ Ok held → held.bytes ≡ bytes
unfolding record_of
record_of-is bytes vcn held is = grind (arith, common_steps)

abbrev pub HasPool : Lent → Option Allocation → Type 0
HasPool d (Some a) = a ≡ record { pool = d.pool; record_size = record_size_of d.root; cluster_size = d.cluster_size }
HasPool d None = Unit {0}

-- what passed is what was lent
pub record IsLent (d : Lent) (p : Passed) : Type 0 where
  pub root : p.root.bytes ≡ take (used_end_of d.root) d.root
  pub pool : HasPool d p.allocation

module _ (d : Lent) (p : Passed) where
  module _ (root : Root) (was : root_of d.root ≡ Ok root) where
    abbrev Opens : Result (Option Allocation) Refusal → Type 0
    Opens r = (r >>= λ allocation. Ok (record { root = root; allocation = allocation })) ≡ Ok p

    made : (a : Option Allocation) → HasPool d a → Opens (Ok a) → IsLent d p
    made a has is =
        let same : ◌≡◌ {A = Passed} (record { root = root; allocation = a }) p = cc in
        let P : Passed → Type 0 = IsLent d in subst P same (record { root = (root_of-is d.root root was).0; pool = has })

    among : (r : Result Allocation Refusal) → allocation_of d.pool root.record_size d.cluster_size ≡ r → Opens (r >>= λ a. Ok (Some a)) → IsLent d p
    among (Err refusal) seen is = cc
    among (Ok a) seen is = made (Some a) (rw (root_of-is d.root root was).1 at (allocation_of-is d.pool root.record_size d.cluster_size a seen)) is

    beside : (empty large : Bool)
        → Opens (if empty then (if large then Err LargeWithoutPool else Ok None)
        else allocation_of d.pool root.record_size d.cluster_size >>= λ a. Ok (Some a)) → IsLent d p
    beside true true is = cc
    beside true false is = made None tt is
    beside false large is = among (allocation_of d.pool root.record_size d.cluster_size) refl is

  pub passed-lent : passed d ≡ Ok p → IsLent d p
  unfolding passed
  passed-lent = by (root_of d.root) refl
    where
      by : (r : Result Root Refusal) → root_of d.root ≡ r
          → (r >>= λ root. allocation_in d root >>= λ allocation. Ok (record { root = root; allocation = allocation })) ≡ Ok p → IsLent d p
      by (Err refusal) was is = cc
      by (Ok root) was is = beside root was (nat_eq (length d.pool) 0) root.large is

-- a node that stands where its place says
pub record Stands (d : Lent) (node : NodeSeen) : Type 0 where
  pub named : IsNode d node.place
  pub used : ℕ
  pub held : node.bytes ≡ take used (held_by d node.place)

pub root-stands : (d : Lent) (p : Passed) → passed d ≡ Ok p → Stands d (root_node p)
root-stands d p is = record { named = tt; used = used_end_of d.root; held = (passed-lent d p is).root }

module _ (d : Lent) where
  -- where a record lies in the pool
  abbrev pub at_number : ℕ → List ℕ
  at_number number = take (record_size_of d.root) (drop (number * record_size_of d.root) d.pool)

  record-held : (vcn : ℤ) (number : ℕ) → record_at vcn d.cluster_size (record_size_of d.root) (length d.pool) ≡ Ok number
      → held_by d (places.Record number vcn) ≡ at_number number
  unfolding part_of
  record-held vcn number at =
      let whole = (in_pool vcn d.cluster_size (record_size_of d.root) (length d.pool) number at).whole in
      let fits : nat_le (number * record_size_of d.root + record_size_of d.root) (length d.pool) ≡ true = grind (arith, common_steps) in
      rw fits refl

  -- what holds a node is the node that its name finds
  pub node-found : (place : Place) → IsNode d place → node_bytes d (name_of place) ≡ held_by d place
  unfolding node_bytes record_placed
  node-found places.Root named = refl
  node-found (places.Record number vcn) named = rw named (sym (record-held vcn number named))

  place-found : (place : Place) → IsNode d place → (at size : ℕ) → place_bytes d (name_of place) at size ≡ part_of (held_by d place) at size
  unfolding place_bytes
  place-found place named at size = ap (λ bytes. part_of bytes at size) (node-found place named)

  -- an entry that lies in its node is told by the numbers of its place
  place-told : (place : Place) → IsNode d place → (at size : ℕ) → at + size ≤ length (held_by d place)
      → span_at (holder_of place) (start_of d place + at) size ≡ place_span d (name_of place) at size
  unfolding place_span
  place-told places.Root named at size inside = let fits : nat_le (at + size) (length d.root) ≡ true = grind (arith, common_steps) in rw fits refl
  place-told (places.Record number vcn) named at size inside =
      let held = record-held vcn number named in
      let short = length-take-most (record_size_of d.root) (drop (number * record_size_of d.root) d.pool) in
      let within : at + size ≤ record_size_of d.root = omega (arith, (rw held at inside), short) in
      let fits : nat_le (at + size) (record_size_of d.root) ≡ true = grind (arith, common_steps) in
      rw (named, fits) refl

  -- a record that its VCN leads to, once it is read
  pub read-stands : (r : RecordPlaced) → IsNode d (places.Record r.number r.vcn) → r.bytes ≡ at_number r.number → (node : NodeSeen)
      → node_in r ≡ Ok node → Stands d node
  unfolding node_in
  read-stands r named bytes node = reads (record_of r.bytes r.vcn) refl
    where
      made : Record → NodeSeen
      made held = record { bytes = held.bytes; start = held.start; end = held.end; place = places.Record r.number r.vcn }

      reads : (h : Result Record Refusal) → record_of r.bytes r.vcn ≡ h → (h >>= λ held. Ok (made held)) ≡ Ok node → Stands d node
      reads (Err refusal) seen is = cc
      reads (Ok held) seen is =
          let same : made held ≡ node = cc in
          let size = record_size_of d.root in
          let P : NodeSeen → Type 0 = Stands d in subst P same (record {
            named = named;
            used = size;
            held = record_of-is r.bytes r.vcn held seen ∙ bytes ∙ sym (take-take size size (drop (r.number * size) d.pool) (omega arith))
                ∙ ap (take size) (sym (record-held r.vcn r.number named));
          })

  -- an entry of such a node is where its place says
  pub entry-stands : (node : NodeSeen) → Stands d node → (at : ℕ) (entry : EntryPlaced) → entry_in node at ≡ Ok entry → IsItsPlace d entry
  unfolding entry_in
  entry-stands node stands at entry = by (entry_at node.bytes at) refl
    where
      by : (e : Result (List ℕ) Refusal) → entry_at node.bytes at ≡ e → (e >>= λ bytes. Ok (placed_at node.place at bytes)) ≡ Ok entry → IsItsPlace d entry
      by (Err refusal) was is = cc
      by (Ok bytes) was is =
          let same : ◌≡◌ {A = EntryPlaced} (placed_at node.place at bytes) entry = cc in
          let held = held_by d node.place in
          let its : entry_at (take stands.used held) at ≡ Ok bytes = rw stands.held at was in
          let there : part_of held at (length bytes) ≡ bytes = prefix-entry held stands.used at bytes its in
          let P : EntryPlaced → Type 0 = IsItsPlace d in subst P same (record {
            node = stands.named;
            inside = prefix-inside held stands.used at bytes its;
            held = there;
            bytes = place-found node.place stands.named at (length bytes) ∙ there;
            told = λ opened. ap (told_words opened) (place-told node.place stands.named at (length bytes) (prefix-inside held stands.used at bytes its));
          })

-- bytes that lie in a slice are that part of it
part-lies : (held bytes : List ℕ) (from : ℕ) → AreAt held from bytes → part_of held from (length bytes) ≡ bytes
unfolding part_of
part-lies held bytes from lies =
    let within = lies.within in
    let fits : nat_le (from + length bytes) (length held) ≡ true = grind (arith, common_steps) in
    rw fits lies.same

-- the root, and a record, are part of what holds them
pub root-viewed : (d : Lent) (p : Passed) → passed d ≡ Ok p → IsViewed d names.Root (root_node p)
unfolding view_bytes
root-viewed d p was = part-lies d.root p.root.bytes 0 (is-of d p was).root

pub record-viewed : (d : Lent) (vcn : ℤ) (number : ℕ) → record_at vcn d.cluster_size (record_size_of d.root) (length d.pool) ≡ Ok number
    → (node : NodeSeen) → node_in (record { number = number; vcn = vcn; bytes = at_number d number }) ≡ Ok node → IsViewed d (names.Record vcn) node
unfolding node_in view_bytes
record-viewed d vcn number at node = by (record_of bytes vcn) refl
  where
    bytes : List ℕ
    bytes = at_number d number

    made : Record → NodeSeen
    made held = record { bytes = held.bytes; start = held.start; end = held.end; place = places.Record number vcn }

    by : (h : Result Record Refusal) → record_of bytes vcn ≡ h → (h >>= λ held. Ok (made held)) ≡ Ok node → IsViewed d (names.Record vcn) node
    by (Err refusal) seen is = cc
    by (Ok held) seen is =
        let same : made held ≡ node = cc in
        let its : held.bytes ≡ bytes = record_of-is bytes vcn held seen in
        let whole = (in_pool vcn d.cluster_size (record_size_of d.root) (length d.pool) number at).whole in
        let lies : AreAt d.pool (number * record_size_of d.root) held.bytes =
        subst (λ (b : List ℕ). AreAt d.pool (number * record_size_of d.root) b) (sym its)
        (are_at-cut d.pool (number * record_size_of d.root) (record_size_of d.root) whole) in
        let P : NodeSeen → Type 0 = IsViewed d (names.Record vcn) in subst P same (part-lies d.pool held.bytes (number * record_size_of d.root) lies)

module _ (d : Lent) (p : Passed) (is : passed d ≡ Ok p) where
  abbrev IsAt : ℤ → RecordPlaced → Type 0
  IsAt vcn r = (r.vcn ≡ vcn) × IsNode d (places.Record r.number vcn) × (r.bytes ≡ at_number d r.number)

  placed-is : (vcn : ℤ) (r : RecordPlaced) → placed p.allocation vcn ≡ Ok r → IsAt vcn r
  unfolding placed
  placed-is vcn r = by p.allocation (passed-lent d p is).pool
    where
      by : (a : Option Allocation) → HasPool d a → placed a vcn ≡ Ok r → IsAt vcn r
      by None has is = cc
      by (Some a) has is = at (record_at vcn d.cluster_size (record_size_of d.root) (length d.pool)) refl (rw has at is)
        where
          at : (number : Result ℕ Refusal) → record_at vcn d.cluster_size (record_size_of d.root) (length d.pool) ≡ number
              → (number >>= λ n. Ok (record { number = n; vcn = vcn; bytes = at_number d n })) ≡ Ok r → IsAt vcn r
          at (Err refusal) was is = cc
          at (Ok number) was is =
              let same : ◌≡◌ {A = RecordPlaced} (record { number = number; vcn = vcn; bytes = at_number d number }) r = cc in
              let P : RecordPlaced → Type 0 = IsAt vcn in subst P same (refl, was, refl)

  pub again-stands : (vcn : ℤ) (node : NodeSeen) → again p vcn ≡ Ok node → Stands d node
  unfolding again
  again-stands vcn node = by (placed p.allocation vcn) refl
    where
      by : (r : Result RecordPlaced Refusal) → placed p.allocation vcn ≡ r → (r >>= node_in) ≡ Ok node → Stands d node
      by (Err refusal) was is = cc
      by (Ok r) was is =
          let (its_vcn, leads, bytes) = placed-is vcn r was in
          let named : IsNode d (places.Record r.number r.vcn) = rw its_vcn leads in
          read-stands d r named bytes node is

  -- an entry of such a node is where its place says
  pub entry_in-placed : (node : NodeSeen) → Stands d node → (at : ℕ) (entry : EntryPlaced) → entry_in node at ≡ Ok entry → IsItsPlace d entry
  entry_in-placed = entry-stands d

  abbrev pub IsGood : Result EntryPlaced Refusal → Type 0
  IsGood (Ok entry) = IsItsPlace d entry
  IsGood (Err refusal) = Unit {0}

  abbrev pub AllGood : Entries → Type 0
  AllGood [] = Unit {0}
  AllGood (entry ∷ rest) = IsGood entry × AllGood rest

  pub entry_in-good : (node : NodeSeen) → Stands d node → (at : ℕ) → IsGood (entry_in node at)
  entry_in-good node stands at = by (entry_in node at) refl
    where
      by : (e : Result EntryPlaced Refusal) → entry_in node at ≡ e → IsGood e
      by (Ok entry) is = entry_in-placed node stands at entry is
      by (Err refusal) is = tt

  entries_within-good : (steps : ℕ) (node : NodeSeen) → Stands d node → (at : ℕ) → AllGood (entries_within steps node at)
  unfolding entries_within
  entries_within-good zero node stands at = tt
  entries_within-good (suc steps) node stands at =
      by (nat_lt at node.end) (entries_within-good steps node stands (start_after node at (entry_in node at)))
    where
      by : (inside : Bool) → AllGood (entries_within steps node (start_after node at (entry_in node at)))
          → AllGood (if inside then entry_in node at ∷ entries_within steps node (start_after node at (entry_in node at)) else [])
      by true rest = (entry_in-good node stands at, rest)
      by false rest = tt

  pub entries_at-good : (node : NodeSeen) → Stands d node → (at : ℕ) → AllGood (entries_at node at)
  unfolding entries_at
  entries_at-good node stands at = entries_within-good (node.end - at) node stands at

  -- and a subnode is such a node
  pub subnode-stands : (left : ℕ) (spent : Bool) (entry : List ℕ) (node : NodeSeen) → subnode p left spent entry ≡ Ok (Some node) → Stands d node
  subnode-stands left spent entry node opens = let (number, vcn, place, again) = subnode-again p left spent entry node opens in again-stands vcn node again
