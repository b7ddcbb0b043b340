-- Where the nodes of a directory, and the entries in them, lie in what was lent.
use Rattle.std.proofs.Common.{zero, suc, ℕ, ℤ, ◌≡◌, ◌+◌, ◌-◌, ◌*◌, ◌/◌, ◌%◌, ◌≤◌, Bool, true, false, not, ◌||◌, ◌==◌, nat_eq, nat_lt, nat_le, List}
use Rattle.std.proofs.Common.{[], ◌∷◌, length, take, drop, refl, sym, ◌∙◌, ap, subst, arith, if◌then◌else◌, Option, Some, None, Result, Ok, Err}
use Rattle.std.proofs.Common.{length-drop}
use Rattle.std.proofs.Math.Nat.{div-mul-le_self}
use Rattle.std.proofs.lemmas.Grind.{common_steps}
use Rattle.std.proofs.lemmas.List.{drop-drop, drop-take, length-take-le, take-take}
use Rattle.refusal.specs.declared.Refusal.{Refusal}
use Rattle.refusal.specs.declared.Refusal.TheVariants.{RootTooShort, RootStartOutside, RootEndOutside, RootStartPastEnd, EntrySize, VcnNowhere}
use Rattle.refusal.specs.declared.Refusal.TheVariants.{LargeWithoutPool}
use Rattle.refusal.specs.Then.{◌>>=◌}
use Rattle.le.specs.Le.{le_at}
use Rattle.index_entry.specs.Entry.{entry_at, header_size}
use Rattle.index_root.specs.Root.{Root, root_of, record_size_of, start_of as root_start_of, used_end_of, is_large}
use Rattle.index_allocation.specs.Allocation.{Allocation, RecordPlaced, allocation_of, sizes_judged, block_of, record_in, record_at, bytes_of}
use Rattle.index_record.specs.Record.{Record, record_of}
use Rattle.directory.specs.Lent.{Lent, Passed, EntryPlaced, NodeSeen}
use Rattle.directory.specs.declared.place.Place.TheVariants as places
use Rattle.directory.specs.Directory.{passed, allocation_in, root_node, placed, node_in, again}
use Rattle.directory.specs.Node.{entry_in, placed_at, Entries, entries_within, entries_at, entries_of, start_after}
use Rattle.c_api.specs.Lies.{holder_of, start_of, held_by, AreAt, Lies}

-- what an answer went through
pub went : {A B : Type 0} (r : Result A Refusal) (next : A → Result B Refusal) (x : B) → (r >>= next) ≡ Ok x → (a : A) × (r ≡ Ok a) × (next a ≡ Ok x)
went (Ok a) next x is = (a, refl, is)
went (Err refusal) next x is = absurd (let P : ⊥ = cc in P)

pub are_at-cut : (held : List ℕ) (from size : ℕ) → from + size ≤ length held → AreAt held from (take size (drop from held))
are_at-cut held from size fits =
    let rest = length-drop from held in
    let long : length (take size (drop from held)) ≡ size = length-take-le size (drop from held) (omega arith) in
    record { within = omega arith; same = rw long refl }

-- a part of what lies there lies there
pub are_at-part : (held bytes part : List ℕ) (from at : ℕ) → AreAt held from bytes → AreAt bytes at part → AreAt held (from + at) part
are_at-part held bytes part from at outer inner =
    record {
      within = omega (arith, outer.within, inner.within);
      same =
          sym (take-take (length part) (length bytes - at) (drop (from + at) held) (omega (arith, inner.within))) ∙ ap (take (length part)) again ∙ inner.same;
    }
  where
    again : take (length bytes - at) (drop (from + at) held) ≡ drop at bytes
    again =
        let whole : at + (length bytes - at) ≡ length bytes = omega (arith, inner.within) in
        ap (take (length bytes - at)) (sym (drop-drop at from held)) ∙ sym (drop-take at (length bytes - at) (drop from held))
        ∙ ap (drop at) (ap (λ n. take n (drop from held)) whole ∙ outer.same)

pub entry-is_at : (node : List ℕ) (at : ℕ) (entry : List ℕ) → entry_at node at ≡ Ok entry → AreAt node at entry
unfolding entry_at
entry-is_at node at entry =
    by (nat_lt (length node) (at + header_size)) (nat_lt (le_at 2 node (at + 8)) header_size) (nat_lt (length node) (at + le_at 2 node (at + 8))) refl
  where
    by : (short small past : Bool) → nat_lt (length node) (at + le_at 2 node (at + 8)) ≡ past
        → (if short then Err EntrySize else if small then Err EntrySize else if past then Err EntrySize else Ok (take (le_at 2 node (at + 8))
        (drop at node))) ≡ Ok entry → AreAt node at entry
    by true small past test is = absurd (let P : ⊥ = cc in P)
    by false true past test is = absurd (let P : ⊥ = cc in P)
    by false false true test is = absurd (let P : ⊥ = cc in P)
    by false false false test is =
        let same : take (le_at 2 node (at + 8)) (drop at node) ≡ entry = cc in
        let P : List ℕ → Type 0 = λ bytes. AreAt node at bytes in
        subst P same (are_at-cut node at (le_at 2 node (at + 8)) (grind (arith, common_steps)))

record RootSeen (lent : List ℕ) (root : Root) : Type 0 where
  pub bytes : AreAt lent 0 root.bytes
  pub size : root.record_size ≡ record_size_of lent

abbrev root_seen : List ℕ → Root
root_seen lent = record { bytes = take (used_end_of lent) lent; start = root_start_of lent; record_size = record_size_of lent; large = is_large lent }

root-seen : (lent : List ℕ) (root : Root) → root_of lent ≡ Ok root → RootSeen lent root
unfolding root_of
root-seen lent root =
    by (nat_lt (length lent) 32) (nat_le (length lent) (root_start_of lent)) (nat_lt (length lent) (used_end_of lent))
    (nat_lt (used_end_of lent) (root_start_of lent)) refl
  where
    by : (short start past over : Bool) → nat_lt (length lent) (used_end_of lent) ≡ past
        → (if short then Err RootTooShort else if start then Err RootStartOutside else if past then Err RootEndOutside else
        if over then Err RootStartPastEnd else Ok (root_seen lent)) ≡ Ok root
        → RootSeen lent root
    by true start past over test is = absurd (let P : ⊥ = cc in P)
    by false true past over test is = absurd (let P : ⊥ = cc in P)
    by false false true over test is = absurd (let P : ⊥ = cc in P)
    by false false false true test is = absurd (let P : ⊥ = cc in P)
    by false false false false test is =
        let same : root_seen lent ≡ root = cc in
        subst (RootSeen lent) same (record { bytes = are_at-cut lent 0 (used_end_of lent) (grind (arith, common_steps)); size = refl })

-- the pool and the size of its records are those lent
abbrev pub IsPool : Lent → Option Allocation → Type 0
IsPool lent (Some a) = (a.pool ≡ lent.pool) × (a.record_size ≡ record_size_of lent.root)
IsPool lent None = Unit {0}

pub record IsOf (lent : Lent) (d : Passed) : Type 0 where
  pub root : AreAt lent.root 0 d.root.bytes
  pub pool : IsPool lent d.allocation

allocation-pool : (pool : List ℕ) (record_size cluster_size : ℕ) (a : Allocation) → allocation_of pool record_size cluster_size ≡ Ok a
    → (a.pool ≡ pool) × (a.record_size ≡ record_size)
unfolding allocation_of
allocation-pool pool record_size cluster_size a is =
    let fine = went (sizes_judged record_size cluster_size (length pool))
    (λ fine. Ok (record { pool = pool; record_size = record_size; cluster_size = cluster_size })) a is in
    (ap (λ (r : Result Allocation Refusal). pool_in r) (sym fine.2), ap (λ (r : Result Allocation Refusal). size_in r) (sym fine.2))
  where
    pool_in : Result Allocation Refusal → List ℕ
    pool_in (Ok x) = x.pool
    pool_in (Err refusal) = pool

    size_in : Result Allocation Refusal → ℕ
    size_in (Ok x) = x.record_size
    size_in (Err refusal) = record_size

-- what passed is of what was lent
pub is-of : (lent : Lent) (d : Passed) → passed lent ≡ Ok d → IsOf lent d
unfolding passed
is-of lent d is =
    let root = went (root_of lent.root) (λ root. allocation_in lent root >>= λ allocation. Ok (record { root = root; allocation = allocation })) d is in
    let rest = went (allocation_in lent root.0) (λ allocation. Ok (record { root = root.0; allocation = allocation })) d root.2 in
    let seen = root-seen lent.root root.0 root.1 in
    of root.0 rest.0 rest.2 seen (pool root.0 rest.0 (nat_eq (length lent.pool) 0) rest.1 seen.size)
  where
    of : (root : Root) (a : Option Allocation) → ◌≡◌ {A = Result Passed Refusal} (Ok (record { root = root; allocation = a })) (Ok d)
        → RootSeen lent.root root → IsPool lent a → IsOf lent d
    of root a is seen pool =
        let same : record { root = root; allocation = a } ≡ d = cc in
        subst (IsOf lent) same (record { root = seen.bytes; pool = pool })

    pool : (root : Root) (a : Option Allocation) (empty : Bool)
        → (if empty then (if root.large then Err LargeWithoutPool else Ok None) else
        allocation_of lent.pool root.record_size lent.cluster_size >>= λ allocation. Ok (Some allocation)) ≡ Ok a
        → root.record_size ≡ record_size_of lent.root → IsPool lent a
    pool root None empty is size = tt
    pool root (Some a) true is size = none root.large is
      where
        none : (large : Bool) → (if large then Err LargeWithoutPool else Ok None) ≡ Ok (Some a) → IsPool lent (Some a)
        none true is = absurd (let P : ⊥ = cc in P)
        none false is = absurd (let P : ⊥ = cc in P)
    pool root (Some a) false is size =
        let its = went (allocation_of lent.pool root.record_size lent.cluster_size) (λ allocation. Ok (Some allocation)) (Some a) is in
        let same : its.0 ≡ a = let some = its.2 in cc in
        let seen = allocation-pool lent.pool root.record_size lent.cluster_size a (its.1 ∙ ap Ok same) in
        (seen.0, seen.1 ∙ size)

-- a node lies where its place says
abbrev pub NodeLies : Lent → NodeSeen → Type 0
NodeLies lent node = AreAt (held_by lent (holder_of node.place)) (start_of lent node.place) node.bytes

pub root-lies : (lent : Lent) (d : Passed) → IsOf lent d → NodeLies lent (root_node d)
root-lies lent d of = of.root

record_at-inside : (vcn : ℤ) (cluster_size record_size pool number : ℕ) → record_at vcn cluster_size record_size pool ≡ Ok number
    → number * record_size + record_size ≤ pool
unfolding record_at record_in
record_at-inside vcn cluster_size record_size pool number is =
    let block = went (block_of vcn)
    (λ cluster. if record_size == 0 || cluster_size == 0 then Err VcnNowhere else record_in (cluster * cluster_size) record_size pool) number is in
    sized block.0 (nat_eq record_size 0 || nat_eq cluster_size 0) block.2
  where
    whole : (offset : ℕ) (aligned short : Bool) → nat_lt pool (offset + record_size) ≡ short
        → (if not aligned then Err VcnNowhere else if short then Err VcnNowhere else Ok (offset / record_size)) ≡ Ok number
        → number * record_size + record_size ≤ pool
    whole offset false short test is = absurd (let P : ⊥ = cc in P)
    whole offset true true test is = absurd (let P : ⊥ = cc in P)
    whole offset true false test is =
        let same : offset / record_size ≡ number = cc in
        let low = div-mul-le_self offset record_size in
        let inside : offset + record_size ≤ pool = grind (arith, common_steps) in
        let P : ℕ → Type 0 = λ n. n * record_size + record_size ≤ pool in
        subst P same (omega arith)

    sized : (cluster : ℕ) (none : Bool) → (if none then Err VcnNowhere else record_in (cluster * cluster_size) record_size pool) ≡ Ok number
        → number * record_size + record_size ≤ pool
    sized cluster true is = absurd (let P : ⊥ = cc in P)
    sized cluster false is =
        whole (cluster * cluster_size) (nat_eq (cluster * cluster_size % record_size) 0) (nat_lt pool (cluster * cluster_size + record_size)) refl is

record_of-bytes : (bytes : List ℕ) (vcn : ℤ) (held : Record) → record_of bytes vcn ≡ Ok held → held.bytes ≡ bytes
unfolding record_of
record_of-bytes bytes vcn held is = grind (arith, common_steps)

-- what is read of a record lies where the record does
abbrev RecordLies : Lent → RecordPlaced → Type 0
RecordLies lent r = AreAt lent.pool (r.number * record_size_of lent.root) r.bytes

node_in-lies : (lent : Lent) (r : RecordPlaced) (node : NodeSeen) → RecordLies lent r → node_in r ≡ Ok node → NodeLies lent node
unfolding node_in
node_in-lies lent r node lies is =
    let held = went (record_of r.bytes r.vcn)
    (λ h. Ok (record { bytes = h.bytes; start = h.start; end = h.end; place = places.Record r.number r.vcn })) node is in
    let bytes = record_of-bytes r.bytes r.vcn held.0 held.1 in
    of held.0 held.2 (subst (λ (b : List ℕ). AreAt lent.pool (r.number * record_size_of lent.root) b) (sym bytes) lies)
  where
    of : (h : Record) → ◌≡◌ {A =
        Result NodeSeen Refusal} (Ok (record { bytes = h.bytes; start = h.start; end = h.end; place = places.Record r.number r.vcn })) (Ok node)
        → AreAt lent.pool (r.number * record_size_of lent.root) h.bytes → NodeLies lent node
    of h is lies =
        let same : record { bytes = h.bytes; start = h.start; end = h.end; place = places.Record r.number r.vcn } ≡ node = cc in
        subst (NodeLies lent) same lies

placed-lies : (lent : Lent) (a : Option Allocation) (vcn : ℤ) (r : RecordPlaced) → IsPool lent a → placed a vcn ≡ Ok r → RecordLies lent r
unfolding placed
placed-lies lent None vcn r of is = absurd (let P : ⊥ = cc in P)
placed-lies lent (Some a) vcn r of is =
    let number = went (record_at vcn a.cluster_size a.record_size (length a.pool)) (λ n. Ok (record { number = n; vcn = vcn; bytes = bytes_of a n })) r is in
    let inside = record_at-inside vcn a.cluster_size a.record_size (length a.pool) number.0 number.1 in
    there number.0 number.2 (subst (λ (pool : List ℕ). AreAt pool (number.0 * record_size_of lent.root) (bytes_of a number.0)) of.0
    (subst (λ (size : ℕ). AreAt a.pool (number.0 * size) (bytes_of a number.0)) of.1 (are_at-cut a.pool (number.0 * a.record_size) a.record_size inside)))
  where
    there : (n : ℕ) → ◌≡◌ {A = Result RecordPlaced Refusal} (Ok (record { number = n; vcn = vcn; bytes = bytes_of a n })) (Ok r)
        → AreAt lent.pool (n * record_size_of lent.root) (bytes_of a n) → RecordLies lent r
    there n is lies = let same : record { number = n; vcn = vcn; bytes = bytes_of a n } ≡ r = cc in subst (RecordLies lent) same lies

-- the node that a VCN leads to
pub again-lies : (lent : Lent) (d : Passed) (vcn : ℤ) (node : NodeSeen) → IsOf lent d → again d vcn ≡ Ok node → NodeLies lent node
unfolding again
again-lies lent d vcn node of is =
    let r = went (placed d.allocation vcn) node_in node is in
    node_in-lies lent r.0 node (placed-lies lent d.allocation vcn r.0 of.pool r.1) r.2

-- an entry of a node that lies there
pub entry-lies : (lent : Lent) (node : NodeSeen) (at : ℕ) (entry : EntryPlaced) → NodeLies lent node → entry_in node at ≡ Ok entry → Lies lent entry
unfolding entry_in
entry-lies lent node at entry lies is =
    let bytes = went (entry_at node.bytes at) (λ e. Ok (placed_at node.place at e)) entry is in
    there bytes.0 bytes.2
    (are_at-part (held_by lent (holder_of node.place)) node.bytes bytes.0 (start_of lent node.place) at lies (entry-is_at node.bytes at bytes.0 bytes.1))
  where
    there : (e : List ℕ) → ◌≡◌ {A = Result EntryPlaced Refusal} (Ok (placed_at node.place at e)) (Ok entry)
        → AreAt (held_by lent (holder_of node.place)) (start_of lent node.place + at) e → Lies lent entry
    there e is lies = let same : placed_at node.place at e ≡ entry = cc in subst (Lies lent) same lies

-- all of them
abbrev pub AllLie : Lent → Entries → Type 0
AllLie lent [] = Unit {0}
AllLie lent (Ok entry ∷ rest) = Lies lent entry × AllLie lent rest
AllLie lent (Err refusal ∷ rest) = AllLie lent rest

entries_within-lie : (lent : Lent) (steps : ℕ) (node : NodeSeen) (at : ℕ) → NodeLies lent node → AllLie lent (entries_within steps node at)
unfolding entries_within
entries_within-lie lent zero node at lies = tt
entries_within-lie lent (suc steps) node at lies =
    by (nat_lt at node.end) (entry_in node at) refl (λ entry. entries_within-lie lent steps node (start_after node at entry) lies)
  where
    by : (inside : Bool) (entry : Result EntryPlaced Refusal) → entry_in node at ≡ entry
        → ((e : Result EntryPlaced Refusal) → AllLie lent (entries_within steps node (start_after node at e)))
        → AllLie lent (if inside then entry ∷ entries_within steps node (start_after node at entry) else [])
    by true (Ok entry) is rest = (entry-lies lent node at entry lies is, rest (Ok entry))
    by true (Err refusal) is rest = rest (Err refusal)
    by false entry is rest = tt

pub entries-lie : (lent : Lent) (node : NodeSeen) → NodeLies lent node → AllLie lent (entries_of node)
unfolding entries_at
entries-lie lent node lies = entries_within-lie lent (node.end - node.start) node node.start lies
