-- Where a record lies, and what a subnode is made of.
use Rattle.std.proofs.Common.{zero, suc, ℕ, ℤ, pos, negsuc, ◌≡◌, ◌+◌, ◌*◌, ◌/◌, ◌%◌, ◌<◌, ◌≤◌, Bool, true, false, not, nat_eq, nat_lt, ◌&&◌, ◌||◌, List, length}
use Rattle.std.proofs.Common.{refl, sym, ◌∙◌, ap, subst, arith, if◌then◌else◌, Option, Some, None, Result, Ok, Err}
use Rattle.std.proofs.Math.Nat.{le-div_iff_mul-le, div-mul-le_self}
use Rattle.std.proofs.lemmas.Grind.{common_steps}
use Rattle.refusal.specs.declared.Refusal.{Refusal}
use Rattle.refusal.specs.declared.Refusal.TheVariants.{LargeWithoutPool, SizeNotAllowed, PoolNotWholeRecords, VcnNowhere, TooManyLevels, AllowanceSpent}
use Rattle.refusal.specs.Then.{◌>>=◌}
use Rattle.index_entry.specs.Entry.{subnode_of}
use Rattle.index_root.specs.Root.{Root, root_of}
use Rattle.index_allocation.specs.Allocation.{Allocation, RecordPlaced, record_limit, cluster_limit, is_size, sizes_judged, allocation_of, block_of, record_in}
use Rattle.index_allocation.specs.Allocation.{record_at, placed_in, bytes_of}
use Rattle.index_record.specs.Record.{Record, record_of}
use Rattle.directory.specs.declared.place.Place.TheVariants as places
use Rattle.directory.specs.Directory.{passed, allocation_in, records_in, wanted, node_in, opening, opening_of, subnode}
use Rattle.directory.specs.Lent.{Lent, Passed, NodeSeen}
use Rattle.sound.specs.Fit.{number_in}

abbrev pub HasSizes : Option Allocation → Type 0
HasSizes (Some a) = 0 < a.record_size
HasSizes None = Unit {0}

-- the least size that is allowed
pub is_size-least : (most size : ℕ) → is_size most size ≡ true → 512 ≤ size
is_size-least most size is = grind (arith, common_steps)

record_in-within : (offset size pool number : ℕ) → 0 < size → record_in offset size pool ≡ Ok number → number < pool / size
unfolding record_in
record_in-within offset size pool number some = by (nat_eq (offset % size) 0) (nat_lt pool (offset + size)) refl
  where
    by : (whole short : Bool) → nat_lt pool (offset + size) ≡ short
        → (if not whole then Err VcnNowhere else if short then Err VcnNowhere else Ok (offset / size)) ≡ Ok number → number < pool / size
    by false short test is = absurd (let P : ⊥ = cc in P)
    by true true test is = absurd (let P : ⊥ = cc in P)
    by true false test is =
        let same : offset / size ≡ number = cc in
        let inside : offset + size ≤ pool = grind (arith, common_steps) in
        let low = div-mul-le_self offset size in
        let room : (offset / size + 1) * size ≤ pool = omega arith in
        let fits : offset / size + 1 ≤ pool / size = (le-div_iff_mul-le some).1 room in
        let P : ℕ → Type 0 = λ n. n < pool / size in subst P same (omega arith)

record_at-within : (vcn : ℤ) (cluster size pool number : ℕ) → 0 < size → record_at vcn cluster size pool ≡ Ok number → number < pool / size
unfolding record_at block_of
record_at-within (negsuc v) cluster size pool number some is = absurd (let P : ⊥ = cc in P)
record_at-within (pos v) cluster size pool number some is = by (nat_eq size 0 || nat_eq cluster 0) is
  where
    by : (none : Bool) → (if none then Err VcnNowhere else record_in (v * cluster) size pool) ≡ Ok number → number < pool / size
    by true is = absurd (let P : ⊥ = cc in P)
    by false is = record_in-within (v * cluster) size pool number some is

size_in : Result Allocation Refusal → ℕ
size_in (Ok a) = a.record_size
size_in (Err refusal) = 1

allocation-sizes : (pool : List ℕ) (record_size cluster_size : ℕ) (a : Allocation) → allocation_of pool record_size cluster_size ≡ Ok a → 0 < a.record_size
unfolding allocation_of sizes_judged size_in
allocation-sizes pool zero cluster_size a is = absurd (let P : ⊥ = cc in P)
allocation-sizes pool (suc n) cluster_size a is =
    let P : ℕ → Type 0 = λ x. 0 < x in
    subst P (ap size_in is) (by (is_size record_limit (suc n) && is_size cluster_limit cluster_size) (nat_eq (length pool % suc n) 0))
  where
    by : (allowed whole : Bool)
        → 0 < size_in ((if not allowed then Err SizeNotAllowed else if not whole then Err PoolNotWholeRecords else Ok tt) >>= λ (fine : Unit {0}). Ok
        (record { pool = pool; record_size = suc n; cluster_size = cluster_size }))
    by false whole = omega arith
    by true false = omega arith
    by true true = omega arith

pub passed-sizes : (lent : Lent) (d : Passed) → passed lent ≡ Ok d → HasSizes d.allocation
unfolding passed
passed-sizes lent d = by (root_of lent.root)
  where
    made : (root : Root) (r : Result (Option Allocation) Refusal) → ((a : Option Allocation) → r ≡ Ok a → HasSizes a)
        → (r >>= λ allocation. Ok (record { root = root; allocation = allocation })) ≡ Ok d → HasSizes d.allocation
    made root (Ok a) sizes is = let P : Option Allocation → Type 0 = HasSizes in subst P (allocation_then is) (sizes a refl)
      where
        allocation_then : ◌≡◌ {A = Result Passed Refusal} (Ok (record { root = root; allocation = a })) (Ok d) → a ≡ d.allocation
        allocation_then same = ap allocation_of_result same
          where
            allocation_of_result : Result Passed Refusal → Option Allocation
            allocation_of_result (Ok x) = x.allocation
            allocation_of_result (Err refusal) = a
    made root (Err refusal) sizes is = absurd (let P : ⊥ = cc in P)

    sized : (record_size : ℕ) (empty large : Bool) (a : Option Allocation)
        → (if empty then (if large then Err LargeWithoutPool else Ok None) else (allocation_of lent.pool record_size lent.cluster_size >>= λ x. Ok (Some x)))
        ≡ Ok a → HasSizes a
    sized record_size true large None is = tt
    sized record_size true true (Some a) is = absurd (let P : ⊥ = cc in P)
    sized record_size true false (Some a) is = absurd (let P : ⊥ = cc in P)
    sized record_size false large a is = from (allocation_of lent.pool record_size lent.cluster_size) refl a is
      where
        from : (r : Result Allocation Refusal) → allocation_of lent.pool record_size lent.cluster_size ≡ r → (x : Option Allocation)
            → (r >>= λ y. Ok (Some y)) ≡ Ok x → HasSizes x
        from (Ok y) eq (Some x) is = let same : y ≡ x = cc in allocation-sizes lent.pool record_size lent.cluster_size x (eq ∙ ap Ok same)
        from (Ok y) eq None is = tt
        from (Err refusal) eq x is = absurd (let P : ⊥ = cc in P)

    by : (r : Result Root Refusal) → (r >>= λ root. allocation_in lent root >>= λ allocation. Ok (record { root = root; allocation = allocation })) ≡ Ok d
        → HasSizes d.allocation
    by (Ok root) is = made root (allocation_in lent root) (sized root.record_size (nat_eq (length lent.pool) 0) root.large) is
    by (Err refusal) is = absurd (let P : ⊥ = cc in P)

placed-within : (a : Allocation) (vcn : ℤ) (r : RecordPlaced) → 0 < a.record_size → placed_in a vcn ≡ Ok r → r.number < length a.pool / a.record_size
placed-within a vcn r some = by (record_at vcn a.cluster_size a.record_size (length a.pool)) refl
  where
    number_then : (n : ℕ) → ◌≡◌ {A = Result RecordPlaced Refusal} (Ok (record { number = n; vcn = vcn; bytes = bytes_of a n })) (Ok r) → n ≡ r.number
    number_then n same = ap number_of_result same
      where
        number_of_result : Result RecordPlaced Refusal → ℕ
        number_of_result (Ok x) = x.number
        number_of_result (Err refusal) = n

    by : (number : Result ℕ Refusal) → record_at vcn a.cluster_size a.record_size (length a.pool) ≡ number
        → (number >>= λ n. Ok (record { number = n; vcn = vcn; bytes = bytes_of a n })) ≡ Ok r
        → r.number < length a.pool / a.record_size
    by (Ok n) eq is = let P : ℕ → Type 0 = λ x. x < length a.pool / a.record_size in
        subst P (number_then n is) (record_at-within vcn a.cluster_size a.record_size (length a.pool) n some eq)
    by (Err refusal) eq is = absurd (let P : ⊥ = cc in P)

abbrev gated : (none spent : Bool) → Result RecordPlaced Refusal → Result RecordPlaced Refusal
gated none spent r = if none then Err TooManyLevels else if spent then Err AllowanceSpent else r

pub wanted-within : (a : Option Allocation) (left : ℕ) (spent : Bool) (vcn : ℤ) (r : RecordPlaced) → HasSizes a → wanted a left spent vcn ≡ Ok r
    → r.number < records_in a
unfolding wanted
wanted-within None left spent vcn r sizes is = absurd (let P : ⊥ = cc in P)
wanted-within (Some a) left spent vcn r sizes is = placed-within a vcn r sizes (by (nat_eq left 0) spent is)
  where
    by : (none spent : Bool) → gated none spent (placed_in a vcn) ≡ Ok r → placed_in a vcn ≡ Ok r
    by true spent is = absurd (let P : ⊥ = cc in P)
    by false true is = absurd (let P : ⊥ = cc in P)
    by false false is = is

-- what a subnode is made of
pub record IsMade (d : Passed) (left : ℕ) (entry : List ℕ) (node : NodeSeen) : Type 0 where
  pub vcn : ℤ
  pub placed : RecordPlaced
  pub wants : subnode_of entry ≡ Ok (Some vcn)
  pub lies : wanted d.allocation left false vcn ≡ Ok placed
  pub holds : node_in placed ≡ Ok node
  pub number : number_in node.place ≡ placed.number

pub node_in-number : (r : RecordPlaced) (node : NodeSeen) → node_in r ≡ Ok node → number_in node.place ≡ r.number
unfolding node_in
node_in-number r node = by (record_of r.bytes r.vcn)
  where
    number_of_result : Result NodeSeen Refusal → ℕ
    number_of_result (Ok x) = number_in x.place
    number_of_result (Err refusal) = 0

    by : (held : Result Record Refusal)
        → (held >>= λ h. Ok (record { bytes = h.bytes; start = h.start; end = h.end; place = places.Record r.number r.vcn })) ≡ Ok node
        → number_in node.place ≡ r.number
    by (Ok held) is = sym (ap number_of_result is)
    by (Err refusal) is = absurd (let P : ⊥ = cc in P)

pub subnode-made : (d : Passed) (left : ℕ) (entry : List ℕ) (node : NodeSeen) → subnode d left false entry ≡ Ok (Some node) → IsMade d left entry node
unfolding subnode opening
subnode-made d left entry node = by (subnode_of entry) refl
  where
    by : (vcn : Result (Option ℤ) Refusal) → subnode_of entry ≡ vcn → opening_of d left false vcn ≡ Ok (Some node) → IsMade d left entry node
    by (Ok None) wants is = absurd (let P : ⊥ = cc in P)
    by (Err refusal) wants is = absurd (let P : ⊥ = cc in P)
    by (Ok (Some vcn)) wants is = opens (wanted d.allocation left false vcn) refl is
      where
        opens : (w : Result RecordPlaced Refusal) → wanted d.allocation left false vcn ≡ w → ((w >>= node_in) >>= λ n. Ok (Some n)) ≡ Ok (Some node)
            → IsMade d left entry node
        opens (Err refusal) lies is = absurd (let P : ⊥ = cc in P)
        opens (Ok r) lies is = holds (node_in r) refl is
          where
            holds : (n : Result NodeSeen Refusal) → node_in r ≡ n → (n >>= λ x. Ok (Some x)) ≡ Ok (Some node) → IsMade d left entry node
            holds (Err refusal) reads is = absurd (let P : ⊥ = cc in P)
            holds (Ok n) reads is =
                let same : n ≡ node = cc in
                let stands : node_in r ≡ Ok node = reads ∙ ap Ok same in
                record { vcn = vcn; placed = r; wants = wants; lies = lies; holds = stands; number = node_in-number r node stands }
