-- What an opening is at the last level, and where the allowance is spent.
use Rattle.std.proofs.Common.{zero, suc, ℕ, ℤ, ◌≡◌, ◌<◌, arith, Bool, true, false, nat_eq, refl, Option, Some, None, Result, Ok, Err, List, length, ◌≢◌, ap, sym, ◌∙◌, cond, ◌⊎◌, inl, inr}
use Rattle.refusal.specs.declared.Refusal.{Refusal}
use Rattle.refusal.specs.declared.Refusal.TheVariants.{SubnodeWithoutPool, TooManyLevels, AllowanceSpent}
use Rattle.refusal.specs.Then.{◌>>=◌}
use Rattle.index_entry.specs.Entry.{subnode_of}
use Rattle.index_allocation.specs.Allocation.{Allocation, RecordPlaced, record_at, placed_in, bytes_of}
use Rattle.index_record.specs.Record.{Record, record_of}
use Rattle.directory.specs.declared.place.Place.TheVariants as places
use Rattle.directory.specs.Lent.{Passed, NodeSeen}
use Rattle.directory.specs.Directory.{opening, opening_of, subnode, wanted, node_in, placed, again}

pub wanted-none_left : (a : Option Allocation) (spent : Bool) (vcn : ℤ) → (refusal : Refusal) × (wanted a 0 spent vcn ≡ Err refusal)
unfolding wanted
wanted-none_left (Some a) spent vcn = (TooManyLevels, refl)
wanted-none_left None spent vcn = (SubnodeWithoutPool, refl)

-- with no level left nothing is opened
pub opening-none_left : (d : Passed) (spent : Bool) (vcn : ℤ) → (refusal : Refusal) × (opening d 0 spent vcn ≡ Err refusal)
unfolding opening
opening-none_left d spent vcn = by (wanted-none_left d.allocation spent vcn)
  where
    by : (refusal : Refusal) × (wanted d.allocation 0 spent vcn ≡ Err refusal) → (refusal : Refusal) × ((wanted d.allocation 0 spent vcn >>= node_in) ≡ Err refusal)
    by (refusal, is) = (refusal, rw is refl)

abbrev allowed : (none spent : Bool) → Result RecordPlaced Refusal → Result RecordPlaced Refusal
allowed none spent r = cond none (Err TooManyLevels) (cond spent (Err AllowanceSpent) r)

-- so an entry has no subnode there
pub subnode-none_left : (d : Passed) (spent : Bool) (entry : List ℕ) (node : NodeSeen) → subnode d 0 spent entry ≢ Ok (Some node)
unfolding subnode
subnode-none_left d spent entry node = by (subnode_of entry)
  where
    by : (vcn : Result (Option ℤ) Refusal) → opening_of d 0 spent vcn ≢ Ok (Some node)
    by (Ok (Some vcn)) is = none (opening-none_left d spent vcn)
      where
        none : (refusal : Refusal) × (opening d 0 spent vcn ≡ Err refusal) → ⊥
        none (refusal, refused) = let no = sym (ap (λ r. r >>= λ seen. Ok (Some seen)) refused) ∙ is in cc
    by (Ok None) is = cc
    by (Err refusal) is = cc

-- where the allowance is spent the answer is 12, or the same under any allowance
wanted-spent : (a : Option Allocation) (left : ℕ) (vcn : ℤ) → (wanted a left true vcn ≡ Err AllowanceSpent) ⊎ ((spent : Bool) → wanted a left spent vcn ≡ wanted a left true vcn)
unfolding wanted
wanted-spent None left vcn = inr (λ spent. refl)
wanted-spent (Some a) left vcn = by (nat_eq left 0)
  where
    by : (none : Bool) → (allowed none true (placed_in a vcn) ≡ Err AllowanceSpent) ⊎ ((spent : Bool) → allowed none spent (placed_in a vcn) ≡ allowed none true (placed_in a vcn))
    by true = inr (λ spent. refl)
    by false = inl refl

pub subnode-spent : (d : Passed) (left : ℕ) (entry : List ℕ) → (subnode d left true entry ≡ Err AllowanceSpent) ⊎ ((spent : Bool) → subnode d left spent entry ≡ subnode d left true entry)
unfolding subnode opening
subnode-spent d left entry = by (subnode_of entry)
  where
    by : (vcn : Result (Option ℤ) Refusal) → (opening_of d left true vcn ≡ Err AllowanceSpent) ⊎ ((spent : Bool) → opening_of d left spent vcn ≡ opening_of d left true vcn)
    by (Ok (Some vcn)) = then (wanted-spent d.allocation left vcn)
      where
        then : (wanted d.allocation left true vcn ≡ Err AllowanceSpent) ⊎ ((spent : Bool) → wanted d.allocation left spent vcn ≡ wanted d.allocation left true vcn)
            → (opening_of d left true (Ok (Some vcn)) ≡ Err AllowanceSpent) ⊎ ((spent : Bool) → opening_of d left spent (Ok (Some vcn)) ≡ opening_of d left true (Ok (Some vcn)))
        then (inl is) = inl (ap (λ r. (r >>= node_in) >>= λ node. Ok (Some node)) is)
        then (inr any) = inr (λ spent. ap (λ r. (r >>= node_in) >>= λ node. Ok (Some node)) (any spent))
    by (Ok None) = inr (λ spent. refl)
    by (Err refusal) = inr (λ spent. refl)

-- where there is a subnode, a level was left
pub subnode-levels : (d : Passed) (left : ℕ) (spent : Bool) (entry : List ℕ) (node : NodeSeen) → subnode d left spent entry ≡ Ok (Some node) → 0 < left
subnode-levels d zero spent entry node is = absurd (subnode-none_left d spent entry node is)
subnode-levels d (suc left) spent entry node is = omega arith

wanted-placed : (a : Option Allocation) (left : ℕ) (spent : Bool) (vcn : ℤ) (r : RecordPlaced) → wanted a left spent vcn ≡ Ok r → placed a vcn ≡ Ok r
unfolding wanted placed
wanted-placed None left spent vcn r is = cc
wanted-placed (Some a) left spent vcn r is = by (nat_eq left 0) spent is
  where
    by : (none spent : Bool) → allowed none spent (placed_in a vcn) ≡ Ok r → placed_in a vcn ≡ Ok r
    by true spent is = cc
    by false true is = cc
    by false false is = is

placed_in-vcn : (a : Allocation) (vcn : ℤ) (r : RecordPlaced) → placed_in a vcn ≡ Ok r → r.vcn ≡ vcn
placed_in-vcn a vcn r = by (record_at vcn a.cluster_size a.record_size (length a.pool))
  where
    by : (number : Result ℕ Refusal) → (number >>= λ n. Ok (record { number = n; vcn = vcn; bytes = bytes_of a n })) ≡ Ok r → r.vcn ≡ vcn
    by (Ok number) is = cc
    by (Err refusal) is = cc

placed-vcn : (a : Option Allocation) (vcn : ℤ) (r : RecordPlaced) → placed a vcn ≡ Ok r → r.vcn ≡ vcn
unfolding placed
placed-vcn (Some a) vcn r is = placed_in-vcn a vcn r is
placed-vcn None vcn r is = cc

node_in-place : (r : RecordPlaced) (node : NodeSeen) → node_in r ≡ Ok node → node.place ≡ places.Record r.number r.vcn
unfolding node_in
node_in-place r node = by (record_of r.bytes r.vcn)
  where
    by : (held : Result Record Refusal) → (held >>= λ h. Ok (record { bytes = h.bytes; start = h.start; end = h.end; place = places.Record r.number r.vcn })) ≡ Ok node → node.place ≡ places.Record r.number r.vcn
    by (Ok held) is = cc
    by (Err refusal) is = cc

-- and its record is the one that its VCN leads to
pub subnode-again : (d : Passed) (left : ℕ) (spent : Bool) (entry : List ℕ) (node : NodeSeen) → subnode d left spent entry ≡ Ok (Some node)
    → (number : ℕ) × (vcn : ℤ) × (node.place ≡ places.Record number vcn) × (again d vcn ≡ Ok node)
unfolding subnode opening again
subnode-again d left spent entry node = by (subnode_of entry)
  where
    by : (vcn : Result (Option ℤ) Refusal) → opening_of d left spent vcn ≡ Ok (Some node) → (number : ℕ) × (vcn : ℤ) × (node.place ≡ places.Record number vcn) × (again d vcn ≡ Ok node)
    by (Ok None) is = cc
    by (Err refusal) is = cc
    by (Ok (Some vcn)) is = opens (wanted d.allocation left spent vcn) refl is
      where
        opens : (w : Result RecordPlaced Refusal) → wanted d.allocation left spent vcn ≡ w → ((w >>= node_in) >>= λ n. Ok (Some n)) ≡ Ok (Some node)
            → (number : ℕ) × (vcn : ℤ) × (node.place ≡ places.Record number vcn) × (again d vcn ≡ Ok node)
        opens (Err refusal) wants is = cc
        opens (Ok r) wants is = holds (node_in r) refl is
          where
            holds : (n : Result NodeSeen Refusal) → node_in r ≡ n → (n >>= λ x. Ok (Some x)) ≡ Ok (Some node)
                → (number : ℕ) × (vcn : ℤ) × (node.place ≡ places.Record number vcn) × (again d vcn ≡ Ok node)
            holds (Err refusal) reads is = cc
            holds (Ok n) reads is =
                let same : n ≡ node = cc in
                let here = wanted-placed d.allocation left spent vcn r wants in
                let its = placed-vcn d.allocation vcn r here in
                let stands : node_in r ≡ Ok node = reads ∙ ap Ok same in
                (r.number, vcn, node_in-place r node stands ∙ ap (places.Record r.number) its, ap (λ p. p >>= node_in) here ∙ stands)
