-- An entry's subnode, with any number of levels left.
use Rattle.std.proofs.Common.{suc, ℕ, ℤ, ◌≡◌, ◌<◌, Bool, true, false, if◌then◌else◌, nat_eq, List, refl, sym, ◌∙◌, ap, Option, Some, None, Result, Ok, Err, arith}
use Rattle.std.proofs.lemmas.Grind.{common_steps}
use Rattle.refusal.specs.declared.Refusal.{Refusal}
use Rattle.refusal.specs.declared.Refusal.TheVariants.{TooManyLevels, AllowanceSpent}
use Rattle.refusal.specs.Then.{◌>>=◌}
use Rattle.index_entry.specs.Entry.{subnode_of}
use Rattle.index_allocation.specs.Allocation.{Allocation, RecordPlaced, placed_in}
use Rattle.directory.specs.Directory.{wanted, node_in, opening, opening_of, subnode, spent_at}
use Rattle.directory.specs.Lent.{Passed, NodeSeen}
use Rattle.sound.specs.Tree.{Leads}

-- what is opened had a level left, and an allowance
pub wanted-allowed : (a : Option Allocation) (left : ℕ) (spent : Bool) (vcn : ℤ) (r : RecordPlaced) → wanted a left spent vcn ≡ Ok r → (0 < left) × (spent ≡ false)
unfolding wanted
wanted-allowed None left spent vcn r is = absurd (let P : ⊥ = cc in P)
wanted-allowed (Some a) left spent vcn r is = by (nat_eq left 0) spent refl is
  where
    by : (none over : Bool) → nat_eq left 0 ≡ none
        → (if none then Err TooManyLevels else if over then Err AllowanceSpent else placed_in a vcn) ≡ Ok r → (0 < left) × (over ≡ false)
    by true over test is = absurd (let P : ⊥ = cc in P)
    by false true test is = absurd (let P : ⊥ = cc in P)
    by false false test is = (grind (arith, common_steps), refl)

pub opening-allowed : (d : Passed) (left : ℕ) (spent : Bool) (vcn : ℤ) (node : NodeSeen) → opening d left spent vcn ≡ Ok node → (0 < left) × (spent ≡ false)
unfolding opening
opening-allowed d left spent vcn node = by (wanted d.allocation left spent vcn) refl
  where
    by : (w : Result RecordPlaced Refusal) → wanted d.allocation left spent vcn ≡ w → (w >>= node_in) ≡ Ok node → (0 < left) × (spent ≡ false)
    by (Ok r) wants is = wanted-allowed d.allocation left spent vcn r wants
    by (Err refusal) wants is = absurd (let P : ⊥ = cc in P)

pub subnode-allowed : (d : Passed) (left : ℕ) (spent : Bool) (entry : List ℕ) (node : NodeSeen) → subnode d left spent entry ≡ Ok (Some node)
    → (0 < left) × (spent ≡ false)
unfolding subnode
subnode-allowed d left spent entry node = by (subnode_of entry)
  where
    opens : (vcn : ℤ) (r : Result NodeSeen Refusal) → opening d left spent vcn ≡ r → (r >>= λ n. Ok (Some n)) ≡ Ok (Some node) → (0 < left) × (spent ≡ false)
    opens vcn (Ok n) wants is = opening-allowed d left spent vcn n wants
    opens vcn (Err refusal) wants is = absurd (let P : ⊥ = cc in P)

    by : (vcn : Result (Option ℤ) Refusal) → opening_of d left spent vcn ≡ Ok (Some node) → (0 < left) × (spent ≡ false)
    by (Ok (Some vcn)) is = opens vcn (opening d left spent vcn) refl is
    by (Ok None) is = absurd (let P : ⊥ = cc in P)
    by (Err refusal) is = absurd (let P : ⊥ = cc in P)

pub allowance-left : (allowance o : ℕ) → spent_at allowance o ≡ false → o < allowance
allowance-left allowance o is = grind (arith, common_steps)

pub wanted-any_level : (a : Option Allocation) (left : ℕ) (vcn : ℤ) → wanted a (suc left) false vcn ≡ wanted a 1 false vcn
unfolding wanted
wanted-any_level None left vcn = refl
wanted-any_level (Some a) left vcn = let some : nat_eq (suc left) 0 ≡ false = grind (arith, common_steps) in rw some refl

module _ (d : Passed) (left : ℕ) (entry : List ℕ) where
  pub subnode-any_level : subnode d (suc left) false entry ≡ subnode d 1 false entry
  unfolding subnode opening
  subnode-any_level = by (subnode_of entry)
    where
      by : (vcn : Result (Option ℤ) Refusal) → opening_of d (suc left) false vcn ≡ opening_of d 1 false vcn
      by (Ok (Some vcn)) = ap (λ w. (w >>= node_in) >>= λ node. Ok (Some node)) (wanted-any_level d.allocation left vcn)
      by (Ok None) = refl
      by (Err refusal) = refl

  pub leads-opens : (node : NodeSeen) → Leads d entry node → subnode d (suc left) false entry ≡ Ok (Some node)
  leads-opens node leads = subnode-any_level ∙ leads

  pub subnode-lone : (spent : Bool) → subnode_of entry ≡ Ok None → subnode d left spent entry ≡ Ok None
  unfolding subnode
  subnode-lone spent alone = ap (opening_of d left spent) alone

-- none of it is a subnode
pub leads-not : (d : Passed) (entry : List ℕ) (node : NodeSeen) → subnode_of entry ≡ Ok None → Leads d entry node → ⊥
leads-not d entry node alone leads = let both = sym (subnode-lone d 1 entry false alone) ∙ leads in cc
