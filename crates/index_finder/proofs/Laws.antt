-- The laws of looking below a node: at its first entry, and at that entry's subnode.
use Rattle.std.proofs.Common.{zero, suc, sub-one, ℕ, ◌≡◌, ◌-◌, Bool, [], ◌∷◌, refl, Option, Some, None, Result, Ok, Err, ap}
use Rattle.refusal.specs.declared.Refusal.{Refusal}
use Rattle.refusal.specs.declared.Refusal.TheVariants.{TooManyLevels}
use Rattle.directory.specs.Answer.{Answered, none, refused}
use Rattle.directory.specs.Node.{Entries}
use Rattle.collation.specs.Kind.{Kind}
use Rattle.directory.specs.Lent.{Passed, EntryPlaced, NodeSeen}
use Rattle.directory.specs.Directory.{subnode}
use Rattle.directory.proofs.Openings.{subnode-none_left}
use Rattle.index_finder.specs.Find.{stands, choose, into, find_below}

-- where no node comes of it, what is looked for there does not count
into-none : (one other : Entries → ℕ → Answered) (below : Result (Option NodeSeen) Refusal) (o : ℕ)
    → ((node : NodeSeen) → below ≡ Ok (Some node) → ⊥) → into one below o ≡ into other below o
into-none one other (Ok (Some node)) o not = absurd (not node refl)
into-none one other (Ok None) o not = refl
into-none one other (Err refusal) o not = refl

module _ {K : Type 0} (kind : Kind K) (sought : K) (d : Passed) (spent : ℕ → Bool) where
  pub find_below-over : (left o : ℕ) → find_below d spent kind sought left [] o ≡ none o
  unfolding find_below
  find_below-over zero o = refl
  find_below-over (suc left) o = refl

  pub find_below-broken : (left : ℕ) (refusal : Refusal) (rest : Entries) (o : ℕ)
      → find_below d spent kind sought left (Err refusal ∷ rest) o ≡ refused refusal o
  unfolding find_below
  find_below-broken zero refusal rest o = refl
  find_below-broken (suc left) refusal rest o = refl

  pub find_below-entry : (left : ℕ) (entry : EntryPlaced) (rest : Entries) (o : ℕ)
      → find_below d spent kind sought left (Ok entry ∷ rest) o
      ≡ choose (stands kind sought entry.bytes) entry o (find_below d spent kind sought left rest o)
      (into (find_below d spent kind sought (left - 1)) (subnode d left (spent o) entry.bytes) o)
  unfolding find_below
  find_below-entry zero entry rest o =
      ap (choose (stands kind sought entry.bytes) entry o (find_below d spent kind sought zero rest o))
      (into-none (λ es y. refused TooManyLevels y) (find_below d spent kind sought (0 - 1))
      (subnode d 0 (spent o) entry.bytes) o (subnode-none_left d (spent o) entry.bytes))
  find_below-entry (suc left) entry rest o = rw sub-one refl

pub ruleset of_find = (find_below-over, find_below-broken, find_below-entry)
