-- An answer other than 12 is that under any allowance that is spent no sooner.
use Rattle.std.proofs.Common.{zero, suc, ℕ, ◌≡◌, ◌+◌, ◌≤◌, Bool, true, false, List, [], ◌∷◌, refl, arith, Option, Some}
use Rattle.std.proofs.Common.{None, Result, Ok, Err, Ordering, Less, Equal, Greater, ◌⊎◌, inl, inr, ap}
use Rattle.directory.specs.Limits.{below_root}
use Rattle.std.proofs.lemmas.Grind.{common_steps}
use Rattle.refusal.specs.declared.Refusal.{Refusal}
use Rattle.refusal.specs.declared.Refusal.TheVariants.{AllowanceSpent, TooManyLevels}
use Rattle.directory.specs.Answer.{Answered, refused}
use Rattle.collation.specs.Kind.{Kind}
use Rattle.directory.specs.Lent.{Passed, EntryPlaced, NodeSeen}
use Rattle.directory.specs.Directory.{passed, root_node, subnode, spent_at}
use Rattle.directory.specs.Node.{Entries, entries_of}
use Rattle.directory.proofs.Openings.{subnode-spent}
use Rattle.index_finder.specs.Find.{stands, choose, into, find_node, find_below, find_in, find}
use Rattle.index_finder.specs.Allowance.{MoreFor}

abbrev IsOther : Answered → Type 0
IsOther answer = (o : ℕ) → answer ≡ refused AllowanceSpent o → ⊥

-- two ways to answer for a node: the second as the first, but for 12
abbrev Same : (one other : Entries → ℕ → Answered) → Type 0
Same one other = (es : Entries) (o : ℕ) → IsOther (one es o) → other es o ≡ one es o

into-same : (one other : Entries → ℕ → Answered) → Same one other → (below : Result (Option NodeSeen) Refusal) (o : ℕ)
    → IsOther (into one below o) → into other below o ≡ into one below o
into-same one other same (Ok (Some node)) o settled = same (entries_of node) (o + 1) settled
into-same one other same (Ok None) o settled = refl
into-same one other same (Err refusal) o settled = refl

below-same_if : (d : Passed) (left : ℕ) (entry : List ℕ) (one other : Entries → ℕ → Answered) → Same one other → (sooner later : Bool)
    → (sooner ≡ false → later ≡ false) → (o : ℕ)
    → IsOther (into one (subnode d left sooner entry) o) → into other (subnode d left later entry) o ≡ into one (subnode d left sooner entry) o
below-same_if d left entry one other same false later follows o settled = rw (follows refl) (into-same one other same (subnode d left false entry) o settled)
below-same_if d left entry one other same true later follows o settled = by (subnode-spent d left entry)
  where
    by : (subnode d left true entry ≡ Err AllowanceSpent) ⊎ ((spent : Bool) → subnode d left spent entry ≡ subnode d left true entry)
        → into other (subnode d left later entry) o ≡ into one (subnode d left true entry) o
    by (inl spent) = absurd (settled o (ap (λ r. into one r o) spent))
    by (inr any) = rw (any later) (into-same one other same (subnode d left true entry) o settled)

choose-same : (its : Result Ordering Refusal) (entry : EntryPlaced) (o : ℕ) (next next2 down down2 : Answered) → (IsOther next → next2 ≡ next)
    → (IsOther down → down2 ≡ down)
    → IsOther (choose its entry o next down) → choose its entry o next2 down2 ≡ choose its entry o next down
choose-same (Ok Equal) entry o next next2 down down2 nexts downs settled = refl
choose-same (Ok Greater) entry o next next2 down down2 nexts downs settled = nexts settled
choose-same (Ok Less) entry o next next2 down down2 nexts downs settled = downs settled
choose-same (Err refusal) entry o next next2 down down2 nexts downs settled = refl

node-same : (its : List ℕ → Result Ordering Refusal) (down down2 : List ℕ → ℕ → Answered)
    → ((entry : List ℕ) (o : ℕ) → IsOther (down entry o) → down2 entry o ≡ down entry o)
    → (es : Entries) (o : ℕ) → IsOther (find_node its down es o) → find_node its down2 es o ≡ find_node its down es o
node-same its down down2 downs [] o settled = refl
node-same its down down2 downs (Err refusal ∷ rest) o settled = refl
node-same its down down2 downs (Ok entry ∷ rest) o settled =
    choose-same (its entry.bytes) entry o (find_node its down rest o) (find_node its down2 rest o) (down entry.bytes o) (down2 entry.bytes o)
    (node-same its down down2 downs rest o) (downs entry.bytes o) settled

module _ (d : Passed) (sooner later : ℕ → Bool) (follows : (o : ℕ) → sooner o ≡ false → later o ≡ false) {K : Type 0} (kind : Kind K) (sought : K) where
  pub below-same : (left : ℕ) → Same (find_below d sooner kind sought left) (find_below d later kind sought left)
  unfolding find_below
  below-same zero = node-same (stands kind sought) _ _
      (λ entry o. below-same_if d zero entry (λ es y. refused TooManyLevels y) (λ es y. refused TooManyLevels y)
      (λ es y s. refl) (sooner o) (later o) (follows o) o)
  below-same (suc left) = node-same (stands kind sought) _ _
      (λ entry o. below-same_if d (suc left) entry (find_below d sooner kind sought left) (find_below d later kind sought left) (below-same left)
      (sooner o) (later o) (follows o) o)

in-same : (sooner later : ℕ → Bool) → ((o : ℕ) → sooner o ≡ false → later o ≡ false) → {K : Type 0} (kind : Kind K) (sought : K) (d : Result Passed Refusal)
    → IsOther (find_in sooner kind sought d) → find_in later kind sought d ≡ find_in sooner kind sought d
in-same sooner later follows kind sought (Ok d) settled = below-same d sooner later follows kind sought below_root (entries_of (root_node d)) 0 settled
in-same sooner later follows kind sought (Err refusal) settled = refl

pub spent-later : (few more : ℕ) → few ≤ more → (o : ℕ) → spent_at few o ≡ false → spent_at more o ≡ false
spent-later few more less o is = grind (arith, common_steps)

pub more_for : {K : Type 0} (kind : Kind K) → MoreFor kind
unfolding find
more_for kind sought d few more less settled = in-same (spent_at few) (spent_at more) (spent-later few more less) kind sought (passed d) settled
