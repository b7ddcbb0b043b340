-- One listing is another, but where it stops by 12.
use Rattle.std.proofs.Common.{zero, suc, ℕ, ◌≡◌, ◌+◌, ◌≤◌, Bool, true, false, List, [], ◌∷◌, refl, sym, ◌∙◌, ap, subst, arith, ◌⊎◌, inl, inr, Option}
use Rattle.std.proofs.Common.{Some, None, Result, Ok, Err}
use Rattle.directory.specs.Limits.{below_root}
use Rattle.std.proofs.lemmas.Grind.{common_steps}
use Rattle.refusal.specs.declared.Refusal.{Refusal}
use Rattle.refusal.specs.declared.Refusal.TheVariants.{AllowanceSpent, TooManyLevels}
use Rattle.index_entry.specs.Entry.{is_last}
use Rattle.directory.specs.Answer.{refused}
use Rattle.directory.specs.Directory.{passed, root_node, subnode, spent_at}
use Rattle.directory.specs.Lent.{Lent, Passed, EntryPlaced, NodeSeen}
use Rattle.directory.specs.Node.{Entries, entries_of}
use Rattle.directory.proofs.Openings.{subnode-spent}
use Rattle.index.specs.Listing.{Listing, done, stop, item, and_then, list_subnode, list_entry, list_node, list_below, list_in, listing}
use Rattle.index.specs.Cursor.{new_cursor}
use Rattle.index_run.specs.More.{FullListing, MoreChangesNothing, NotSpent, never}
use Rattle.index_run.specs.Run.{answer_after, said_at}
use Rattle.index_run.proofs.Running.{steps_are_the_listing}

-- the second is the first, but where the first stops by 12
abbrev Extends : Listing → Listing → Type 0
Extends (done o) l = l ≡ done o
Extends (stop refusal o) l = (refusal ≡ AllowanceSpent) ⊎ (l ≡ stop refusal o)
Extends (item entry o rest) l = (more : Listing) × (l ≡ item entry o more) × Extends rest more

extends-then : (one other : Listing) (f g : ℕ → Listing) → Extends one other → ((o : ℕ) → Extends (f o) (g o)) → Extends (and_then one f) (and_then other g)
extends-then (done o) other f g is next = let P : Listing → Type 0 = λ l. Extends (f o) (and_then l g) in subst P (sym is) (next o)
extends-then (stop refusal o) other f g (inl spent) next = inl spent
extends-then (stop refusal o) other f g (inr is) next = inr (ap (λ l. and_then l g) is)
extends-then (item entry o rest) other f g (more, is, extends) next = (and_then more g, ap (λ l. and_then l g) is, extends-then rest more f g extends next)

entry-extends : (last : Bool) (entry : EntryPlaced) (o : ℕ) (one other : Listing) → Extends one other
    → Extends (list_entry last entry o one) (list_entry last entry o other)
entry-extends true entry o one other extends = refl
entry-extends false entry o one other extends = (other, refl, extends)

node-extends : (f g : List ℕ → ℕ → Listing) → ((entry : List ℕ) (o : ℕ) → Extends (f entry o) (g entry o)) → (es : Entries) (o : ℕ)
    → Extends (list_node f es o) (list_node g es o)
node-extends f g sub [] o = refl
node-extends f g sub (Err refusal ∷ rest) o = inr refl
node-extends f g sub (Ok entry ∷ rest) o =
    extends-then _ _ _ _ (sub entry.bytes o) (λ x. entry-extends (is_last entry.bytes) entry x _ _ (node-extends f g sub rest x))

abbrev Below : (f g : Entries → ℕ → Listing) → Type 0
Below f g = (es : Entries) (o : ℕ) → Extends (f es o) (g es o)

subnode-extends : (f g : Entries → ℕ → Listing) → Below f g → (sub : Result (Option NodeSeen) Refusal) (o : ℕ)
    → Extends (list_subnode f sub o) (list_subnode g sub o)
subnode-extends f g below (Ok (Some node)) o = below (entries_of node) (o + 1)
subnode-extends f g below (Ok None) o = refl
subnode-extends f g below (Err refusal) o = inr refl

opened-extends : (d : Passed) (left : ℕ) (entry : List ℕ) (o : ℕ) (f g : Entries → ℕ → Listing) → Below f g → (sooner later : Bool)
    → (sooner ≡ false → later ≡ false)
    → Extends (list_subnode f (subnode d left sooner entry) o) (list_subnode g (subnode d left later entry) o)
opened-extends d left entry o f g below false later follows = rw (follows refl) (subnode-extends f g below (subnode d left false entry) o)
opened-extends d left entry o f g below true later follows = by (subnode-spent d left entry)
  where
    by : (subnode d left true entry ≡ Err AllowanceSpent) ⊎ ((spent : Bool) → subnode d left spent entry ≡ subnode d left true entry)
        → Extends (list_subnode f (subnode d left true entry) o) (list_subnode g (subnode d left later entry) o)
    by (inl spent) = rw spent (inl refl)
    by (inr any) = rw (any later) (subnode-extends f g below (subnode d left true entry) o)

module _ (d : Passed) (sooner later : ℕ → Bool) (follows : (o : ℕ) → sooner o ≡ false → later o ≡ false) where
  below-extends : (left : ℕ) → Below (list_below d sooner left) (list_below d later left)
  unfolding list_below
  below-extends zero =
      let beyond : Entries → ℕ → Listing = λ es y. stop TooManyLevels y in
      node-extends _ _ (λ entry o. opened-extends d zero entry o beyond beyond (λ es y. inr refl) (sooner o) (later o) (follows o))
  below-extends (suc left) =
      node-extends _ _
      (λ entry o.
      opened-extends d (suc left) entry o (list_below d sooner left) (list_below d later left) (below-extends left) (sooner o) (later o) (follows o))

listing-extends : (sooner later : ℕ → Bool) → ((o : ℕ) → sooner o ≡ false → later o ≡ false) → (d : Result Passed Refusal)
    → Extends (list_in sooner d) (list_in later d)
listing-extends sooner later follows (Ok d) = below-extends d sooner later follows below_root (entries_of (root_node d)) 0
listing-extends sooner later follows (Err refusal) = inr refl

said-same : (one other : Listing) (at : ℕ) → Extends one other → ((o : ℕ) → said_at one at ≡ refused AllowanceSpent o → ⊥) → said_at other at ≡ said_at one at
unfolding said_at
said-same (done o) other at is settled = ap (λ l. said_at l at) is
said-same (stop refusal o) other at (inl spent) settled = absurd (settled o (ap (λ r. refused r o) spent))
said-same (stop refusal o) other at (inr is) settled = ap (λ l. said_at l at) is
said-same (item entry o rest) other zero (more, is, extends) settled = ap (λ l. said_at l 0) is
said-same (item entry o rest) other (suc at) (more, is, extends) settled = ap (λ l. said_at l (suc at)) is ∙ said-same rest more at extends settled

-- an allowance that is spent later gives the same
pub later-same : (d : Lent) (sooner later : ℕ → Bool) (before : ℕ) → ((o : ℕ) → sooner o ≡ false → later o ≡ false) → NotSpent d sooner before
    → answer_after d later before new_cursor ≡ answer_after d sooner before new_cursor
unfolding listing
later-same d sooner later before follows settled =
    steps_are_the_listing d later before
    ∙ said-same (listing d sooner) (listing d later) before (listing-extends sooner later follows (passed d))
    (λ o is. settled o (steps_are_the_listing d sooner before ∙ is))
    ∙ sym (steps_are_the_listing d sooner before)

pub spent-later : (few more : ℕ) → few ≤ more → (o : ℕ) → spent_at few o ≡ false → spent_at more o ≡ false
spent-later few more less o is = grind (arith, common_steps)

pub more_changes_nothing : MoreChangesNothing
more_changes_nothing d few more before less settled = later-same d (spent_at few) (spent_at more) before (spent-later few more less) settled

pub full_listing : FullListing
full_listing d allowance before settled = later-same d (spent_at allowance) never before (λ o is. refl) settled
