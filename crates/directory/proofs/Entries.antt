-- A walk over a node, unrolled at its first entry.
use Rattle.std.proofs.Common.{zero, suc, ℕ, ◌≡◌, ◌-◌, ◌<◌, ◌≤◌, List, [], ◌∷◌, length, refl, arith, Result, Ok, Err, Some, None, Bool, true, false, nat_lt, sym, ap, ◌∙◌}
use Rattle.std.specs.Prelude.{IfOk}
use Rattle.std.proofs.lemmas.Grind.{common_steps}
use Rattle.refusal.specs.declared.Refusal.{Refusal}
use Rattle.refusal.specs.Then.{◌>>=◌}
use Rattle.index_entry.specs.Entry.{entry_at}
use Rattle.directory.specs.Lent.{EntryPlaced, NodeSeen}
use Rattle.directory.specs.Node.{Entries, placed_at, entry_in, first, start_after, entries_within, entries_at}

-- an entry has its header
entry_at-long : (node : List ℕ) (at : ℕ) → IfOk (entry_at node at) (λ entry. 16 ≤ length entry)
unfolding entry_at
entry_at-long node at = grind (arith, common_steps)

pub entry_in-long : (node : NodeSeen) (at : ℕ) → IfOk (entry_in node at) (λ entry. 16 ≤ length entry.bytes)
unfolding entry_in
entry_in-long node at = by (entry_at node.bytes at) (entry_at-long node.bytes at)
  where
    by : (entry : Result (List ℕ) Refusal) → IfOk entry (λ bytes. 16 ≤ length bytes) → IfOk (entry >>= λ bytes. Ok (placed_at node.place at bytes)) (λ it. 16 ≤ length it.bytes)
    by (Ok bytes) long = long
    by (Err refusal) long = long

below-start_after_any : (node : NodeSeen) (at : ℕ) (entry : Result EntryPlaced Refusal) → IfOk entry (λ it. 16 ≤ length it.bytes) → at < node.end → at < start_after node at entry
below-start_after_any node at (Ok entry) long inside = grind (arith, common_steps)
below-start_after_any node at (Err refusal) long inside = inside

-- so the walk goes on
pub below-start_after : (node : NodeSeen) (at : ℕ) → at < node.end → at < start_after node at (entry_in node at)
below-start_after node at inside = below-start_after_any node at (entry_in node at) (entry_in-long node at) inside

-- any number of steps that is enough gives the same
pub enough : (steps more : ℕ) (node : NodeSeen) (at : ℕ) → node.end - at ≤ steps → node.end - at ≤ more → entries_within steps node at ≡ entries_within more node at
unfolding entries_within
enough zero zero node at here there = refl
enough zero (suc more) node at here there = grind (arith, common_steps)
enough (suc steps) zero node at here there = grind (arith, common_steps)
enough (suc steps) (suc more) node at here there =
    let goes = below-start_after node at in
    let same = enough steps more node (start_after node at (entry_in node at)) in
    grind (arith, common_steps)

pub entries_at-past : (node : NodeSeen) (at : ℕ) → node.end ≤ at → entries_at node at ≡ []
unfolding entries_at entries_within
entries_at-past node at past = grind (arith, common_steps)

pub entries_at-inside : (node : NodeSeen) (at : ℕ) → at < node.end → entries_at node at ≡ entry_in node at ∷ entries_at node (start_after node at (entry_in node at))
unfolding entries_at entries_within
entries_at-inside node at inside =
    let goes = below-start_after node at inside in
    let one_more : entries_within (node.end - at) node at ≡ entries_within (suc (node.end - at)) node at =
    enough (node.end - at) (suc (node.end - at)) node at (omega arith) (omega arith) in
    let rest = enough (node.end - at) (node.end - start_after node at (entry_in node at)) node (start_after node at (entry_in node at)) (omega arith) (omega arith) in
    grind (arith, common_steps)

-- the first of them, and the rest
pub entries_at-first : (node : NodeSeen) (at : ℕ) (entry : Result EntryPlaced Refusal) → first (entries_at node at) ≡ Some entry
    → (entry_in node at ≡ entry) × (entries_at node at ≡ entry ∷ entries_at node (start_after node at entry))
entries_at-first node at entry is = by (nat_lt at node.end) refl
  where
    by : (inside : Bool) → nat_lt at node.end ≡ inside → (entry_in node at ≡ entry) × (entries_at node at ≡ entry ∷ entries_at node (start_after node at entry))
    by true test =
        let unrolled = entries_at-inside node at (grind (arith, common_steps)) in
        let its : Some (entry_in node at) ≡ Some entry = ap first (sym unrolled) ∙ is in
        let same : entry_in node at ≡ entry = cc in
        (same, unrolled ∙ ap (λ e. e ∷ entries_at node (start_after node at e)) same)
    by false test = let past = entries_at-past node at (grind (arith, common_steps)) in let none : None ≡ Some entry = ap first (sym past) ∙ is in cc

pub entries_at-none : (node : NodeSeen) (at : ℕ) → first (entries_at node at) ≡ None → entries_at node at ≡ []
entries_at-none node at = by (entries_at node at)
  where
    by : (es : Entries) → first es ≡ None → es ≡ []
    by [] is = refl
    by (e ∷ es) is = cc

length-entries_within : (steps : ℕ) (node : NodeSeen) (at : ℕ) → length (entries_within steps node at) ≤ steps
unfolding entries_within
length-entries_within zero node at = grind (arith, common_steps)
length-entries_within (suc steps) node at =
    let rest = length-entries_within steps node (start_after node at (entry_in node at)) in
    grind (arith, common_steps)

-- there are no more entries than bytes
pub length-entries_at : (node : NodeSeen) (at : ℕ) → length (entries_at node at) ≤ node.end - at
unfolding entries_at
length-entries_at node at = length-entries_within (node.end - at) node at

pub ruleset steps_of_walk = (entries_at-past, entries_at-inside, below-start_after)

pub ruleset count_of_walk = (length-entries_at)
