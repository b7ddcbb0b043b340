-- In any directory the records reached are those that a path leads to.
use Rattle.std.proofs.Common.{zero, suc, ℕ, ◌≡◌, ◌<◌, Bool, true, false, [], ◌∷◌, ◌++◌, refl, sym, subst, arith, if◌then◌else◌, ◌⊎◌, inl, inr}
use Rattle.std.proofs.Common.{Option, Some, None, Result, Ok, Err}
use Rattle.std.specs.Prelude.{Contains}
use Rattle.std.proofs.lemmas.List.Elements.{Contains-append_left, Contains-append_right, Contains-append_cases}
use Rattle.refusal.specs.declared.Refusal.{Refusal}
use Rattle.directory.specs.Lent.{EntryPlaced, NodeSeen}
use Rattle.directory.specs.Node.{Entries}
use Rattle.sound.specs.AnyDirectory.{Dir, subnode, LeadsIn, HasIn, at_first, later, DownIn, here, into_node, reached_below, reached_at, reached_within, ReachesIn}
use Rattle.sound.specs.AnyDirectory.{ReachedByPathInAnyDirectory}
use Rattle.sound.specs.Fit.{number_in}
use Rattle.sound.proofs.Elements.{contains-none, contains-cases, contains-here, contains-there}

module _ (d : Dir) where
  -- an entry of these whose subnode is the record, or from which a path leads on to it
  record IsOn (levels : ℕ) (es : Entries) (number : ℕ) : Type 0 where
    entry : EntryPlaced
    node : NodeSeen
    has : HasIn d es entry
    leads : LeadsIn d entry.bytes node
    then_on : (number_in node.place ≡ number) ⊎ Contains (reached_within d levels (d.entries node)) number

  in_front : (levels : ℕ) (first : EntryPlaced) (rest : Entries) (number : ℕ) (r : Result (Option NodeSeen) Refusal) → subnode d 1 false first.bytes ≡ r
      → Contains (reached_below d (reached_within d levels) r) number
      → IsOn levels (Ok first ∷ rest) number
  in_front levels first rest number (Ok (Some node)) leads has =
      record {
        entry = first;
        node = node;
        has = at_first first rest;
        leads = leads;
        then_on = contains-cases number (number_in node.place) (reached_within d levels (d.entries node)) has;
      }
  in_front levels first rest number (Ok None) leads has = absurd (contains-none number has)
  in_front levels first rest number (Err refusal) leads has = absurd (contains-none number has)

  reached-on : (levels : ℕ) (es : Entries) (number : ℕ) → Contains (reached_at d (reached_within d levels) es) number → IsOn levels es number
  unfolding reached_at
  reached-on levels [] number has = absurd (contains-none number has)
  reached-on levels (Err refusal ∷ rest) number has = absurd (contains-none number has)
  reached-on levels (Ok first ∷ rest) number has =
      by (Contains-append_cases (reached_below d (reached_within d levels) (subnode d 1 false first.bytes))
      (if d.last first.bytes then [] else reached_at d (reached_within d levels) rest) number has) (reached-on levels rest number)
    where
      behind : (last : Bool) → d.last first.bytes ≡ last → Contains (if last then [] else reached_at d (reached_within d levels) rest) number
          → (Contains (reached_at d (reached_within d levels) rest) number → IsOn levels rest number)
          → IsOn levels (Ok first ∷ rest) number
      behind true is has more = absurd (contains-none number has)
      behind false is has more = let on = more has in
          record { entry = on.entry; node = on.node; has = later (on.entry) first rest is (on.has); leads = on.leads; then_on = on.then_on }

      by : Contains (reached_below d (reached_within d levels) (subnode d 1 false first.bytes)) number
          ⊎ Contains (if d.last first.bytes then [] else reached_at d (reached_within d levels) rest) number
          → (Contains (reached_at d (reached_within d levels) rest) number → IsOn levels rest number) → IsOn levels (Ok first ∷ rest) number
      by (inl fore) more = in_front levels first rest number (subnode d 1 false first.bytes) refl fore
      by (inr back) more = behind (d.last first.bytes) refl back more

  on-reached : (levels : ℕ) (es : Entries) (entry : EntryPlaced) (node : NodeSeen) (number : ℕ) → HasIn d es entry → LeadsIn d entry.bytes node
      → Contains (number_in node.place ∷ reached_within d levels (d.entries node)) number
      → Contains (reached_at d (reached_within d levels) es) number
  unfolding reached_at
  on-reached levels _ _ node number (at_first entry rest) leads has =
      let P : Result (Option NodeSeen) Refusal
      → Type 0 = λ r. Contains (reached_below d (reached_within d levels) r ++ (if d.last entry.bytes then [] else reached_at d (reached_within d levels) rest)) number in
      subst P (sym leads) (Contains-append_left (number_in node.place ∷ reached_within d levels (d.entries node)) _ number has)
  on-reached levels _ _ node number (later entry first rest goes there) leads has =
      let its = on-reached levels rest entry node number there leads has in
      let P : Bool → Type 0 = λ b. Contains
      (reached_below d (reached_within d levels) (subnode d 1 false first.bytes) ++ (if b then [] else reached_at d (reached_within d levels) rest)) number in
      subst P (sym goes) (Contains-append_right (reached_below d (reached_within d levels) (subnode d 1 false first.bytes)) _ number its)

  reached-path : (levels : ℕ) (root : Entries) (number : ℕ) → Contains (reached_within d levels root) number → ReachesIn d levels root number
  unfolding reached_within
  reached-path zero root number has = absurd (contains-none number has)
  reached-path (suc levels) root number has =
      let on = reached-on levels root number has in
      by on (on.then_on) (reached-path levels (d.entries on.node) number)
    where
      by : (on : IsOn levels root number) → (number_in on.node.place ≡ number) ⊎ Contains (reached_within d levels (d.entries on.node)) number
          → (Contains (reached_within d levels (d.entries on.node)) number → ReachesIn d levels (d.entries on.node) number)
          → ReachesIn d (suc levels) root number
      by on (inl is) more =
          record { steps = 0; few = omega arith; from = root; entry = on.entry; to = on.node; path = here root; has = on.has; leads = on.leads; is = is }
      by on (inr there) more =
          let on_more = more there in
          let few = on_more.few in
          record {
            steps = suc (on_more.steps);
            few = omega arith;
            from = on_more.from;
            entry = on_more.entry;
            to = on_more.to;
            path = into_node (on_more.steps) root (on_more.from) (on.entry) (on.node) (on.has) (on.leads) (on_more.path);
            has = on_more.has;
            leads = on_more.leads;
            is = on_more.is;
          }

  path-reached : (levels steps : ℕ) (root from : Entries) (to : NodeSeen) (entry : EntryPlaced) → steps < levels → DownIn d steps root from → HasIn d from entry
      → LeadsIn d entry.bytes to
      → Contains (reached_within d levels root) (number_in to.place)
  unfolding reached_within
  path-reached zero steps root from to entry few path has leads = absurd (omega arith)
  path-reached (suc levels) _ _ _ to entry few (here es) has leads =
      on-reached levels es entry to (number_in to.place) has leads (contains-here (number_in to.place) (reached_within d levels (d.entries to)))
  path-reached (suc levels) _ _ _ to entry few (into_node steps es from first node in_front opens path) has leads =
      on-reached levels es first node (number_in to.place) in_front opens
      (contains-there (number_in to.place) (number_in node.place) (reached_within d levels (d.entries node))
      (path-reached levels steps (d.entries node) from to entry (omega arith) path has leads))

pub reached_by_path_in_any_directory : ReachedByPathInAnyDirectory
reached_by_path_in_any_directory d levels root number = (
  reached-path d levels root number,
  λ r.
      let P : ℕ → Type 0 = λ n. Contains (reached_within d levels root) n in
      subst P (r.is) (path-reached d levels (r.steps) root (r.from) (r.to) (r.entry) (r.few) (r.path) (r.has) (r.leads)),
)
