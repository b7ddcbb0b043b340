-- The laws of checking a node: at a position, and at an entry's subnode.
use Rattle.std.proofs.Common.{zero, suc, sub-one, ℕ, ℤ, ◌≡◌, ◌+◌, ◌-◌, Bool, true, false, nat_lt, nat_eq, List, []}
use Rattle.std.proofs.Common.{length, refl, sym, ap, subst, ◌∙◌, if◌then◌else◌, Option, Some, None, Result, Ok, Err}
use Rattle.refusal.specs.declared.Fault.{Fault}
use Rattle.refusal.specs.declared.Refusal.{Refusal}
use Rattle.refusal.specs.declared.Refusal.TheVariants.{NodeEnd, TooManyLevels}
use Rattle.refusal.specs.Then.{◌>>=◌}
use Rattle.index_entry.specs.Entry.{is_last, key_of, subnode_of}
use Rattle.directory.specs.Answer.{fault_of}
use Rattle.collation.specs.Kind.{Kind}
use Rattle.directory.specs.Lent.{Passed, EntryPlaced, NodeSeen}
use Rattle.directory.specs.Node.{Entries, first, start_after, entries_at, entries_of}
use Rattle.directory.proofs.Entries.{entries_at-first, entries_at-none}
use Rattle.directory.proofs.Openings.{wanted-none_left}
use Rattle.checker.specs.Check.{State, Judged, fault, and_then, key_in, readable_key, judge, judge_first, judge_at}
use Rattle.checker.specs.Check.{falls, reach, as_subnode, reach_below, check_subnode, on_rest}
use Rattle.checker.specs.Check.{check_node, check_entry, check_entries, check_from, check_reached}

pub reach-none_left : (d : Passed) (vcn : ℤ) (s : State) → (its : Fault) × (reach d 0 vcn s ≡ Err its)
unfolding reach
reach-none_left d vcn s = let none = wanted-none_left d.allocation false vcn in (fault_of (none.0) s.opened, rw (none.1) refl)

and_then-same : {A B : Type 0} (r : Result A Fault) (its : Fault) (one other : A → Result B Fault) → r ≡ Err its → and_then r one ≡ and_then r other
and_then-same r its one other is = rw is refl

-- a LAST_ENTRY has no key
key_in-last : {K : Type 0} (kind : Kind K) (used ends : ℕ) (entry : List ℕ) → is_last entry ≡ true → (key : List ℕ)
    → key_in kind used ends entry ≡ Ok (Some key) → ⊥
unfolding key_in
key_in-last kind used ends entry last key is =
    by (nat_lt used ends) (nat_eq ends used)
    (let P : Bool → Type 0 =
    λ b. (if nat_lt used ends then Err NodeEnd else if b then (if nat_eq ends used then Ok None else Err NodeEnd) else readable_key kind (key_of entry))
    ≡ Ok (Some key) in subst P last is)
  where
    by : (past there : Bool) → (if past then Err NodeEnd else if there then Ok None else Err NodeEnd) ≡ Ok (Some key) → ⊥
    by true there is = cc
    by false true is = cc
    by false false is = cc

-- what follows counts only behind a key
on_rest-same : (its : Option (List ℕ) → List ℕ → Bool) (key : Option (List ℕ)) (one other : State → Result State Fault)
    → ((k : List ℕ) → key ≡ Some k → one ≡ other) → (x : State) → on_rest its key x one ≡ on_rest its key x other
on_rest-same its None one other same x = refl
on_rest-same its (Some k) one other same x = ap (on_rest its (Some k) x) (same k refl)

pub judge-key : {K : Type 0} (kind : Kind K) (used ends : ℕ) (entry : List ℕ) (j : Judged) → judge kind used ends entry ≡ Ok j
    → (key_in kind used ends entry ≡ Ok (j.key)) × (subnode_of entry ≡ Ok (j.vcn)) × (j.ends ≡ ends)
unfolding judge
judge-key kind used ends entry j is = by (key_in kind used ends entry) (subnode_of entry) is
  where
    by : (key : Result (Option (List ℕ)) Refusal) (vcn : Result (Option ℤ) Refusal)
        → (key >>= λ k. vcn >>= λ v. Ok (record { ends = ends; key = k; vcn = v })) ≡ Ok j
        → (key ≡ Ok (j.key)) × (vcn ≡ Ok (j.vcn)) × (j.ends ≡ ends)
    by (Ok key) (Ok vcn) is = (ap key_of_judged is, ap vcn_of_judged is, sym (ap ends_of_judged is))
      where
        key_of_judged : Result Judged Refusal → Result (Option (List ℕ)) Refusal
        key_of_judged (Ok x) = Ok (x.key)
        key_of_judged (Err refusal) = Err refusal

        vcn_of_judged : Result Judged Refusal → Result (Option ℤ) Refusal
        vcn_of_judged (Ok x) = Ok (x.vcn)
        vcn_of_judged (Err refusal) = Err refusal

        ends_of_judged : Result Judged Refusal → ℕ
        ends_of_judged (Ok x) = x.ends
        ends_of_judged (Err refusal) = 0
    by (Ok key) (Err refusal) is = absurd (let P : ⊥ = cc in P)
    by (Err refusal) vcn is = absurd (let P : ⊥ = cc in P)

module _ {K : Type 0} (kind : Kind K) (d : Passed) where
  -- a record that is a subnode, with so many levels left below the node that names it
  unfoldable pub check_record : ℕ → ℤ → State → Result State Fault
  check_record left vcn s = and_then (reach d left vcn s) (λ it. check_from d kind (left - 1) it.0 it.0.start it.1)

  pub check_record-reached : (left : ℕ) (vcn : ℤ) (s : State)
      → check_record left vcn s ≡ and_then (reach d left vcn s) (λ it. check_from d kind (left - 1) it.0 it.0.start it.1)
  unfolding check_record
  check_record-reached left vcn s = refl

  -- an entry's subnode is such a record, if it has one
  subnode-below : (left : ℕ) (vcn : Option ℤ) (s : State)
      → check_subnode (check_record left) vcn s ≡ and_then (reach_below d left vcn s) (λ it. check_reached d kind left it.0 it.1)
  unfolding reach_below check_record
  subnode-below left (Some vcn) s = by (reach d left vcn s)
    where
      by : (r : Result (NodeSeen × State) Fault) → and_then r (λ it. check_from d kind (left - 1) it.0 it.0.start it.1)
          ≡ and_then (and_then r as_subnode) (λ it. check_reached d kind left it.0 it.1)
      by (Ok it) = refl
      by (Err its) = refl
  subnode-below left None s = refl

  -- a node, by the records that are subnodes
  pub check_entries-node : (left used at : ℕ) (entries : Entries) (s : State)
      → check_entries d kind left used at entries s ≡ check_node used kind (falls kind) (check_record left) at entries s
  unfolding check_entries check_from check_record
  check_entries-node zero used at entries s = ap (λ below. check_node used kind (falls kind) below at entries s)
      (λ i vcn x. let none = reach-none_left d vcn x in
      and_then-same (reach d zero vcn x) (none.0) (λ it. fault TooManyLevels it.1)
      (λ it. check_entries d kind (0 - 1) it.0.end it.0.start (entries_of it.0) it.1) (none.1) i)
  check_entries-node (suc left) used at entries s =
      ap (λ n. check_node used kind (falls kind)
      (λ vcn x. and_then (reach d (suc left) vcn x) (λ it. check_entries d kind n it.0.end it.0.start (entries_of it.0) it.1)) at entries s)
      (sym (sub-one (suc left)))

  module _ (left : ℕ) (node : NodeSeen) where
    at_node : (at : ℕ) (s : State) (es : Entries) → entries_at node at ≡ es
        → check_from d kind left node at s ≡ check_node node.end kind (falls kind) (check_record left) at es s
    unfolding check_from
    at_node at s es is = check_entries-node left node.end at (entries_at node at) s
        ∙ ap (λ x. check_node node.end kind (falls kind) (check_record left) at x s) is

    -- behind an entry that is no LAST_ENTRY
    rest-same : (at : ℕ) (entry : EntryPlaced) → is_last entry.bytes ≡ false
        → (λ x. check_node node.end kind (falls kind) (check_record left) (at + length entry.bytes)
        (entries_at node (start_after node at (Ok entry))) x) ≡ check_from d kind left node (at + length entry.bytes)
    rest-same at entry last = rw last (λ i x. sym (at_node (at + length entry.bytes) x (entries_at node (at + length entry.bytes)) refl) i)

    abbrev pub on_judged : State → Result Judged Refusal → Result State Fault
    on_judged s (Ok entry) =
        and_then (and_then (reach_below d left entry.vcn s) (λ it. check_reached d kind left it.0 it.1))
        (λ x. on_rest (falls kind) entry.key x (check_from d kind left node entry.ends))
    on_judged s (Err refusal) = fault refusal s

    judged-same : (at : ℕ) (s : State) (entry : EntryPlaced) (r : Result Judged Refusal) → judge kind node.end (at + length entry.bytes) entry.bytes ≡ r
        → check_entry (falls kind) (check_record left) r s
        (λ x. check_node node.end kind (falls kind) (check_record left) (at + length entry.bytes)
        (entries_at node (start_after node at (Ok entry))) x) ≡ on_judged s r
    judged-same at s entry (Err refusal) is = refl
    judged-same at s entry (Ok j) is =
        let its = judge-key kind node.end (at + length entry.bytes) entry.bytes j is in
        ap (and_then (check_subnode (check_record left) (j.vcn) s)) (λ i x. on_rest-same (falls kind) (j.key) _ (check_from d kind left node (j.ends))
        (λ k named. rest-same at entry (not_last entry.bytes (at + length entry.bytes)
        (λ last. key_in-last kind node.end (at + length entry.bytes) entry.bytes last k (its.0 ∙ ap Ok named)))
        ∙ ap (check_from d kind left node) (sym (its.2))) x i)
        ∙ ap (λ r. and_then r (λ x. on_rest (falls kind) (j.key) x (check_from d kind left node (j.ends)))) (subnode-below left (j.vcn) s)
      where
        not_last : (e : List ℕ) (ends : ℕ) → (is_last e ≡ true → ⊥) → is_last e ≡ false
        not_last e ends never = by (is_last e) never
          where
            by : (b : Bool) → (b ≡ true → ⊥) → b ≡ false
            by true never = absurd (never refl)
            by false never = refl

    -- a node at a position, by the judgement of what stands there
    pub check_from-judged : (at : ℕ) (s : State) → check_from d kind left node at s ≡ on_judged s (judge_at kind node at)
    unfolding judge_at
    check_from-judged at s = by (first (entries_at node at)) refl
      where
        by : (entry : Option (Result EntryPlaced Refusal)) → first (entries_at node at) ≡ entry
            → check_from d kind left node at s ≡ on_judged s (judge_first kind node.end at entry)
        by None is = at_node at s [] (entries_at-none node at is)
        by (Some (Err refusal)) is = at_node at s _ ((entries_at-first node at (Err refusal) is).1)
        by (Some (Ok entry)) is = at_node at s _ ((entries_at-first node at (Ok entry) is).1)
            ∙ judged-same at s entry (judge kind node.end (at + length entry.bytes) entry.bytes) refl

pub ruleset of_check = (check_from-judged)
