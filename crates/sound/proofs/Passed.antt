-- What passes is a tree whose names rise.
use Rattle.std.proofs.Common.{zero, suc, sub-one, ℕ, ℤ, ◌≡◌, ◌+◌, ◌-◌, ◌<◌, ◌≤◌, Bool, true, false, nat_eq, nat_lt, List, [], ◌∷◌, length, length-set}
use Rattle.std.proofs.Common.{length-append, get_or, set, refl, sym, ◌∙◌, ap, subst, arith, Option, Some, None, Result, Ok, Err, if◌then◌else◌}
use Rattle.std.proofs.lemmas.Grind.{common_steps}
use Rattle.refusal.specs.declared.Fault.{Fault}
use Rattle.refusal.specs.declared.Refusal.{Refusal}
use Rattle.refusal.specs.declared.Refusal.TheVariants.{NodeEnd, NameFalls, ReachedTwice}
use Rattle.refusal.specs.Then.{◌>>=◌}
use Rattle.index_entry.specs.Entry.{is_last, key_of, subnode_of}
use Rattle.collation.specs.Kind.{Kind, is_readable}
use Rattle.directory.specs.Directory.{subnode, opening, wanted, node_in, records_in}
use Rattle.index_allocation.specs.Allocation.{RecordPlaced}
use Rattle.directory.specs.Lent.{Passed, EntryPlaced, NodeSeen}
use Rattle.directory.specs.Node.{Entries, entries_of}
use Rattle.checker.specs.Check.{State, Judged, fault, key_in, readable_key, judge, falls, is_less, reach, reach_place, reach_record, on_rest, check_subnode}
use Rattle.checker.specs.Check.{check_entry, check_node, check_entries, check_from}
use Rattle.checker.specs.Check as spec
use Rattle.checker.proofs.Laws.{judge-key, reach-none_left, check_record, check_record-reached, check_entries-node}
use Rattle.sound.proofs.Names.{NeverFall-append, rises-front, rises-at, rises-back, last_or, last_or-append}
use Rattle.sound.proofs.Marks.{Fresh, mark_all-append, Fresh-append, fresh-front, fresh-back}
use Rattle.sound.specs.Fit.{number_in}
use Rattle.sound.specs.Keys.{key_read, falls_name, NeverFall}
use Rattle.sound.specs.Tree.{Leads}
use Rattle.sound.proofs.Keys.{IsNamed, is-named, reads-named}
use Rattle.sound.proofs.Subnodes.{wanted-any_level, leads-opens}
use Rattle.sound.proofs.WellTree.{WellTree, end_here, end_below, name_here, name_below, names, records, mark_all}
use Rattle.sound.proofs.Places.{HasSizes, wanted-within, node_in-number, IsMade, subnode-made}

-- what came after a step that passed
passed-then : {A B : Type 0} (r : Result A Fault) (next : A → Result B Fault) (y : B) → spec.and_then r next ≡ Ok y → (x : A) × (r ≡ Ok x) × (next x ≡ Ok y)
passed-then (Ok x) next y is = (x, refl, is)
passed-then (Err its) next y is = absurd (let P : ⊥ = cc in P)

-- the name in the key that was listed last
abbrev name_or_none : {K : Type 0} → Result K Refusal → Option K
name_or_none (Ok name) = Some name
name_or_none (Err refusal) = None

abbrev pub named : {K : Type 0} → Kind K → Option (List ℕ) → Option K
named kind (Some key) = name_or_none (kind.reads key)
named kind None = None

falls-names : {K : Type 0} (kind : Kind K) (before : Option (List ℕ)) (key : List ℕ) (name : K) → kind.reads key ≡ Ok name
    → falls kind before key ≡ falls_name kind.order (named kind before) name
unfolding falls
falls-names {K} kind None key name is = refl
falls-names {K} kind (Some before) key name is = ap (λ r. is_less (r >>= λ one. kind.reads before >>= λ other. Ok (kind.order one other))) is
    ∙ by (kind.reads before)
  where
    by : (r : Result K Refusal) → is_less (r >>= λ other. Ok (kind.order name other)) ≡ falls_name kind.order (name_or_none r) name
    by (Ok other) = refl
    by (Err refusal) = refl

-- what a judgement says of its entry
readable : {K : Type 0} (kind : Kind K) (key : List ℕ) (k : List ℕ) → (is_readable kind key >>= λ fine. Ok (Some key)) ≡ Ok (Some k)
    → (key ≡ k) × (name : K) × (kind.reads key ≡ Ok name)
readable {K} kind key k = by (kind.reads key)
  where
    by : (r : Result K Refusal) → ((r >>= λ name. Ok tt) >>= λ (fine : Unit {0}). Ok (Some key)) ≡ Ok (Some k) → (key ≡ k) × (name : K) × (r ≡ Ok name)
    by (Ok name) is = ((let same : key ≡ k = cc in same), name, refl)
    by (Err refusal) is = absurd (let P : ⊥ = cc in P)

unreadable : {K : Type 0} (kind : Kind K) (key : List ℕ) → (is_readable kind key >>= λ fine. Ok (Some key)) ≡ Ok None → ⊥
unreadable {K} kind key = by (kind.reads key)
  where
    by : (r : Result K Refusal) → ((r >>= λ name. Ok tt) >>= λ (fine : Unit {0}). Ok (Some key)) ≡ Ok None → ⊥
    by (Ok name) is = cc
    by (Err refusal) is = cc

key_in-none : {K : Type 0} (kind : Kind K) (used ends : ℕ) (entry : List ℕ) → key_in kind used ends entry ≡ Ok None → (is_last entry ≡ true) × (ends ≡ used)
unfolding key_in
key_in-none kind used ends entry = by (nat_lt used ends) (is_last entry) (nat_eq ends used) refl (key_of entry)
  where
    by : (past last there : Bool) → nat_eq ends used ≡ there → (key : Result (Option (List ℕ)) Refusal)
        → (if past then Err NodeEnd else if last then (if there then Ok None else Err NodeEnd) else readable_key kind key) ≡ Ok None
        → (last ≡ true) × (ends ≡ used)
    by true last there test key is = absurd (let P : ⊥ = cc in P)
    by false true true test key is = (refl, grind (arith, common_steps))
    by false true false test key is = absurd (let P : ⊥ = cc in P)
    by false false there test (Ok (Some key)) is = absurd (unreadable kind key is)
    by false false there test (Ok None) is = absurd (let P : ⊥ = cc in P)
    by false false there test (Err refusal) is = absurd (let P : ⊥ = cc in P)

key_in-some : {K : Type 0} (kind : Kind K) (used ends : ℕ) (entry : List ℕ) (key : List ℕ) → key_in kind used ends entry ≡ Ok (Some key)
    → (is_last entry ≡ false) × (key_of entry ≡ Ok (Some key)) × (ends ≤ used) × ((name : K) × (kind.reads key ≡ Ok name))
unfolding key_in
key_in-some {K} kind used ends entry key = by (nat_lt used ends) refl (is_last entry) (nat_eq ends used) (key_of entry)
  where
    by : (past : Bool) → nat_lt used ends ≡ past → (last there : Bool) (its : Result (Option (List ℕ)) Refusal)
        → (if past then Err NodeEnd else if last then (if there then Ok None else Err NodeEnd) else readable_key kind its) ≡ Ok (Some key)
        → (last ≡ false) × (its ≡ Ok (Some key)) × (ends ≤ used) × ((name : K) × (kind.reads key ≡ Ok name))
    by true test last there its is = absurd (let P : ⊥ = cc in P)
    by false test true true its is = absurd (let P : ⊥ = cc in P)
    by false test true false its is = absurd (let P : ⊥ = cc in P)
    by false test false there (Ok (Some k)) is =
        let its = readable kind k key is in (refl, ap (λ x. Ok (Some x)) (its.0), grind (arith, common_steps), (its.1, ap kind.reads (sym (its.0)) ∙ its.2))
    by false test false there (Ok None) is = absurd (let P : ⊥ = cc in P)
    by false test false there (Err refusal) is = absurd (let P : ⊥ = cc in P)

-- a record that was reached had no mark
abbrev pub marked : ℕ → State → State
marked number s = record s { marks = set s.marks number 1; opened = s.opened + 1 }

pub record IsReached (d : Passed) (left : ℕ) (vcn : ℤ) (s : State) (it : NodeSeen × State) : Type 0 where
  pub placed : RecordPlaced
  pub lies : wanted d.allocation left false vcn ≡ Ok placed
  pub holds : node_in placed ≡ Ok (it.0)
  pub free : get_or s.marks placed.number 0 ≡ 0
  pub then_is : it.1 ≡ marked placed.number s

abbrev it_in : NodeSeen × State → Result (NodeSeen × State) Fault → NodeSeen × State
it_in other (Ok it) = it
it_in other (Err its) = other

pub reached : (d : Passed) (left : ℕ) (vcn : ℤ) (s : State) (it : NodeSeen × State) → reach d left vcn s ≡ Ok it → IsReached d left vcn s it
unfolding reach
reached d left vcn s it = at_place (wanted d.allocation left false vcn) refl
  where
    at_place : (r : Result RecordPlaced Refusal) → wanted d.allocation left false vcn ≡ r → reach_place r s ≡ Ok it → IsReached d left vcn s it
    at_place (Ok r) lies is = by (nat_eq (get_or s.marks r.number 0) 0) refl is
      where
        at_record : (n : Result NodeSeen Refusal) → node_in r ≡ n → get_or s.marks r.number 0 ≡ 0 → reach_record n r.number s ≡ Ok it
            → IsReached d left vcn s it
        at_record (Ok node) holds free is =
            let same : ◌≡◌ {A = NodeSeen × State} (node, marked r.number s) it = ap (it_in it) is in
            record {
              placed = r;
              lies = lies;
              holds = holds ∙ ap Ok (ap (λ (x : NodeSeen × State). x.0) same);
              free = free;
              then_is =
                  sym (ap (λ (x : NodeSeen × State). x.1) same);
            }
        at_record (Err refusal) holds free is = absurd (let P : ⊥ = cc in P)

        by : (free : Bool) → nat_eq (get_or s.marks r.number 0) 0 ≡ free → (if free then reach_record (node_in r) r.number s else fault ReachedTwice s) ≡ Ok it
            → IsReached d left vcn s it
        by true test is = at_record (node_in r) refl (grind (arith, common_steps)) is
        by false test is = absurd (let P : ⊥ = cc in P)
    at_place (Err refusal) lies is = absurd (let P : ⊥ = cc in P)

reaches : (d : Passed) (left : ℕ) (vcn : ℤ) (r : RecordPlaced) (node : NodeSeen) (s : State) → wanted d.allocation left false vcn ≡ Ok r → node_in r ≡ Ok node
    → get_or s.marks r.number 0 ≡ 0
    → reach d left vcn s ≡ Ok (node, marked r.number s)
unfolding reach
reaches d left vcn r node s lies holds free = let test : nat_eq (get_or s.marks r.number 0) 0 ≡ true = grind (arith, common_steps) in
    rw (lies, test, holds) refl

leads-node : (d : Passed) (entry : List ℕ) (vcn : ℤ) (r : RecordPlaced) (node : NodeSeen) → subnode_of entry ≡ Ok (Some vcn)
    → wanted d.allocation 1 false vcn ≡ Ok r → node_in r ≡ Ok node → Leads d entry node
unfolding subnode opening
leads-node d entry vcn r node is lies holds = rw (is, lies, holds) refl

-- the judgement of an entry
judge-last : {K : Type 0} (kind : Kind K) (used ends : ℕ) (entry : List ℕ) (vcn : Option ℤ) → is_last entry ≡ true → ends ≡ used → subnode_of entry ≡ Ok vcn
    → judge kind used ends entry ≡ Ok (record { ends = ends; key = None; vcn = vcn })
unfolding judge key_in
judge-last kind used ends entry vcn last there sub =
    let short : nat_lt used ends ≡ false = grind (arith, common_steps) in
    let same : nat_eq ends used ≡ true = grind (arith, common_steps) in
    rw (short, last, same, sub) refl

judge-named : {K : Type 0} (kind : Kind K) (used ends : ℕ) (entry : List ℕ) (name : K) (vcn : Option ℤ) → (its : IsNamed kind entry name) → ends ≤ used
    → subnode_of entry ≡ Ok vcn
    → judge kind used ends entry ≡ Ok (record { ends = ends; key = Some (its.key); vcn = vcn })
unfolding judge key_in
judge-named kind used ends entry name vcn its inside sub =
    let short : nat_lt used ends ≡ false = grind (arith, common_steps) in
    rw (short, its.goes_on, its.keyed, its.named, sub) refl

pub length-mark_all : (xs marks : List ℕ) → length (mark_all xs marks) ≡ length marks
length-mark_all [] marks = refl
length-mark_all (x ∷ xs) marks = length-mark_all xs (set marks x 1) ∙ length-set marks x 1

module _ (d : Passed) {K : Type 0} (kind : Kind K) where
  abbrev it_named : Option (List ℕ) → Option K
  it_named key = named kind key

  -- a node that passed
  pub record IsPassed (left used at : ℕ) (es : Entries) (s s2 : State) : Type 0 where
    pub tree : WellTree d kind left used at es
    pub rises : NeverFall kind.order (named kind s.latest) (names tree)
    pub fresh : Fresh s.marks (records tree)
    pub marks : s2.marks ≡ mark_all (records tree) s.marks
    pub opened : s2.opened ≡ s.opened + length (records tree)
    pub last : named kind s2.latest ≡ last_or (named kind s.latest) (names tree)

  -- enough marks for all records
  abbrev pub HasRoom : State → Type 0
  HasRoom s = records_in d.allocation ≤ length s.marks

  -- an entry's subnode that passed
  data PassedBelow (entry : List ℕ) : ℕ → State → State → Type 0 where
    nothing : (left : ℕ) (s : State) → subnode_of entry ≡ Ok None → PassedBelow entry left s s
    record_below : (left : ℕ) (node : NodeSeen) (s s2 : State) → Leads d entry node → number_in node.place < length s.marks
        → get_or s.marks (number_in node.place) 0 ≡ 0
        → IsPassed left node.end node.start (entries_of node) (marked (number_in node.place) s) s2 → PassedBelow entry (suc left) s s2

  ended-passed : (used at : ℕ) (entry : EntryPlaced) (rest : Entries) → is_last entry.bytes ≡ true → at + length entry.bytes ≡ used → (left : ℕ) (s s2 : State)
      → PassedBelow entry.bytes left s s2 → IsPassed left used at (Ok entry ∷ rest) s s2
  ended-passed used at entry rest last ends _ _ _ (nothing left s alone) =
      record { tree = end_here left used at entry rest last ends alone; rises = tt; fresh = tt; marks = refl; opened = omega arith; last = refl }
  ended-passed used at entry rest last ends _ _ _ (record_below left node s s2 leads inside free its) = record {
    tree = end_below left used at entry rest last ends node leads (its.tree);
    rises = its.rises;
    fresh = (inside, free, its.fresh);
    marks = its.marks;
    opened = its.opened ∙ omega arith;
    last = its.last;
  }

  named-passed : (used at : ℕ) (entry : EntryPlaced) (rest : Entries) (name : K) → key_read kind entry.bytes ≡ Ok (Some name) → at + length entry.bytes ≤ used
      → (left : ℕ) (s s1 s2 : State) → PassedBelow entry.bytes left s s1 → (key : List ℕ) → kind.reads key ≡ Ok name
      → falls_name kind.order (named kind s1.latest) name ≡ false → IsPassed left used (at + length entry.bytes) rest (record s1 { latest = Some key }) s2
      → IsPassed left used at (Ok entry ∷ rest) s s2
  named-passed used at entry rest name its ends _ _ _ s2 (nothing left s alone) key reading rise more =
      let latest : named kind (Some key) ≡ Some name = ap name_or_none reading in
      record {
        tree = name_here left used at entry rest name its ends alone (more.tree);
        rises = (rise, let P : Option K → Type 0 = λ n. NeverFall kind.order n (names (more.tree)) in subst P latest (more.rises));
        fresh = more.fresh;
        marks = more.marks;
        opened = more.opened;
        last = more.last ∙ ap (λ n. last_or n (names (more.tree))) latest;
      }
  named-passed used at entry rest name its ends _ _ _ s2 (record_below left node s s1 leads inside free low) key reading rise more =
      let latest : named kind (Some key) ≡ Some name = ap name_or_none reading in
      let first = records (low.tree) in
      let high = records (more.tree) in
      let number = number_in node.place in
      let long = length-append first high in
      let count = low.opened in
      let more_count = more.opened in
      record {
        tree = name_below left used at entry rest name its ends node leads (low.tree) (more.tree);
        rises = NeverFall-append kind.order (named kind s.latest) (names (low.tree)) name (names (more.tree)) (low.rises)
            (ap (λ b. falls_name kind.order b name) (sym (low.last)) ∙ rise)
            (let P : Option K → Type 0 = λ n. NeverFall kind.order n (names (more.tree)) in subst P latest (more.rises));
        fresh = (
          inside,
          free,
          Fresh-append (set s.marks number 1) first high (low.fresh)
              (let P : List ℕ → Type 0 = λ m. Fresh m high in subst P (low.marks) (more.fresh)),
        );
        marks = more.marks ∙ ap (mark_all high) (low.marks) ∙ sym (mark_all-append first high (set s.marks number 1));
        opened = omega arith;
        last = more.last ∙ ap (λ n. last_or n (names (more.tree))) latest
            ∙ sym (last_or-append (named kind s.latest) (names (low.tree)) name (names (more.tree)));
      }

  room-then : (entry : List ℕ) (left : ℕ) (s s2 : State) → PassedBelow entry left s s2 → HasRoom s → HasRoom s2
  room-then entry _ _ _ (nothing left s alone) room = room
  room-then entry _ _ _ (record_below left node s s2 leads inside free its) room =
      let same : length s2.marks ≡ length s.marks = ap length (its.marks) ∙ length-mark_all (records (its.tree)) (set s.marks (number_in node.place) 1)
      ∙ length-set s.marks (number_in node.place) 1 in omega arith

  -- passing says so of a subnode, of a node
  abbrev Subs : ℕ → Type 0
  Subs left = (entry : List ℕ) (vcn : Option ℤ) (s s2 : State) → HasRoom s → subnode_of entry ≡ Ok vcn → check_subnode (check_record kind d left) vcn s ≡ Ok s2
      → PassedBelow entry left s s2

  abbrev pub Nodes : ℕ → Type 0
  Nodes left = (used at : ℕ) (es : Entries) (s s2 : State) → HasRoom s → check_node used kind (falls kind) (check_record kind d left) at es s ≡ Ok s2
      → IsPassed left used at es s s2

  entry-passed : (left : ℕ) → Subs left → (used at : ℕ) (entry : EntryPlaced) (rest : Entries) (s s2 : State) → HasRoom s
      → ((x : State) → HasRoom x → check_node used kind (falls kind) (check_record kind d left) (at + length entry.bytes) rest x ≡ Ok s2
      → IsPassed left used (at + length entry.bytes) rest x s2)
      → (r : Result Judged Refusal) → judge kind used (at + length entry.bytes) entry.bytes ≡ r
      → check_entry (falls kind) (check_record kind d left) r s
      (λ x. check_node used kind (falls kind) (check_record kind d left) (at + length entry.bytes) rest x) ≡ Ok s2
      → IsPassed left used at (Ok entry ∷ rest) s s2
  entry-passed left subs used at entry rest s s2 room more (Err refusal) judged is = absurd (let P : ⊥ = cc in P)
  entry-passed left subs used at entry rest s s2 room more (Ok j) judged is =
      let its = judge-key kind used (at + length entry.bytes) entry.bytes j judged in
      let then_rest = passed-then (check_subnode (check_record kind d left) (j.vcn) s) _ s2 is in
      by (then_rest.0) (subs entry.bytes (j.vcn) s (then_rest.0) room (its.1) (then_rest.1)) (j.key) (its.0) (then_rest.2)
    where
      by : (x : State) → PassedBelow entry.bytes left s x → (key : Option (List ℕ)) → key_in kind used (at + length entry.bytes) entry.bytes ≡ Ok key
          → on_rest (falls kind) key x (λ y. check_node used kind (falls kind) (check_record kind d left) (at + length entry.bytes) rest y) ≡ Ok s2
          → IsPassed left used at (Ok entry ∷ rest) s s2
      by x below None keyed is =
          let same : x ≡ s2 = cc in
          let facts = key_in-none kind used (at + length entry.bytes) entry.bytes keyed in
          let P : State → Type 0 = λ y. IsPassed left used at (Ok entry ∷ rest) s y in
          subst P same (ended-passed used at entry rest (facts.0) (facts.1) left s x below)
      by x below (Some key) keyed is = rising (falls kind x.latest key) refl is
        where
          rising : (fall : Bool) → falls kind x.latest key ≡ fall
              → (if fall then fault NameFalls x else check_node used kind (falls kind) (check_record kind d left) (at + length entry.bytes) rest
              (record x { latest = Some key })) ≡ Ok s2
              → IsPassed left used at (Ok entry ∷ rest) s s2
          rising true fall is = absurd (let P : ⊥ = cc in P)
          rising false fall is =
              let facts = key_in-some kind used (at + length entry.bytes) entry.bytes key keyed in
              let name = facts.3.0 in
              let reading : kind.reads key ≡ Ok name = facts.3.1 in
              let its : key_read kind entry.bytes ≡ Ok (Some name) = reads-named kind entry.bytes key name (facts.1) reading in
              let rise : falls_name kind.order (named kind x.latest) name ≡ false = sym (falls-names kind x.latest key name reading) ∙ fall in
              named-passed used at entry rest name its (facts.2) left s x s2 below key reading rise
              (more (record x { latest = Some key }) (room-then entry.bytes left s x below room) is)

  node-passed : (left : ℕ) → Subs left → Nodes left
  node-passed left subs used at [] s s2 room is = absurd (let P : ⊥ = cc in P)
  node-passed left subs used at (Err refusal ∷ rest) s s2 room is = absurd (let P : ⊥ = cc in P)
  node-passed left subs used at (Ok entry ∷ rest) s s2 room is =
      entry-passed left subs used at entry rest s s2 room (λ x. node-passed left subs used (at + length entry.bytes) rest x s2)
      (judge kind used (at + length entry.bytes) entry.bytes) refl is

  none-passed : (left : ℕ) (entry : List ℕ) (s s2 : State) → subnode_of entry ≡ Ok None → ◌≡◌ {A = Result State Fault} (Ok s) (Ok s2)
      → PassedBelow entry left s s2
  none-passed left entry s s2 alone is =
      let P : State → Type 0 = λ x. PassedBelow entry left s x in let same : s ≡ s2 = cc in subst P same (nothing left s alone)

  subs-none_left : Subs 0
  subs-none_left entry None s s2 room alone is = none-passed 0 entry s s2 alone is
  subs-none_left entry (Some vcn) s s2 room sub is =
      absurd (let none = reach-none_left d vcn s in let its = passed-then (reach d 0 vcn s) _ s2 (sym (check_record-reached kind d 0 vcn s) ∙ is) in
      let both = sym (none.1) ∙ its.1 in let P : ⊥ = cc in P)

  module _ (sizes : HasSizes d.allocation) where
    subs-passed : (left : ℕ) → Nodes left → Subs (suc left)
    unfolding check_from
    subs-passed left nodes entry None s s2 room alone is = none-passed (suc left) entry s s2 alone is
    subs-passed left nodes entry (Some vcn) s s2 room sub is =
        let its = passed-then (reach d (suc left) vcn s) _ s2 (sym (check_record-reached kind d (suc left) vcn s) ∙ is) in
        let node = its.0.0 in
        let at = reached d (suc left) vcn s (its.0) (its.1) in
        let r = at.placed in
        let low = wanted-within d.allocation (suc left) false vcn r sizes (at.lies) in
        let number : number_in node.place ≡ r.number = node_in-number r node (at.holds) in
        let inside : number_in node.place < length s.marks = omega arith in
        let free : get_or s.marks (number_in node.place) 0 ≡ 0 = ap (λ n. get_or s.marks n 0) number ∙ at.free in
        let then_s : its.0.1 ≡ marked (number_in node.place) s = at.then_is ∙ ap (λ n. marked n s) (sym number) in
        let enough : HasRoom (marked (number_in node.place) s) = let same = length-set s.marks (number_in node.place) 1 in omega arith in
        let below : check_entries d kind left node.end node.start (entries_of node) (marked (number_in node.place) s) ≡ Ok s2 =
        ap (check_entries d kind left node.end node.start (entries_of node)) (sym then_s)
        ∙ ap (λ n. check_entries d kind n node.end node.start (entries_of node) (its.0.1)) (sym (sub-one (suc left))) ∙ its.2 in
        record_below left node s s2 (leads-node d entry vcn r node sub (sym (wanted-any_level d.allocation left vcn) ∙ at.lies) (at.holds)) inside free
        (nodes node.end node.start (entries_of node) (marked (number_in node.place) s) s2 enough
        (sym (check_entries-node kind d left node.end node.start (entries_of node) (marked (number_in node.place) s)) ∙ below))

    pub passed-nodes : (left : ℕ) → Nodes left
    passed-nodes zero = node-passed 0 subs-none_left
    passed-nodes (suc left) = node-passed (suc left) (subs-passed left (passed-nodes left))

  -- a tree passes
  pub record Passes (left used at : ℕ) (es : Entries) (s : State) (t : WellTree d kind left used at es) : Type 0 where
    pub after : State
    pub is : check_node used kind (falls kind) (check_record kind d left) at es s ≡ Ok after
    pub marks : after.marks ≡ mark_all (records t) s.marks
    pub opened : after.opened ≡ s.opened + length (records t)
    pub last : named kind after.latest ≡ last_or (named kind s.latest) (names t)

  check-at : (left used at : ℕ) (entry : EntryPlaced) (rest : Entries) (r : Result Judged Refusal) (s : State)
      → judge kind used (at + length entry.bytes) entry.bytes ≡ r
      → check_node used kind (falls kind) (check_record kind d left) at (Ok entry ∷ rest) s
      ≡ check_entry (falls kind) (check_record kind d left) r s
      (λ x. check_node used kind (falls kind) (check_record kind d left) (at + length entry.bytes) rest x)
  check-at left used at entry rest r s judged =
      ap (λ j. check_entry (falls kind) (check_record kind d left) j s
      (λ x. check_node used kind (falls kind) (check_record kind d left) (at + length entry.bytes) rest x)) judged

  record-at : (left : ℕ) (entry : List ℕ) (node : NodeSeen) (s after : State) (made : IsMade d (suc left) entry node)
      → get_or s.marks (number_in node.place) 0 ≡ 0
      → check_node node.end kind (falls kind) (check_record kind d left) node.start (entries_of node) (marked (number_in node.place) s) ≡ Ok after
      → check_record kind d (suc left) (made.vcn) s ≡ Ok after
  unfolding check_from
  record-at left entry node s after made free is =
      let r = made.placed in
      let reaching = reaches d (suc left) (made.vcn) r node s (made.lies) (made.holds) (ap (λ n. get_or s.marks n 0) (sym (made.number)) ∙ free) in
      check_record-reached kind d (suc left) (made.vcn) s
      ∙ ap (λ x. spec.and_then x (λ it. check_from d kind (suc left - 1) it.0 it.0.start it.1)) reaching
      ∙ ap (λ n. check_entries d kind n node.end node.start (entries_of node) (marked r.number s)) (sub-one (suc left))
      ∙ ap (λ n. check_entries d kind left node.end node.start (entries_of node) (marked n s)) (sym (made.number))
      ∙ check_entries-node kind d left node.end node.start (entries_of node) (marked (number_in node.place) s)
      ∙ is

  no-fall : (s : State) (key : List ℕ) (name : K) (next : State → Result State Fault) → kind.reads key ≡ Ok name
      → falls_name kind.order (named kind s.latest) name ≡ false
      → on_rest (falls kind) (Some key) s next ≡ next (record s { latest = Some key })
  no-fall s key name next reading rise = let low : falls kind s.latest key ≡ false = falls-names kind s.latest key name reading ∙ rise in rw low refl

  pub passes : {left used at : ℕ} {es : Entries} (t : WellTree d kind left used at es) (s : State) → NeverFall kind.order (named kind s.latest) (names t)
      → Fresh s.marks (records t) → Passes left used at es s t
  passes (end_here left used at entry rest last ends alone) s rises fresh = record {
    after = s;
    is = check-at left used at entry rest _ s (judge-last kind used (at + length entry.bytes) entry.bytes None last ends alone);
    marks = refl;
    opened = omega arith;
    last = refl;
  }
  passes (end_below left used at entry rest last ends node leads below) s rises fresh =
      let made = subnode-made d (suc left) entry.bytes node (leads-opens d left entry.bytes node leads) in
      let low = passes below (marked (number_in node.place) s) rises (fresh.2) in
      record {
        after = low.after;
        is = check-at (suc left) used at entry rest _ s (judge-last kind used (at + length entry.bytes) entry.bytes (Some (made.vcn)) last ends (made.wants))
            ∙ ap (λ r. spec.and_then r (λ x. Ok x)) (record-at left entry.bytes node s (low.after) made (fresh.1) (low.is));
        marks = low.marks;
        opened = low.opened ∙ omega arith;
        last = low.last;
      }
  passes (name_here left used at entry rest name read ends alone more) s rises fresh =
      let its = is-named kind entry.bytes name read in
      let s1 = record s { latest = Some (its.key) } in
      let latest : named kind (Some (its.key)) ≡ Some name = ap name_or_none (its.named) in
      let high = passes more s1 (let P : Option K → Type 0 = λ n. NeverFall kind.order n (names more) in subst P (sym latest) (rises.1)) fresh in
      record {
        after = high.after;
        is = check-at left used at entry rest _ s (judge-named kind used (at + length entry.bytes) entry.bytes name None its ends alone)
            ∙ no-fall s (its.key) name (λ x. check_node used kind (falls kind) (check_record kind d left) (at + length entry.bytes) rest x) (its.named)
            (rises.0) ∙ high.is;
        marks = high.marks;
        opened = high.opened;
        last = high.last ∙ ap (λ n. last_or n (names more)) latest;
      }
  passes (name_below left used at entry rest name read ends node leads below more) s rises fresh =
      let its = is-named kind entry.bytes name read in
      let made = subnode-made d (suc left) entry.bytes node (leads-opens d left entry.bytes node leads) in
      let latest : named kind (Some (its.key)) ≡ Some name = ap name_or_none (its.named) in
      let first = records below in
      let second = records more in
      let number = number_in node.place in
      let low = passes below (marked number s) (rises-front kind.order (named kind s.latest) (names below) name (names more) rises)
      (fresh-front (set s.marks number 1) first second (fresh.2)) in
      let s1 = record low.after { latest = Some (its.key) } in
      let rise : falls_name kind.order (named kind low.after.latest) name ≡ false = ap (λ b. falls_name kind.order b name) (low.last)
      ∙ rises-at kind.order (named kind s.latest) (names below) name (names more) rises in
      let high = passes more s1 (let P : Option K → Type 0 = λ n. NeverFall kind.order n (names more) in
      subst P (sym latest) (rises-back kind.order (named kind s.latest) (names below) name (names more) rises))
      (let P : List ℕ → Type 0 = λ m. Fresh m second in subst P (sym (low.marks)) (fresh-back (set s.marks number 1) first second (fresh.2))) in
      let long = length-append first second in
      let one = low.opened in
      let two = high.opened in
      record {
        after = high.after;
        is = check-at (suc left) used at entry rest _ s
            (judge-named kind used (at + length entry.bytes) entry.bytes name (Some (made.vcn)) its ends (made.wants))
            ∙ ap (λ r. spec.and_then r (λ x. on_rest (falls kind) (Some (its.key)) x
            (λ y. check_node used kind (falls kind) (check_record kind d (suc left)) (at + length entry.bytes) rest y)))
            (record-at left entry.bytes node s (low.after) made (fresh.1) (low.is))
            ∙ no-fall (low.after) (its.key) name (λ x. check_node used kind (falls kind) (check_record kind d (suc left)) (at + length entry.bytes) rest x)
            (its.named) rise ∙ high.is;
        marks = high.marks ∙ ap (mark_all second) (low.marks) ∙ sym (mark_all-append first second (set s.marks number 1));
        opened = omega arith;
        last = high.last ∙ ap (λ n. last_or n (names more)) latest ∙ sym (last_or-append (named kind s.latest) (names below) name (names more));
      }
