-- What a writer holds after a call that may have stopped on the way.
use Rattle.std.proofs.lemmas.Grind.{common_steps}
use Rattle.std.proofs.Math.Seq.{take-append-add}
use Rattle.std.proofs.Common.{arith, length, ◌-◌, ◌≤◌, ◌≡◌, ℕ, ◌+◌, List, [], ◌++◌, Option, take, drop, refl, sym, ap, subst, ◌∙◌, append_assoc, take-append-drop}
use Rattle.std.proofs.KnownBytes.{Appends-trans, Appends-kept, Appends-nil}
use Rattle.std.specs.Io.KnownBytes.{Appends, Keeps}
use Rattle.capture_show.specs.Front.{AppendsFront}

-- the first n of the bytes are a front of them
pub front_at : (old new : Option (List ℕ)) (n : ℕ) (bs : List ℕ) → Appends old new (take n bs) → AppendsFront old new bs
front_at old new n bs h = (take n bs, drop n bs, sym (take-append-drop n bs), h)

-- and so they are where nothing more was written since
pub front_kept : (old mid new : Option (List ℕ)) (n : ℕ) (bs : List ℕ) → Appends old mid (take n bs) → Keeps mid new → AppendsFront old new bs
front_kept old mid new n bs h k = front_at old new n bs (Appends-kept old mid new _ h k)

-- all of the bytes, and a front of what follows
pub front_more : (old mid new : Option (List ℕ)) (bs more : List ℕ) → Appends old mid bs → AppendsFront mid new more → AppendsFront old new (bs ++ more)
front_more old mid new bs more h f =
    (bs ++ f.0, f.1, ap (λ l. bs ++ l) f.2 ∙ sym (append_assoc bs f.0 f.1), Appends-trans old mid new bs f.0 h f.3)

-- a front of bytes is a front of these with more behind
pub front_longer : (old new : Option (List ℕ)) (bs more : List ℕ) → AppendsFront old new bs → AppendsFront old new (bs ++ more)
front_longer old new bs more f = (f.0, f.1 ++ more, ap (λ l. l ++ more) f.2 ∙ append_assoc f.0 f.1 more, f.3)

-- nothing is a front
pub front_none : (old : Option (List ℕ)) (bs : List ℕ) → AppendsFront old old bs
front_none old bs = ([], bs, refl, Appends-nil old)

-- what is left of the bytes, taken whole
front_rest : (done : ℕ) (bs : List ℕ) → take (length bs - done) (drop done bs) ≡ drop done bs
front_rest done bs = grind (arith, common_steps)

front_split : (done n : ℕ) (bs : List ℕ) → done ≤ length bs → take (done + n) bs ≡ take done bs ++ take n (drop done bs)
front_split done n bs within =
    let len : length (take done bs) ≡ done = grind (arith, common_steps) in
    ap (take (done + n)) (sym (take-append-drop done bs)) ∙ (ap (λ k. take (k + n) (take done bs ++ drop done bs)) (sym len) ∙ take-append-add (take done bs) (drop done bs) n)

-- what a write takes of what is left
pub front_left : (done n : ℕ) (bs : List ℕ) → n ≤ length (take (length bs - done) (drop done bs)) → n ≤ length bs - done
front_left done n bs h = grind (arith, common_steps)

-- a front, and then a front of what is left
pub front_step : (old mid new : Option (List ℕ)) (done n : ℕ) (bs : List ℕ) → done ≤ length bs → Appends old mid (take done bs)
    → Appends mid new (take n (take (length bs - done) (drop done bs))) → Appends old new (take (done + n) bs)
front_step old mid new done n bs within h w =
    subst (Appends old new) (ap (λ l. take done bs ++ take n l) (front_rest done bs) ∙ sym (front_split done n bs within))
    (Appends-trans old mid new _ _ h w)

-- the same bytes
pub front_same : (old new : Option (List ℕ)) (bs cs : List ℕ) → AppendsFront old new bs → bs ≡ cs → AppendsFront old new cs
front_same old new bs cs f e = (f.0, f.1, sym e ∙ f.2, f.3)

-- some of a text has been written, and what is left of it is known
abbrev pub Written : Option (List ℕ) → Option (List ℕ) → (whole left : List ℕ) → Type 0
Written old new whole left = (done : List ℕ) × (whole ≡ done ++ left) × Appends old new done

pub written_none : (old : Option (List ℕ)) (whole : List ℕ) → Written old old whole whole
written_none old whole = ([], refl, Appends-nil old)

-- a further part of it
pub written_more : (old mid new : Option (List ℕ)) (whole left bs rest : List ℕ) → Written old mid whole left → left ≡ bs ++ rest → Appends mid new bs → Written old new whole rest
written_more old mid new whole left bs rest w e h =
    (w.0 ++ bs, w.1 ∙ (ap (λ l. w.0 ++ l) e ∙ sym (append_assoc w.0 bs rest)), Appends-trans old mid new w.0 bs w.2 h)

-- all that was left
pub written_all : (old mid new : Option (List ℕ)) (whole left bs : List ℕ) → Written old mid whole left → left ≡ bs → Appends mid new bs → Appends old new whole
written_all old mid new whole left bs w e h =
    subst (Appends old new) (sym (w.1 ∙ ap (λ l. w.0 ++ l) e)) (Appends-trans old mid new w.0 bs w.2 h)

-- a front of what was left
pub written_front : (old mid new : Option (List ℕ)) (whole left bs : List ℕ) → Written old mid whole left → left ≡ bs → AppendsFront mid new bs → AppendsFront old new whole
written_front old mid new whole left bs w e f = front_same old new (w.0 ++ bs) whole (front_more old mid new w.0 bs w.2 f) (sym (w.1 ∙ ap (λ l. w.0 ++ l) e))

-- and a front of its next part
pub written_part : (old mid new : Option (List ℕ)) (whole left bs rest : List ℕ) → Written old mid whole left → left ≡ bs ++ rest → AppendsFront mid new bs → AppendsFront old new whole
written_part old mid new whole left bs rest w e f = written_front old mid new whole left (bs ++ rest) w e (front_longer mid new bs rest f)
