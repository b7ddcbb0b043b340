-- What a function's contract promises of its answer.

-- post: what a contract promises of the lifetimes, the arguments, the result, and what is lent at exit
abbrev pub Promises : {L : Type 0} {A R E : L → Type 0} → ((l : L) → A l → R l → E l → Type 0) → ((l : L) → A l → R l → Type 0) → Type 0
Promises {L} {A} {R} {E} post fact = (l : L) (a : A l) (x : R l) (s : E l) → post l a x s → fact l a x

-- the same of its answer and of what is lent at exit
abbrev pub Leaves : {L : Type 0} {A R E : L → Type 0} → ((l : L) → A l → R l → E l → Type 0) → ((l : L) → A l → R l → E l → Type 0) → Type 0
Leaves {L} {A} {R} {E} post fact = (l : L) (a : A l) (x : R l) (s : E l) → post l a x s → fact l a x s
