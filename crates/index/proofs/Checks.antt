-- Judging level after level from the root down.
use Rattle.std.proofs.Common.{zero, suc, add-one, ℕ, ◌≡◌, ◌≢◌, ◌+◌, ◌≤◌, ◌<◌, Bool, true, false, nat_eq, nat_lt, if◌then◌else◌, Result, List, get_or, get_or-take, take, refl, ◌∙◌}
use Rattle.std.proofs.Common.{arith, Ok, Err}
use Rattle.std.proofs.lemmas.Grind.{common_steps}
use Rattle.refusal.specs.declared.Refusal.{Refusal}
use Rattle.refusal.specs.declared.Refusal.TheVariants.{TooManyLevels}
use Rattle.refusal.specs.Then.{◌>>=◌}
use Rattle.directory.specs.Limits.{level_limit}
use Rattle.directory.specs.Directory.{passed}
use Rattle.directory.specs.Lent.{Lent, Passed}
use Rattle.index.specs.declared.cursor.Level.{Level}
use Rattle.index.specs.declared.cursor.Cursor.{Cursor}
use Rattle.index.specs.Cursor.{blank, frames, levels_of}
use Rattle.index.specs.Step.{judge, judge_all, checked}

pub judge-none : (d : Passed) (slots : List Level) → judge_all d (frames slots 0) ≡ Ok tt
unfolding judge_all frames
judge-none d slots = refl

pub judge-more : (d : Passed) (slots : List Level) (at depth : ℕ) → at < depth
    → judge_all d (frames slots (at + 1)) ≡ (judge_all d (frames slots at) >>= λ fine. judge d (get_or (take depth slots) at blank))
unfolding judge_all frames
judge-more d slots at depth inside = rw (add-one, get_or-take) refl

-- what is refused higher up is refused
pub judge-further : (d : Passed) (slots : List Level) (few more : ℕ) (refusal : Refusal) → few ≤ more → judge_all d (frames slots few) ≡ Err refusal
    → judge_all d (frames slots more) ≡ Err refusal
unfolding judge_all frames
judge-further d slots few zero refusal less is = let same : few ≡ 0 = omega arith in rw same at is
judge-further d slots few (suc more) refusal less is = by (nat_eq few (suc more)) refl (λ lower. judge-further d slots few more refusal lower is)
  where
    by : (here : Bool) → nat_eq few (suc more) ≡ here → (few ≤ more → judge_all d (frames slots more) ≡ Err refusal)
        → judge_all d (frames slots (suc more)) ≡ Err refusal
    by true here lower = let same : few ≡ suc more = grind (arith, common_steps) in rw same at is
    by false here lower = let other : few ≢ suc more = grind (arith, common_steps) in rw (lower (omega arith)) refl

pub judge-passed : (d : Passed) (slots : List Level) (at depth : ℕ) (fine : Unit {0}) → at < depth → judge_all d (frames slots at) ≡ Ok tt
    → judge d (get_or (take depth slots) at blank) ≡ Ok fine → judge_all d (frames slots (at + 1)) ≡ Ok tt
judge-passed d slots at depth fine inside before here = judge-more d slots at depth inside ∙ rw before here

pub judge-broken : (d : Passed) (slots : List Level) (at depth : ℕ) (refusal : Refusal) → at < depth → judge_all d (frames slots at) ≡ Ok tt
    → judge d (get_or (take depth slots) at blank) ≡ Err refusal → judge_all d (frames slots depth) ≡ Err refusal
judge-broken d slots at depth refusal inside before here =
    judge-further d slots (at + 1) depth refusal (omega arith) (judge-more d slots at depth inside ∙ rw before here)

-- a cursor that is in order has no more levels than there may be
pub checked-few : (lent : Lent) (cursor : Cursor) (d : Passed) → checked lent cursor ≡ Ok d → cursor.depth ≤ level_limit
unfolding checked
checked-few lent cursor d = by (passed lent)
  where
    by : (r : Result Passed Refusal) → (r >>= λ its. (if nat_lt level_limit cursor.depth then Err TooManyLevels else judge_all its (levels_of cursor))
        >>= λ (fine : Unit {0}). Ok its) ≡ Ok d → cursor.depth ≤ level_limit
    by (Err refusal) is = absurd (let P : ⊥ = cc in P)
    by (Ok its) is = deep (nat_lt level_limit cursor.depth) refl is
      where
        deep : (many : Bool) → nat_lt level_limit cursor.depth ≡ many
            → ((if many then Err TooManyLevels else judge_all its (levels_of cursor)) >>= λ (fine : Unit {0}). Ok its) ≡ Ok d → cursor.depth ≤ level_limit
        deep true test is = absurd (let P : ⊥ = cc in P)
        deep false test is = grind (arith, common_steps)

pub ruleset of_checks = (judge-none, judge-passed, judge-broken)
