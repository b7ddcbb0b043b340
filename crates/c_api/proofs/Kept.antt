-- The numbers of refusals, and what they keep.
use Rattle.std.proofs.Common.{zero, suc, ℕ, ◌≡◌, ◌≢◌, ◌≤◌, ◌+◌, List, [], ◌∷◌, length, slice_index_or, refl, arith, Option, Some, None}
use Rattle.std.proofs.Math.ListN.{get_or-eq_default}
use Rattle.refusal.specs.declared.Refusal.{Refusal}
use Rattle.refusal.specs.declared.Refusal.TheVariants.{RootTooShort, RootStartOutside, RootEndOutside, RootStartPastEnd, LargeWithoutPool}
use Rattle.refusal.specs.declared.Refusal.TheVariants.{SizeNotAllowed, PoolNotWholeRecords, EntrySize, EntryDataRange, SubnodeWithoutPool}
use Rattle.refusal.specs.declared.Refusal.TheVariants.{TooManyLevels, AllowanceSpent, VcnNowhere, Signature, AllocatedSize, IndexSize, OwnVcn}
use Rattle.refusal.specs.declared.Refusal.TheVariants.{KeyUnreadable, TableLength, NameTooLong, MarksTooShort, ReachedTwice, NodeEnd, KeyMissing}
use Rattle.refusal.specs.declared.Refusal.TheVariants.{NameFalls, MalformedCapture}
use Rattle.refusal.specs.Number.{number_of}
use Rattle.c_api.specs.Words.{kept_numbers, kept_from}

pub kept-number : (refusal : Refusal) → kept_from (number_of refusal) ≡ Some refusal
kept-number RootTooShort = refl
kept-number RootStartOutside = refl
kept-number RootEndOutside = refl
kept-number RootStartPastEnd = refl
kept-number LargeWithoutPool = refl
kept-number SizeNotAllowed = refl
kept-number PoolNotWholeRecords = refl
kept-number EntrySize = refl
kept-number EntryDataRange = refl
kept-number SubnodeWithoutPool = refl
kept-number TooManyLevels = refl
kept-number AllowanceSpent = refl
kept-number VcnNowhere = refl
kept-number Signature = refl
kept-number AllocatedSize = refl
kept-number IndexSize = refl
kept-number OwnVcn = refl
kept-number KeyUnreadable = refl
kept-number TableLength = refl
kept-number NameTooLong = refl
kept-number MarksTooShort = refl
kept-number ReachedTwice = refl
kept-number NodeEnd = refl
kept-number KeyMissing = refl
kept-number NameFalls = refl
kept-number MalformedCapture = refl

-- what stands at a number has that number
abbrev HasNumber : ℕ → Option Refusal → Type 0
HasNumber number (Some refusal) = number_of refusal ≡ number
HasNumber number None = Unit {0}

abbrev HaveNumbers : ℕ → List (Option Refusal) → Type 0
HaveNumbers number [] = Unit {0}
HaveNumbers number (kept ∷ rest) = HasNumber number kept × HaveNumbers (suc number) rest

has_number : (first number : ℕ) (kepts : List (Option Refusal)) (at : ℕ) → HaveNumbers first kepts → number ≡ at + first
    → HasNumber number (slice_index_or kepts at None)
has_number first number [] at have is = tt
has_number first number (kept ∷ rest) zero have is = let same : number ≡ first = omega arith in rw same have.0
has_number first number (kept ∷ rest) (suc at) have is = has_number (suc first) number rest at have.1 (omega arith)

none_kept : (number : ℕ) (kept : Option Refusal) → HasNumber number kept → ((refusal : Refusal) → number_of refusal ≢ number) → kept ≡ None
none_kept number (Some refusal) has none = absurd (none refusal has)
none_kept number None has none = refl

-- a number that no refusal has keeps none
pub kept-none : (number : ℕ) → ((refusal : Refusal) → number_of refusal ≢ number) → kept_from number ≡ None
kept-none number = none_kept number (kept_from number) (has_number 0 number kept_numbers number all (omega arith))
  where
    all : HaveNumbers 0 kept_numbers
    all = (
      tt,
      (
        refl,
        (
          refl,
          (
            refl,
            (
              refl,
              (
                refl,
                (
                  refl,
                  (
                    refl,
                    (
                      refl,
                      (
                        refl,
                        (
                          refl,
                          (
                            refl,
                            (
                              refl,
                              (
                                refl,
                                (refl, (refl, (refl, (refl, (refl, (refl, (refl, (refl, (refl, (refl, (refl, (refl, (refl, tt))))))))))))),
                              ),
                            ),
                          ),
                        ),
                      ),
                    ),
                  ),
                ),
              ),
            ),
          ),
        ),
      ),
    )

-- nor does a larger one
pub kept-past : (number : ℕ) → 256 ≤ number → kept_from number ≡ None
kept-past number past = let long : length kept_numbers ≤ number = omega arith in get_or-eq_default kept_numbers None long

pub ruleset of_numbers = (kept-number, kept-none, kept-past)
