-- No refusal has a number past those of a byte.
use Rattle.std.proofs.Common.{◌≡◌, ◌≤◌, ◌<◌, ℕ, arith, sym, ◌∙◌, false, Result, Ok, Err}
use Rattle.std.specs.Result.{OkIff, is_ok}
use Rattle.c_api.proofs.Kept.{kept-past}
use Rattle.c_api.proofs.cursor.kept_from.Goals as goal

past : {E : Type 0} (fits : Result ℕ E) (number : ℕ) → OkIff fits (number < 256) number → false ≡ is_ok fits → 256 ≤ number
past (Ok byte) number is other = absurd (let P : ⊥ = cc in P)
past (Err e) number is other = omega (arith, is)

pub returns-in_err-number : goal.returns-in_err-number
returns-in_err-number c =
    c.from_residual.ensures ∙ sym (kept-past c.args.number (past c.try_from.result c.args.number c.try_from.ensures c.in_err-number.ensures.variant))
