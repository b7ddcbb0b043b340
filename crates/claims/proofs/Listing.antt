-- What a step answers is its contract: any result that it admits is the definition's.
use Rattle.std.proofs.Common.{◌≡◌}
use Rattle.directory.specs.Directory.{spent_at}
use Rattle.directory.specs.Seen.{lent}
use Rattle.index.specs.Seen.{taken, stepped}
use Rattle.index.specs.Step as Step
use Rattle.index.proofs.Cursor.step.Reads as reads
use Rattle.index.proofs.step.Reads as by-value
use Rattle.claims.specs.Contract.{Promises, Leaves}

-- one step, for any cursor and any directory, is the definition of a step: its answer, and the cursor then
pub step : Leaves reads.Post (λ l a x s. taken x s.0.now ≡ Step.step (lent a.1.0.now) (spent_at a.1.1.0) a.0.now)
step l a x s p = p

-- the same with the cursor in and out by value
pub step_by_value : Promises by-value.Post (λ l a x. stepped x ≡ Step.step (lent a.0.now) (spent_at a.1.0) a.1.1.0)
step_by_value l a x s p = p
