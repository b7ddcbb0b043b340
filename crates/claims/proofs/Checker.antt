-- What a check answers is its contract: any result that it admits is the definition's.
use Rattle.std.proofs.Common.{◌≡◌}
use Rattle.directory.specs.Seen.{lent}
use Rattle.checker.specs.FileNames.{check_file_names}
use Rattle.checker.specs.State.{checked}
use Rattle.checker.proofs.check_file_names.Reads as reads
use Rattle.claims.specs.Contract.{Leaves}

-- the checker's answer and every byte of the marks are those of the recursive check, for any directory, table and marks
pub check : Leaves reads.Post (λ l a x s. checked x s.1.1.0.now ≡ check_file_names (lent a.0.now) a.1.0.now a.1.1.0.now)
check l a x s p = p
