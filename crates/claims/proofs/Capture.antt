-- The promises of captures, from the laws of their crate.
use Rattle.capture.proofs.Written.{read_back}
use Rattle.claims.specs.Capture.{AnyNumberOfRecords}

pub any_number_of_records : AnyNumberOfRecords
any_number_of_records = read_back
