use Rattle.capture_line.proofs.Names.{name_short}
use Rattle.capture_line.proofs.read_name.Goals as goal

pub returns-clause-short : goal.returns-clause-short
returns-clause-short c =
    rw c.ok.ensures.value (name_short c.args.key c.try_from.result (c.type_inv.key 64).fits c.try_from.ensures)
