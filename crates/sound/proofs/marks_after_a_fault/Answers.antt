use Rattle.sound.proofs.Whole.{marks_after_a_fault}
use Rattle.sound.proofs.marks_after_a_fault.Goals as goal

pub returns : goal.returns
returns c = marks_after_a_fault
