use Rattle.sound.proofs.Whole.{marks_unchanged}
use Rattle.sound.proofs.marks_unchanged.Goals as goal

pub returns : goal.returns
returns c = marks_unchanged
