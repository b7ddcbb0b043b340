use Rattle.std.proofs.Common.{◌≡◌, ◌+◌, ◌*◌, ◌++◌, take}
use Rattle.arrayvec.specs.ArrayVec.{array_vec_len}
use Rattle.capture_line.specs.Text.{hex_pairs}
use Rattle.capture_line.proofs.parts.push_units.Given as goal

abbrev pub invariant-loop-unit : goal.invariant-loop-unit
invariant-loop-unit l = record {
  long : array_vec_len l.text ≡ array_vec_len l.initial.text + 4 * l.unit-index;
  text : l.text.items ≡ l.initial.text.items ++ hex_pairs (take l.unit-index l.units);
}
