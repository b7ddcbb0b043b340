use Rattle.std.proofs.Common.{arith}
use Rattle.capture_line.proofs.NameText.{digit_read, newline_read, nothing_read}
use Rattle.capture_line.proofs.bytes.digit_byte.Goals as goal

pub returns-then-i-units : goal.returns-then-i-units
returns-then-i-units c = digit_read _ _ _ _ _ c.if-i-units.true c.hex_digits.ensures c.byte_at.ensures

pub returns-then-i-units-2 : goal.returns-then-i-units-2
returns-then-i-units-2 c = newline_read c.args.units.now c.args.i c.if-i-units-2.true

pub returns : goal.returns
returns c = nothing_read c.args.units.now c.args.i (omega (arith, c.if-i-units.false, c.if-i-units-2.false))
