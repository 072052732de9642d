-- `writing::hex_digits` meets its contract. Assumes nothing.
use Rattle.decimal.proofs.writing.Hexadecimal.{Written}
use Rattle.decimal.proofs.writing.hex_digits.Given as goal

abbrev pub invariant-loop-i : goal.invariant-loop-i
invariant-loop-i l = Written l.bits l.digit-items l.i
