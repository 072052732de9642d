-- `writing::hex_digits` meets its contract. Assumes nothing.
use Rattle.std.proofs.Common.{rules}
use Rattle.decimal.proofs.writing.Hexadecimal.{turn}
use Rattle.decimal.proofs.writing.hex_digits.Goals as goal

pub loop-i-preserved : goal.loop-i-preserved
loop-i-preserved c = search (turn, rules)
