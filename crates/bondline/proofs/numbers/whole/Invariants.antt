-- In the loop what is left to read gives the whole number, and i digits are below 10^i. Assumes nothing.
use Rattle.std.proofs.Common.{◌≡◌, ◌^◌, ◌<◌, drop}
use Rattle.bondline.specs.Numbers.{whole_from}
use Rattle.bondline.proofs.numbers.whole.Given as goal

abbrev pub invariant-loop-i : goal.invariant-loop-i
invariant-loop-i l = (l.value < 10 ^ l.i) × (whole_from l.i l.value (drop l.i l.word) ≡ whole_from 0 0 l.word)
