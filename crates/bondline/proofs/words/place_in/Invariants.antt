-- In the loop no word before k is the word given. Assumes nothing.
use Rattle.std.proofs.Common.{◌≡◌, ◌-◌}
use Rattle.bondline.specs.Words.{seek, place_in}
use Rattle.bondline.proofs.words.place_in.Given as goal

abbrev pub invariant-loop-k : goal.invariant-loop-k
invariant-loop-k l = seek l.word l.table (l.n - l.k) l.k ≡ place_in l.word l.table l.n
