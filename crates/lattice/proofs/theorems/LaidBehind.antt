-- What laying all middles of a layer leaves: the nodes that they reach, with middles 0, behind the layer in front; and how many there are. Assumes nothing.
use Rattle.std.specs.Prelude.{◌≡◌, ℤ}
use Rattle.std.proofs.Common.{sym, ◌∙◌}
use mathlib.Core.List.{List, ◌∷◌}
use Rattle.lattice.specs.laws.Reaching.{nothing_below}
use Rattle.lattice.specs.laws.RisingMiddles.{Rising, around, laid, done_at}
use Rattle.lattice.proofs.theorems.RisingMiddles.{around-laid}
use Rattle.lattice.specs.laws.Replaying.{first_reach}
use Rattle.lattice.specs.laws.LaidBehind.{first_laid}

-- What is laid from the first middle on is the sorted set of destinations.
pub laid-around : (m : ℤ) (ms : List ℤ) → Rising m ms → laid (nothing_below m) (m ∷ ms) ≡ around (m ∷ ms)
unfolding laid
laid-around m ms r = rw (first_reach m) (first_laid m (laid (done_at m 3) ms) ∙ sym (around-laid 3 m ms r))
