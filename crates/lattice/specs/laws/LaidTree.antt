-- What laying a whole tree in the slices promises: its outcome, and where there is a tree, that its layers stand there as fit and walk ask. Assumes nothing.
use Rattle.std.specs.Prelude.{ℕ, ◌≡◌, Bool, List, ◌∷◌, ℤ, Float, Ok}
use Rattle.floats.specs.Answers.{Check, Outcome}
use Rattle.hullwhite.specs.laws.Filled.{check_of}
use Rattle.lattice.specs.Lattice.{Lattice}
use Rattle.lattice.specs.laws.Stored.{numbers_in}
use Rattle.lattice.specs.laws.Laid.{front_nodes, layers_in, final_in, Laid}

-- A tree whose first layer, of c nodes with these numbers, stands in front. `one` and `two` are the rows' lengths.
pub record LaidTree (flat : Bool) (one two c : ℕ) (numbers : List ℤ) (t : Lattice) (counts : List ℕ) (spacings : List Float) (nodes : List ℤ) (probabilities : List Float) : Type 0 where
  pub others : List ℕ
  pub counted : counts ≡ c ∷ others
  pub first_layer : numbers_in (front_nodes c nodes) ≡ numbers
  pub layers : layers_in flat counts spacings nodes probabilities ≡ t.layers
  pub final : final_in counts spacings nodes ≡ t.final
  pub laid : Laid flat one two counts spacings nodes probabilities

pub record LaysTree (flat : Bool) (one two c : ℕ) (numbers : List ℤ) (o : Outcome Lattice) (r : Check) (counts : List ℕ) (spacings : List Float) (nodes : List ℤ) (probabilities : List Float) : Type 0 where
  pub outcome : r ≡ check_of o
  pub tree : (t : Lattice) → o ≡ Ok t → LaidTree flat one two c numbers t counts spacings nodes probabilities
