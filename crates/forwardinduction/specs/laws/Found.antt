-- What a function that fills a whole slice promises: whether it passed, and the slice where it did. Assumes nothing.
use Rattle.std.specs.Prelude.{◌≡◌, List, Float, Ok}
use Rattle.floats.specs.Answers.{Check, Outcome}
use Rattle.hullwhite.specs.laws.Filled.{check_of}

pub record Found (o : Outcome (List Float)) (r : Check) (after : List Float) : Type 0 where
  pub outcome : r ≡ check_of o
  pub slice : (xs : List Float) → o ≡ Ok xs → after ≡ xs
