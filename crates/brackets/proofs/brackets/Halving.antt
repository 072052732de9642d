-- One halving, told from what is worked out on the way. Over any objective. Assumes nothing.
use Rattle.std.specs.Prelude.{Ok, Err}
use Prim.Native.Nat.{ℕ, ◌+◌}
use mathlib.Core.Path.{◌≡◌}
use mathlib.Core.Bool.{Bool, false, cond}
use lib.Ieee.{Float, binary64, sub, lt}
use Rattle.floats.specs.Answers.{Answer, plus_zero, tested}
use Rattle.floats.specs.Middle.{midpoint_at}
use Rattle.floats.proofs.Laws.{left_call}
use Rattle.terms.specs.Numbers.{tolerance, width_tolerance}
use Rattle.brackets.specs.declared.Bracket.{Bracket}
use Rattle.brackets.specs.declared.NoRoot.{NoRoot}
use Rattle.brackets.specs.declared.Halved.{Halved}
use Rattle.brackets.specs.declared.Halved.TheVariants as halved
use Rattle.brackets.specs.Brackets.{Searched, counted, small, halve}
use Rattle.brackets.proofs.Laws.{counted-given, tested-given, tested-refused}

module _ (objective : Float → Answer) (b : Bracket) where
  -- What follows once the middle, the objective there and the width are known.
  abbrev pub narrowed : Float → Float → Float → Searched Halved
  narrowed middle y width =
      cond (small width_tolerance width) (Ok (halved.Found (record { at = middle; evaluations = b.evaluations + 1 })))
      (cond (lt plus_zero y)
      (Ok (halved.Next (record { lower = middle; upper = b.upper; at_lower = y; at_upper = b.at_upper; evaluations = b.evaluations + 1 })))
      (Ok (halved.Next (record { lower = b.lower; upper = middle; at_lower = b.at_lower; at_upper = y; evaluations = b.evaluations + 1 }))))

  module _
      {s s2 s3 : Answer} {w w2 w3 : Searched Float} {middle y : Float} {near : Bool}
      (e : w ≡ counted s b.evaluations) (h : s ≡ midpoint_at b.lower b.upper 0) (v : w ≡ Ok middle)
      (e2 : w2 ≡ counted s2 (b.evaluations + 1)) (h2 : s2 ≡ objective middle) (v2 : w2 ≡ Ok y)
      (is : near ≡ small tolerance y) (no : near ≡ false)
      (e3 : w3 ≡ counted s3 (b.evaluations + 1)) (h3 : s3 ≡ tested (sub binary64 b.upper b.lower) 0) where
    pub halving_refused : {q : NoRoot} {r : Searched Halved} → w3 ≡ Err q → r ≡ Err q → r ≡ halve objective b
    unfolding halve
    halving_refused u p = counted-given _ _ _ _ e h v (counted-given _ _ _ _ e2 h2 v2 (left_call _ _ _ is no (tested-refused _ _ _ e3 h3 u p)))

    pub halving_narrows : {width : Float} {r : Searched Halved} → w3 ≡ Ok width → r ≡ narrowed middle y width → r ≡ halve objective b
    unfolding halve
    halving_narrows u p = counted-given _ _ _ _ e h v (counted-given _ _ _ _ e2 h2 v2 (left_call _ _ _ is no (tested-given _ _ (narrowed middle y) e3 h3 u p)))
