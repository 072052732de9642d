-- A number that is no NaN equals itself. Assumes nothing.
use mathlib.Core.Path.{◌≡◌, refl}
use mathlib.Core.Bool.{true, false, not}
use lib.Ieee.{Float, nan, inf, fin, eq, is_nan}
use Rattle.floats.specs.laws.Order.{le_refl, eq_of_le, T-to}

pub itself : (x : Float) → eq x x ≡ not (is_nan x)
unfolding eq is_nan
itself nan = refl
itself (inf true) = refl
itself (inf false) = refl
itself (fin s m e) = T-to (eq (fin s m e) (fin s m e)) (eq_of_le (fin s m e) (fin s m e) (le_refl (fin s m e) tt) (le_refl (fin s m e) tt))
