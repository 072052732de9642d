-- Values that are no lower: what each operation of the walk makes of them, and rows of them. Assumes nothing.
use Rattle.std.specs.Prelude.{Bool, true, false, cond, ◌||◌, List, [], ◌∷◌, T, ℤ, Float}
use Rattle.std.specs.Float.{binary64}
use Rattle.std.specs.Float.Ieee.{add, mul, le}
use Rattle.std.specs.Float.Ieee.Scale.{finite}
use Rattle.floats.specs.Answers.{plus_zero}
use Rattle.floats.specs.laws.Order.{number_of-finite, le_refl}
use Rattle.floats.specs.laws.Arithmetic.{add-mono, mul_mono_left}
use Rattle.floats.specs.laws.Finite.{finite_of_add, finite_of_mul}
use Rattle.elementary.specs.laws.Values.{Above}
use Rattle.lattice.specs.Layers.{At, below, value_at}

-- Both finite, and the second no lower than the first.
pub record Higher (x y : Float) : Type 0 where
  pub first_finite : T (finite x)
  pub second-finite : T (finite y)
  pub no_lower : T (le x y)

-- So wherever the first is finite. A float that isn't finite rises to whatever stands there: no result that is read from it is given.
pub record Rises (x y : Float) : Type 0 where
  pub where_finite : T (finite x) → Higher x y

pub higher-refl : (x : Float) → T (finite x) → Higher x x
higher-refl x h = record { first_finite = h; second-finite = h; no_lower = le_refl x (number_of-finite x h) }

pub rises-refl : (x : Float) → Rises x x
rises-refl x = record { where_finite = higher-refl x }

pub rises_of_higher : (x y : Float) → Higher x y → Rises x y
rises_of_higher x y h = record { where_finite = λ _. h }

-- ---- operations

pub times : (x y p : Float) → Rises x y → Above p → T (finite (mul binary64 x p)) → T (finite (mul binary64 y p)) → Higher (mul binary64 x p) (mul binary64 y p)
times x y p r w f g =
    let h = r.where_finite (finite_of_mul binary64 x p f).0 in
    record {
      first_finite = f;
      second-finite = g;
      no_lower = mul_mono_left binary64 x y p h.first_finite h.second-finite w.is_finite w.above h.no_lower;
    }

pub plus : (a b c d : Float) → T (le a b) → T (le c d) → T (finite (add binary64 a c)) → T (finite (add binary64 b d)) → Higher (add binary64 a c) (add binary64 b d)
plus a b c d h k f g =
    let p = finite_of_add binary64 a c f in
    let q = finite_of_add binary64 b d g in
    record { first_finite = f; second-finite = g; no_lower = add-mono binary64 a b c d p.0 q.0 p.1 q.1 h k }

-- ---- rows

-- The same nodes, with values that stand to one another in R.
pub data Rows (R : Float → Float → Type 0) : List At → List At → Type 0 where
  ends : Rows R [] []
  beside : {n : ℤ} {x y : Float} {row next : List At} → R x y → Rows R row next → Rows R (record { node = n; value = x } ∷ row) (record { node = n; value = y } ∷ next)

-- What holds of the values of a row, and of the 0 that stands where there is none, holds of the value at a node.
pub at_node : {R : Float → Float → Type 0} {row next : List At} (n : ℤ) → R plus_zero plus_zero → Rows R row next → R (value_at n row) (value_at n next)
unfolding value_at
at_node n z ends = z
at_node {R = R} n z (beside {n = m} {x = x} {y = y} {row = row} {next = next} h t) = go (below m n || below n m) (at_node n z t)
  where
    go : (b : Bool) → R (value_at n row) (value_at n next) → R (cond b (value_at n row) x) (cond b (value_at n next) y)
    go true k = k
    go false k = h

pub rises_of_rows : {row next : List At} → Rows Higher row next → Rows Rises row next
rises_of_rows ends = ends
rises_of_rows (beside {x = x} {y = y} h t) = beside (rises_of_higher x y h) (rises_of_rows t)
