-- What exp, exp_m1 and ln refuse with is 26 or 27: said of every P that these two numbers have. Assumes nothing.
use Prim.Native.Nat.{ℕ, zero, suc}
use Rattle.std.specs.Prelude.{Float}
use Rattle.floats.specs.laws.Cases.{Holds, RefusedOnly, refusing}
use Rattle.elementary.specs.Exponential.{series, exp_reduced, exp_at, exp_m1_at}
use Rattle.elementary.specs.Logarithm.{log_series, ln_of, ln_at}

module _ (P : ℕ → Type 0) (outside : P 26) (overflow : P 27) where
  series-refuses : (count low : ℕ) (r p : Float) (place : ℕ) → Holds (RefusedOnly P) (series low count r p place)
  unfolding series
  series-refuses zero low r p place = search refusing
  series-refuses (suc count) low r p place =
      let later = series-refuses count in
      search refusing depth 24

  reduced-refuses : (x : Float) (place : ℕ) → Holds (RefusedOnly P) (exp_reduced x place)
  unfolding exp_reduced
  reduced-refuses x place = search (series-refuses, refusing) depth 24

  pub exp-refuses : (x : Float) (place : ℕ) → Holds (RefusedOnly P) (exp_at x place)
  unfolding exp_at
  exp-refuses x place = search (reduced-refuses, refusing)

  pub exp_m1_refuses : (x : Float) (place : ℕ) → Holds (RefusedOnly P) (exp_m1_at x place)
  unfolding exp_m1_at
  exp_m1_refuses x place = search (exp-refuses, series-refuses, refusing) depth 24

  log_series-refuses : (count : ℕ) (z q : Float) (place : ℕ) → Holds (RefusedOnly P) (log_series count z q place)
  unfolding log_series
  log_series-refuses zero z q place = search refusing
  log_series-refuses (suc j) z q place =
      let later = log_series-refuses j in
      search refusing depth 24

  ln_of-refuses : (m k : Float) (place : ℕ) → Holds (RefusedOnly P) (ln_of m k place)
  unfolding ln_of
  ln_of-refuses m k place = search (log_series-refuses, refusing) depth 24

  pub ln-refuses : (x : Float) (place : ℕ) → Holds (RefusedOnly P) (ln_at x place)
  unfolding ln_at
  ln-refuses x place = search (ln_of-refuses, refusing)
