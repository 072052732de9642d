-- Definitions only. The discount curve.
use Rattle.std.specs.Prelude.{ℕ, ◌≤◌, ◌≡◌, cond, List, [], ◌∷◌, map, length, Float, Ok}
use Rattle.std.specs.Float.{binary64}
use Rattle.std.specs.Float.Ieee.{add, sub, mul, div, lt}
use Rattle.floats.specs.Answers.{Answer, plus_zero, follow, tested, when_finite}
use Rattle.elementary.specs.Exponential.{exp_at}
use Rattle.elementary.specs.Logarithm.{ln_at}
use Rattle.terms.specs.declared.Settlement.{Settlement}
use Rattle.terms.specs.declared.Epoch.{Epoch}
use Rattle.terms.specs.Terms.{Pillars}
use Rattle.terms.specs.Times.{time_from, year_fraction}

-- The linear rule: l0 + (l1 − l0) × ((t − t0)/(t1 − t0)).
abbrev pub on_line : Float → Float → Float → Float → Float → ℕ → Answer
on_line t t0 l0 t1 l1 place =
    when_finite (sub binary64 l1 l0) place λ rise.
    when_finite (sub binary64 t t0) place λ part.
    when_finite (sub binary64 t1 t0) place λ all.
    when_finite (div binary64 part all) place λ share.
    when_finite (mul binary64 rise share) place λ more. tested (add binary64 l0 more) place

-- exp of the linear rule over ln of the two factors.
unfoldable pub between : Float → Float → Float → Float → Float → ℕ → Answer
between t t0 d0 t1 d1 place =
    follow (ln_at d0 place) λ l0.
    follow (ln_at d1 place) λ l1.
    follow (on_line t t0 l0 t1 l1 place) λ x. exp_at x place

-- Over the pillars' times and factors: from each pillar, itself included, up to the next that rule; at or past the last pillar its factor.
unfoldable pub curve_over : List Float → List Float → Float → ℕ → Answer
unfolding between lt
curve_over (t0 ∷ t1 ∷ times) (d0 ∷ d1 ∷ factors) t place =
    cond (lt t t1) (between t t0 d0 t1 d1 place) (curve_over (t1 ∷ times) (d1 ∷ factors) t place)
curve_over (t0 ∷ []) (d0 ∷ factors) t place = Ok d0
curve_over (t0 ∷ t1 ∷ times) (d0 ∷ []) t place = Ok d0
curve_over (t0 ∷ times) [] t place = Ok plus_zero
curve_over [] factors t place = Ok plus_zero

-- The pillars' times.
abbrev pub pillar_times : Settlement → List ℕ → List Float
pillar_times settlement days = map (year_fraction settlement) days

-- These are the pillars' times, where there are no more pillars than a curve has.
pub record CurveTimes (settlement : Settlement) (days : List ℕ) (times : List Float) : Type 0 where
  pub timed : length days ≤ 256 → times ≡ pillar_times settlement days

-- The curve at time t.
abbrev pub curve_at : Settlement → Pillars → Float → ℕ → Answer
curve_at settlement p = curve_over (pillar_times settlement p.days) p.factors

-- A day's factor is the curve's at the day's time.
abbrev pub factor_of : (Float → ℕ → Answer) → Epoch → ℕ → ℕ → Answer
factor_of curve settlement day place = curve (time_from settlement day) place
