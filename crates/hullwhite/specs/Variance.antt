-- Definitions only. hull_white_piecewise_variance and transition_variances, every operation tested in the order of the source.
use Rattle.std.specs.Prelude.{ℕ, zero, suc, Bool, cond, ◌&&◌, List, [], ◌∷◌, Float, Ok}
use Rattle.std.specs.Float.{binary64}
use Rattle.std.specs.Float.Ieee.{add, sub, mul, div, neg, lt, le}
use Rattle.floats.specs.Answers.{Answer, plus_zero, two, follow, tested, when_finite, Outcome}
use Rattle.floats.specs.Extremes.{max_of, min_of}
use Rattle.elementary.specs.Exponential.{exp_at, exp_m1_at}
use Rattle.terms.specs.Numbers.{float, tolerance}
use Rattle.terms.specs.Terms.{HullWhite}

-- |alpha| < 1e-12.
abbrev pub no_decay : Float → Bool
no_decay alpha = lt (neg tolerance) alpha && lt alpha tolerance

-- exp(−2 alpha × (end − upper)) × (−exp_m1(−2 alpha × (upper − lower))) / (2 alpha).
abbrev pub decaying_weight : Float → Float → Float → Float → ℕ → Answer
decaying_weight alpha lower upper end place =
    when_finite (mul binary64 (neg two) alpha) place λ rate.
    when_finite (sub binary64 end upper) place λ after.
    when_finite (mul binary64 rate after) place λ x.
    follow (exp_at x place) λ left.
    when_finite (sub binary64 upper lower) place λ length.
    when_finite (mul binary64 rate length) place λ y.
    follow (exp_m1_at y place) λ grown.
    when_finite (mul binary64 left (neg grown)) place λ both.
    when_finite (mul binary64 two alpha) place λ twice. tested (div binary64 both twice) place

-- |alpha| < 1e-12 takes upper − lower.
abbrev pub weight : Float → Float → Float → Float → ℕ → Answer
weight alpha lower upper end place =
    cond (no_decay alpha) (tested (sub binary64 upper lower) place) (decaying_weight alpha lower upper end place)

-- One sigma's piece: nothing where upper ≤ lower; else sigma × sigma × weight is added.
unfoldable pub with_piece : Float → Float → Float → Float → Float → Float → ℕ → Answer
unfolding add sub mul div neg lt le
with_piece alpha lower upper end sigma total place =
    cond (le upper lower) (Ok total)
    (follow (weight alpha lower upper end place) λ w.
    when_finite (mul binary64 sigma sigma) place λ square.
    when_finite (mul binary64 square w) place λ more. tested (add binary64 total more) place)

-- The pieces from `lower` on: each sigma holds until the next time, the last one on and on.
unfoldable pub pieces : Float → Float → Float → Float → List Float → List Float → Float → ℕ → Answer
unfolding with_piece max_of min_of
pieces alpha start end lower (next ∷ times) (sigma ∷ sigmas) total place =
    follow (with_piece alpha lower (min_of end next) end sigma total place) λ total.
    pieces alpha start end (max_of start next) times sigmas total place
pieces alpha start end lower [] (sigma ∷ sigmas) total place = with_piece alpha lower end end sigma total place
pieces alpha start end lower (next ∷ times) [] total place = Ok total
pieces alpha start end lower [] [] total place = Ok total

-- Entry 0 reaches back to the start.
unfoldable pub variance_over : Float → List Float → List Float → Float → Float → ℕ → Answer
unfolding pieces
variance_over alpha (first ∷ times) sigmas start end place = pieces alpha start end start times sigmas plus_zero place
variance_over alpha [] sigmas start end place = Ok plus_zero

abbrev pub piecewise_variance : HullWhite → Float → Float → ℕ → Answer
piecewise_variance model start end place = variance_over model.alpha model.sigma.times model.sigma.sigmas start end place

-- Step k's interval is from k × time_step to that plus time_step; a refusal there has place k.
unfoldable pub step_variance : HullWhite → Float → ℕ → Answer
unfolding variance_over
step_variance model dt k =
    when_finite (mul binary64 (float k) dt) k λ start.
    when_finite (add binary64 start dt) k λ end. piecewise_variance model start end k

-- The variances of the count steps from k on.
unfoldable pub variances_from : HullWhite → Float → ℕ → ℕ → Outcome (List Float)
unfolding step_variance
variances_from model dt zero k = Ok []
variances_from model dt (suc count) k =
    follow (step_variance model dt k) λ v. follow (variances_from model dt count (suc k)) λ vs. Ok (v ∷ vs)

-- transition_variances
abbrev pub transition_variances : HullWhite → ℕ → Float → Outcome (List Float)
transition_variances model steps dt = variances_from model dt steps 0
