-- exp tests its argument: what isn't finite is 27. So one exp at the end of a chain of operations equals a test of each of them. Assumes nothing.
use Rattle.std.specs.Prelude.{ℕ, ◌≡◌, refl, cond, T, Float, Ok}
use Rattle.std.proofs.Common.{ap}
use Rattle.std.specs.Float.{nan, inf, fin}
use Rattle.std.specs.Float.Ieee.{neg, lt}
use Rattle.std.specs.Float.Ieee.Scale.{finite}
use Rattle.floats.specs.Answers.{Answer, refusal, on_outcome, follow, not_finite, when_finite, plus_zero}
use Rattle.floats.specs.laws.Propagation.{Spoils}
use Rattle.elementary.specs.Exponential.{seven_hundred, exp_reduced, exp_at}
use Rattle.elementary.specs.laws.Values.{passed, finite-passed}
use Rattle.floats.specs.declared.Reason.TheVariants as reason

exp_spoilt : (x : Float) (place : ℕ) → T (not_finite x) → refusal reason.NotFinite place ≡ exp_at x place
unfolding exp_at
exp_spoilt nan place h = refl
exp_spoilt (inf s) place h = refl
exp_spoilt (fin s m e) place h = absurd h

-- exp answered a value: its argument is finite
pub exp_argument : (x : Float) (place : ℕ) (y : Float) → exp_at x place ≡ Ok y → T (finite x)
unfolding exp_at
exp_argument x place y e =
    finite-passed x (passed (not_finite x) reason.NotFinite place (cond (lt seven_hundred x) (refusal reason.Outside place) (cond (lt x (neg seven_hundred)) (Ok plus_zero) (exp_reduced x place))) y e).0

-- a test before exp
pub exp-later : (g : Float → Float) (x : Float) (place : ℕ) → Spoils g → when_finite x place (λ t. exp_at (g t) place) ≡ exp_at (g x) place
exp-later g nan place h = exp_spoilt (g nan) place (h nan tt)
exp-later g (inf s) place h = exp_spoilt (g (inf s)) place (h (inf s) tt)
exp-later g (fin s m e) place h = refl

-- the same, with more behind it
pub exp_later_then : (g : Float → Float) (x : Float) (place : ℕ) (k : Float → Answer) → Spoils g → when_finite x place (λ t. follow (exp_at (g t) place) k) ≡ follow (exp_at (g x) place) k
unfolding on_outcome
exp_later_then g nan place k h = ap (λ (a : Answer). follow a k) (exp_spoilt (g nan) place (h nan tt))
exp_later_then g (inf s) place k h = ap (λ (a : Answer). follow a k) (exp_spoilt (g (inf s)) place (h (inf s) tt))
exp_later_then g (fin s m e) place k h = refl
