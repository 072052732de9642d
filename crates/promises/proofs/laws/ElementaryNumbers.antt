-- What exp, exp_m1, ln and sqrt refuse with, 26 or 27, is among what arithmetic refuses with. Assumes nothing.
use Rattle.std.specs.Prelude.{ℕ, refl, Float}
use Rattle.floats.specs.laws.Cases.{Holds}
use Rattle.rounded.specs.Root.{sqrt_at}
use Rattle.rounded.specs.laws.Refusing.{sqrt-refuses}
use Rattle.elementary.specs.Exponential.{exp_at, exp_m1_at}
use Rattle.elementary.specs.Logarithm.{ln_at}
use Rattle.elementary.specs.laws.Refusing.{exp-refuses, exp_m1_refuses, ln-refuses}
use Rattle.promises.specs.RefusalNumbers.{Among}
use Rattle.promises.proofs.laws.Numbers.{arithmetic_refusals, AnswerAmong, one_of}

pub exp-number : (x : Float) (place : ℕ) → Holds (AnswerAmong arithmetic_refusals) (exp_at x place)
exp-number = exp-refuses (Among arithmetic_refusals) (one_of 26 refl) (one_of 27 refl)

pub exp_m1_number : (x : Float) (place : ℕ) → Holds (AnswerAmong arithmetic_refusals) (exp_m1_at x place)
exp_m1_number = exp_m1_refuses (Among arithmetic_refusals) (one_of 26 refl) (one_of 27 refl)

pub ln-number : (x : Float) (place : ℕ) → Holds (AnswerAmong arithmetic_refusals) (ln_at x place)
ln-number = ln-refuses (Among arithmetic_refusals) (one_of 26 refl) (one_of 27 refl)

pub sqrt-number : (x : Float) (place : ℕ) → Holds (AnswerAmong arithmetic_refusals) (sqrt_at x place)
sqrt-number = sqrt-refuses (Among arithmetic_refusals) (one_of 26 refl) (one_of 27 refl)
