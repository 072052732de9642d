-- Sizes computed by the checker. Each was worked out by the second reading in compare/ too.
use Rattle.std.specs.Prelude.{ℕ, ◌≡◌, refl, List, [], ◌∷◌, replicate, Float, Ok}
use Rattle.std.specs.Float.{binary64}
use Rattle.std.specs.Float.Ieee.{of_bits}
use Rattle.std.specs.Float.Ieee as ieee
use Rattle.floats.specs.declared.Reason.{Reason}
use Rattle.floats.specs.declared.Reason.TheVariants as reason
use Rattle.floats.specs.Answers.{on_outcome, Outcome, refusal}
use Rattle.floats.specs.Whole.{rounded}
use Rattle.rounded.specs.Root.{sqrt_at}
use Rattle.elementary.specs.Exponential.{exp_at, exp_m1_at}
use Rattle.elementary.specs.Logarithm.{ln_at}
use Rattle.terms.specs.Numbers.{float}
use Rattle.terms.specs.Terms.{CallSchedule, Market, no_entries, with_puts}
use Rattle.terms.specs.Checks.{lowest, on_check}
use Rattle.terms.specs.Times.{time_from}
use Rattle.sizing.specs.declared.Lengths.{Lengths}
use Rattle.sizing.specs.Sizing.{sizes_of}

-- Two years at 5, with so many steps a year, two sigmas and three factors.
abbrev bond : ℕ → List Float → List Float → Market
bond yearly sigmas factors =
    record {
      settlement = record { day = 100; code = 0 };
      bond = record { leg = record { days = 465 ∷ 830 ∷ 830 ∷ []; kinds = 0 ∷ 0 ∷ 1 ∷ []; amounts = float 5 ∷ float 5 ∷ float 100 ∷ [] }; units = float 100; puts = no_entries };
      controls = record { per_year = yearly; maximum = 512 };
      model = record { alpha = of_bits binary64 0x3fb999999999999a; sigma = record { times = float 0 ∷ float 1 ∷ []; sigmas = sigmas } };
      spread = of_bits binary64 0x3f747ae147ae147b;
      pillars = record { days = 100 ∷ 465 ∷ 900 ∷ []; factors = factors };
    }

abbrev call_at : ℕ → Float → CallSchedule
call_at day strike = record { starts = day ∷ []; ends = day ∷ []; strikes = strike ∷ [] }

abbrev slow : List Float
slow = of_bits binary64 0x3f847ae147ae147b ∷ of_bits binary64 0x3f889374bc6a7efa ∷ []

abbrev falling : List Float
falling = of_bits binary64 0x3f9eb851eb851eb8 ∷ of_bits binary64 0x3f50624dd2f1a9fc ∷ []

abbrev none : List Float
none = float 0 ∷ float 0 ∷ []

abbrev curve : List Float
curve = float 1 ∷ of_bits binary64 0x3fef0a3d70a3d70a ∷ of_bits binary64 0x3fedc28f5c28f5c3 ∷ []

abbrev sized : ℕ → ℕ → ℕ → ℕ → Outcome Lengths
sized nodes probabilities row count = Ok (record { nodes = nodes; probabilities = probabilities; row = row; count = count })

abbrev refused : Reason → ℕ → Outcome Lengths
refused = refusal

-- Layers of 1, 3, 5, 7 and 9 nodes: the last two are 16 together.
just_enough : sizes_of (bond 2 slow curve) (call_at 465 (float 101)) 16 ≡ sized 50 75 9 25
unfolding sizes_of time_from exp_at exp_m1_at ln_at sqrt_at on_outcome on_check lowest rounded ieee.of_bits ieee.add ieee.sub ieee.mul ieee.div ieee.neg ieee.lt ieee.le ieee.of_int ieee.to_signed
just_enough = refl

one_short : sizes_of (bond 2 slow curve) (call_at 465 (float 101)) 15 ≡ refused reason.NoRoom 4
unfolding sizes_of time_from exp_at exp_m1_at ln_at sqrt_at on_outcome on_check lowest rounded ieee.of_bits ieee.add ieee.sub ieee.mul ieee.div ieee.neg ieee.lt ieee.le ieee.of_int ieee.to_signed
one_short = refl

-- The root and the three nodes behind it are four.
second_layer : sizes_of (bond 2 slow curve) (call_at 465 (float 101)) 3 ≡ refused reason.NoRoom 1
unfolding sizes_of time_from exp_at exp_m1_at ln_at sqrt_at on_outcome on_check lowest rounded ieee.of_bits ieee.add ieee.sub ieee.mul ieee.div ieee.neg ieee.lt ieee.le ieee.of_int ieee.to_signed
second_layer = refl

no_place : sizes_of (bond 2 slow curve) (call_at 465 (float 101)) 0 ≡ refused reason.NoRoom 0
unfolding sizes_of time_from exp_at exp_m1_at ln_at sqrt_at on_outcome on_check lowest rounded ieee.of_bits ieee.add ieee.sub ieee.mul ieee.div ieee.neg ieee.lt ieee.le ieee.of_int ieee.to_signed
no_place = refl

-- A sigma that falls leaves gaps: layers of 1, 3 and 9 nodes.
gaps : sizes_of (bond 1 falling curve) (call_at 465 (float 101)) 12 ≡ sized 26 39 9 13
unfolding sizes_of time_from exp_at exp_m1_at ln_at sqrt_at on_outcome on_check lowest rounded ieee.of_bits ieee.add ieee.sub ieee.mul ieee.div ieee.neg ieee.lt ieee.le ieee.of_int ieee.to_signed
gaps = refl

-- Flat: one node for each of five layers, two of them at a time.
flat : sizes_of (bond 2 none curve) (call_at 465 (float 101)) 2 ≡ sized 10 15 1 5
unfolding sizes_of time_from exp_at exp_m1_at ln_at sqrt_at on_outcome on_check lowest rounded ieee.of_bits ieee.add ieee.sub ieee.mul ieee.div ieee.neg ieee.lt ieee.le ieee.of_int ieee.to_signed
flat = refl

flat-short : sizes_of (bond 2 none curve) (call_at 465 (float 101)) 1 ≡ refused reason.NoRoom 1
unfolding sizes_of time_from exp_at exp_m1_at ln_at sqrt_at on_outcome on_check lowest rounded ieee.of_bits ieee.add ieee.sub ieee.mul ieee.div ieee.neg ieee.lt ieee.le ieee.of_int ieee.to_signed
flat-short = refl

-- A call at maturity, 20 of the value, is sized.
never_20 : sizes_of (bond 2 slow curve) (call_at 830 (float 100)) 16 ≡ sized 50 75 9 25
unfolding sizes_of time_from exp_at exp_m1_at ln_at sqrt_at on_outcome on_check lowest rounded ieee.of_bits ieee.add ieee.sub ieee.mul ieee.div ieee.neg ieee.lt ieee.le ieee.of_int ieee.to_signed
never_20 = refl

-- So is a curve that comes to 0, 25 of the value.
never_25 : sizes_of (bond 2 slow (float 1 ∷ of_bits binary64 0x9c16c5c5253575 ∷ float 1 ∷ [])) (call_at 465 (float 101)) 16 ≡ sized 50 75 9 25
unfolding sizes_of time_from exp_at exp_m1_at ln_at sqrt_at on_outcome on_check lowest rounded ieee.of_bits ieee.add ieee.sub ieee.mul ieee.div ieee.neg ieee.lt ieee.le ieee.of_int ieee.to_signed
never_25 = refl

-- So is a put above the call, 38 of the value.
never_38 : sizes_of (with_puts (bond 2 slow curve) (call_at 465 (float 102))) (call_at 465 (float 101)) 16 ≡ sized 50 75 9 25
unfolding sizes_of time_from exp_at exp_m1_at ln_at sqrt_at on_outcome on_check lowest rounded ieee.of_bits ieee.add ieee.sub ieee.mul ieee.div ieee.neg ieee.lt ieee.le ieee.of_int ieee.to_signed
never_38 = refl

-- All input checks are made.
no_steps : sizes_of (bond 0 slow curve) (call_at 465 (float 101)) 16 ≡ refused reason.Setting 0
unfolding sizes_of time_from exp_at exp_m1_at ln_at sqrt_at on_outcome on_check lowest rounded ieee.of_bits ieee.add ieee.sub ieee.mul ieee.div ieee.neg ieee.lt ieee.le ieee.of_int ieee.to_signed
no_steps = refl

high-strike : sizes_of (bond 2 slow curve) (call_at 465 (float 1000001)) 16 ≡ refused reason.Number 0
unfolding sizes_of time_from exp_at exp_m1_at ln_at sqrt_at on_outcome on_check lowest rounded ieee.of_bits ieee.add ieee.sub ieee.mul ieee.div ieee.neg ieee.lt ieee.le ieee.of_int ieee.to_signed
high-strike = refl

many-puts : sizes_of (with_puts (bond 2 slow curve) (record { starts = replicate 65 465; ends = replicate 65 465; strikes = replicate 65 (float 99) })) (call_at 465 (float 101)) 16 ≡ refused reason.PutCount 0
unfolding sizes_of time_from exp_at exp_m1_at ln_at sqrt_at on_outcome on_check lowest rounded ieee.of_bits ieee.add ieee.sub ieee.mul ieee.div ieee.neg ieee.lt ieee.le ieee.of_int ieee.to_signed
many-puts = refl

no_factor : sizes_of (bond 2 slow (float 1 ∷ float 0 ∷ float 1 ∷ [])) (call_at 465 (float 101)) 16 ≡ refused reason.FactorNotPositive 1
unfolding sizes_of time_from exp_at exp_m1_at ln_at sqrt_at on_outcome on_check lowest rounded ieee.of_bits ieee.add ieee.sub ieee.mul ieee.div ieee.neg ieee.lt ieee.le ieee.of_int ieee.to_signed
no_factor = refl

no_variance : sizes_of (bond 1 (float 1 ∷ float 0 ∷ []) curve) (call_at 465 (float 101)) 16 ≡ refused reason.NoVariance 1
unfolding sizes_of time_from exp_at exp_m1_at ln_at sqrt_at on_outcome on_check lowest rounded ieee.of_bits ieee.add ieee.sub ieee.mul ieee.div ieee.neg ieee.lt ieee.le ieee.of_int ieee.to_signed
no_variance = refl

too_far : sizes_of (bond 1 (float 10 ∷ of_bits binary64 0x3ed4f8b588e368f1 ∷ []) curve) (call_at 465 (float 101)) 16 ≡ refused reason.NodeTooFar 1
unfolding sizes_of time_from exp_at exp_m1_at ln_at sqrt_at on_outcome on_check lowest rounded ieee.of_bits ieee.add ieee.sub ieee.mul ieee.div ieee.neg ieee.lt ieee.le ieee.of_int ieee.to_signed
too_far = refl

-- One step of 35.3 years, alpha −10, sigma 10: the variance is so large that only the divisors overflow, which sizing doesn't need. The value is 27.
abbrev steep : Market
steep =
    record {
      settlement = record { day = 0; code = 0 };
      bond = record { leg = record { days = 12892 ∷ []; kinds = 1 ∷ []; amounts = float 100 ∷ [] }; units = float 100; puts = no_entries };
      controls = record { per_year = 1; maximum = 1 };
      model = record { alpha = ieee.neg (float 10); sigma = record { times = float 0 ∷ of_bits binary64 0x4031a907b70eba90 ∷ []; sigmas = float 10 ∷ float 10 ∷ [] } };
      spread = float 0;
      pillars = record { days = 0 ∷ 12892 ∷ []; factors = float 1 ∷ float 1 ∷ [] };
    }

no_divisors : sizes_of steep (record { starts = []; ends = []; strikes = [] }) 4 ≡ sized 8 12 3 4
unfolding sizes_of time_from exp_at exp_m1_at ln_at sqrt_at on_outcome on_check lowest rounded ieee.of_bits ieee.add ieee.sub ieee.mul ieee.div ieee.neg ieee.lt ieee.le ieee.of_int ieee.to_signed
no_divisors = refl
