-- Definitions only. Rate definitions and their codes.
use Rattle.std.specs.Prelude.{ℕ, cond, List, [], ◌∷◌, eqb, Float, Ok, Err}
use Rattle.std.specs.Float.{binary64}
use Rattle.std.specs.Float.Ieee.{of_bits, mul, neg}
use Rattle.floats.specs.Answers.{Check, Outcome, follow, on_outcome, refusal}
use Rattle.terms.specs.Numbers.{float}
use Rattle.interestrate.specs.declared.Frequency.{Frequency}
use Rattle.interestrate.specs.declared.Frequency.TheVariants.{Annual, Semiannual, EveryFourthMonth, Quarterly, Bimonthly, Monthly, EveryFourthWeek, Biweekly, Weekly, Daily, OtherFrequency}
use Rattle.interestrate.specs.declared.Compounding.{Compounding}
use Rattle.interestrate.specs.declared.Compounding.TheVariants.{Simple, Compounded, Continuous, SimpleThenCompounded, CompoundedThenSimple}
use Rattle.interestrate.specs.declared.RateDefinition.{RateDefinition}
use Rattle.floats.specs.declared.Reason.TheVariants as reason

-- Frequency 1, 2, 3, 4, 6, 12, 13, 26, 52, 365, 999.
abbrev pub per_year : Frequency → ℕ
per_year Annual = 1
per_year Semiannual = 2
per_year EveryFourthMonth = 3
per_year Quarterly = 4
per_year Bimonthly = 6
per_year Monthly = 12
per_year EveryFourthWeek = 13
per_year Biweekly = 26
per_year Weekly = 52
per_year Daily = 365
per_year OtherFrequency = 999

abbrev pub frequencies : List Frequency
frequencies =
    Annual ∷ Semiannual ∷ EveryFourthMonth ∷ Quarterly ∷ Bimonthly ∷ Monthly ∷ EveryFourthWeek ∷ Biweekly ∷ Weekly ∷ Daily ∷ OtherFrequency ∷ []

-- The frequency with a code; 9 where there is none.
unfoldable pub with_code : ℕ → List Frequency → Outcome Frequency
with_code code [] = refusal reason.Rate 0
with_code code (f ∷ fs) = cond (eqb code (per_year f)) (Ok f) (with_code code fs)

abbrev pub frequency_of : ℕ → Outcome Frequency
frequency_of code = with_code code frequencies

abbrev pub rate_with : Compounding → Outcome RateDefinition
rate_with c = Ok (record { compounding = c })

-- Compounding 0 to 4: Simple, Compounded, Continuous, SimpleThenCompounded, CompoundedThenSimple. Simple and Continuous accept any frequency code and don't use it.
unfoldable pub rate_of : ℕ → ℕ → Outcome RateDefinition
unfolding with_code
rate_of compounding code =
    cond (eqb compounding 0) (rate_with Simple)
    (cond (eqb compounding 1) (follow (frequency_of code) λ f. rate_with (Compounded f))
    (cond (eqb compounding 2) (rate_with Continuous)
    (cond (eqb compounding 3) (follow (frequency_of code) λ f. rate_with (SimpleThenCompounded f))
    (cond (eqb compounding 4) (follow (frequency_of code) λ f. rate_with (CompoundedThenSimple f)) (refusal reason.Rate 0)))))

-- 9: compounding code unknown, or frequency unusable.
abbrev pub rate_check : ℕ → ℕ → Check
rate_check compounding code = on_outcome (rate_of compounding code) Err λ r. (Ok tt)

abbrev pub frequency_float : Frequency → Float
frequency_float f = float (per_year f)

-- The lowest yield that is tried: −0.999999 × frequency where it is used, else −10.
abbrev pub lowest_yield : Compounding → Float
lowest_yield Simple = neg (float 10)
lowest_yield (Compounded f) = mul binary64 (neg (of_bits binary64 0x3fef_fffd_e721_0be9)) (frequency_float f)
lowest_yield Continuous = neg (float 10)
lowest_yield (SimpleThenCompounded f) = mul binary64 (neg (of_bits binary64 0x3fef_fffd_e721_0be9)) (frequency_float f)
lowest_yield (CompoundedThenSimple f) = mul binary64 (neg (of_bits binary64 0x3fef_fffd_e721_0be9)) (frequency_float f)
