-- Definitions only. Whose entry a refused input is about. Inside a number single fields come first, then cashflows, calls, sigma, pillars; the lists before the one at fault have nothing wrong at all, so nothing at the place either.
use Rattle.std.specs.Prelude.{ℕ, Bool, false, cond, ◌||◌, List, length, get_or, eqb, ltb, leb, Float}
use Rattle.floats.specs.Answers.{plus_zero}
use Rattle.terms.specs.Numbers.{float, amount_limit, million}
use Rattle.terms.specs.Checks.{no_day, falls, beyond, not_above, not_up_to}
use Rattle.places.specs.declared.Whose.{Whose}
use Rattle.places.specs.declared.Whose.TheVariants.{Nobody, Steps, Settlement, Units, Alpha, Spread, Cashflow, Call, Sigma, Pillar}

-- A place past a list's end has nothing wrong.
abbrev pub inside : {A : Type 0} → List A → ℕ → Bool → Bool
inside xs place wrong = cond (leb (length xs) place) false wrong

-- ---- 3: days

-- A cashflow's day is none, its kind is neither 0 nor 1, or its day is before the one before it.
unfoldable pub cashflow_day_wrong : ℕ → List ℕ → List ℕ → Bool
cashflow_day_wrong place days kinds =
    inside days place
    (inside kinds place
    (no_day (get_or days place 0) || (ltb 1 (get_or kinds place 0) || falls days place)))

-- A call's start or end is no day.
unfoldable pub call_day_wrong : ℕ → List ℕ → List ℕ → Bool
call_day_wrong place starts ends =
    inside starts place (inside ends place (no_day (get_or starts place 0) || no_day (get_or ends place 0)))

unfoldable pub whose_day : ℕ → ℕ → List ℕ → List ℕ → List ℕ → List ℕ → Whose
whose_day place settlement days kinds starts ends =
    cond (no_day settlement) Settlement
    (cond (cashflow_day_wrong place days kinds) Cashflow
    (cond (call_day_wrong place starts ends) Call Pillar))

-- ---- 4: numbers

-- An amount is within ±1e12.
unfoldable pub amount_wrong : ℕ → List Float → Bool
amount_wrong place amounts = inside amounts place (beyond amount_limit (get_or amounts place plus_zero))

-- A strike is above 0 and up to 1,000,000.
unfoldable pub strike_wrong : ℕ → List Float → Bool
strike_wrong place strikes = inside strikes place (not_above million (get_or strikes place plus_zero))

unfoldable pub up_to_wrong : ℕ → Float → List Float → Bool
up_to_wrong place limit xs = inside xs place (not_up_to limit (get_or xs place plus_zero))

-- A sigma's time is 0 to 600, the sigma 0 to 10.
unfoldable pub sigma_wrong : ℕ → List Float → List Float → Bool
sigma_wrong place times sigmas = up_to_wrong place (float 600) times || up_to_wrong place (float 10) sigmas

-- Units above 0 and up to 1e12, alpha within ±10, spread within ±1.
unfoldable pub whose_field : Float → Float → Float → Whose
whose_field units alpha spread =
    cond (not_above amount_limit units) Units
    (cond (beyond (float 10) alpha) Alpha
    (cond (beyond (float 1) spread) Spread Nobody))

-- Amounts, strikes, sigma, and else the factors.
unfoldable pub whose_number : ℕ → List Float → List Float → List Float → List Float → Whose
whose_number place amounts strikes times sigmas =
    cond (amount_wrong place amounts) Cashflow
    (cond (strike_wrong place strikes) Call
    (cond (sigma_wrong place times sigmas) Sigma Pillar))

-- ---- the other numbers

-- 1 is about the steps, 5 a call, 6 a sigma entry, 7, 33 and 35 settlement, 8, 34 and 44 a pillar.
unfoldable pub whose_order : ℕ → Whose
whose_order number =
    cond (eqb number 1) Steps
    (cond (eqb number 5) Call
    (cond (eqb number 6) Sigma
    (cond (eqb number 7) Settlement
    (cond (eqb number 8) Pillar
    (cond (eqb number 33) Settlement
    (cond (eqb number 34) Pillar
    (cond (eqb number 35) Settlement
    (cond (eqb number 44) Pillar Nobody))))))))
