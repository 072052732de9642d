-- Definitions only. What an answer is: a value, or a refusal with its number and place; and how one tested operation follows another.
use Rattle.std.specs.Prelude.{ℕ, Bool, not, cond, Float, Result, Ok, Err}
use Rattle.std.specs.Float.{binary64}
use Rattle.std.specs.Float.Ieee.{of_bits}
use Rattle.std.specs.Float.Ieee.Scale.{finite}
use Rattle.floats.specs.declared.Reason.{Reason}
use Rattle.floats.specs.Refusals.{Refusal}
use Rattle.floats.specs.declared.Reason.TheVariants as reason
use Rattle.floats.specs.Reasons.{reason_number}

-- ---- numbers by name

abbrev pub plus_zero : Float
plus_zero = of_bits binary64 0

abbrev pub one : Float
one = of_bits binary64 0x3ff0_0000_0000_0000

abbrev pub two : Float
two = of_bits binary64 0x4000_0000_0000_0000

-- ---- what an answer is

-- A part of the working state, or the refusal that was met first.
abbrev pub Outcome : Type 0 → Type 0
Outcome A = Result A Refusal

-- What a function on floats answers.
abbrev pub Answer : Type 0
Answer = Outcome Float

-- What an input check finds.
abbrev pub Check : Type 0
Check = Outcome (Unit {0})

-- ---- the number, place and value for each case of an answer

-- A value has refusal number 0.
abbrev pub number_of : Answer → ℕ
number_of (Ok x) = 0
number_of (Err r) = reason_number r.reason

-- A value has place 0.
abbrev pub place_of : Answer → ℕ
place_of (Ok x) = 0
place_of (Err r) = r.place

-- A refusal has no value; +0 stands there.
abbrev pub value_of : Answer → Float
value_of (Ok x) = x
value_of (Err r) = plus_zero

-- ---- answers one after the other

-- A refusal with its reason and place.
abbrev pub refusal : {A : Type 0} → Reason → ℕ → Outcome A
refusal why place = Err (record { reason = why; place = place })

-- What is done with a refusal, and with what is given.
unfoldable pub on_outcome {ℓ} : {A : Type 0} {B : Type ℓ} → Outcome A → (Refusal → B) → (A → B) → B
on_outcome (Ok x) f g = g x
on_outcome (Err r) f g = f r

-- A refusal met on the way is handed up unchanged.
abbrev pub follow : {A B : Type 0} → Outcome A → (A → Outcome B) → Outcome B
follow a k = on_outcome a Err k

-- What is left in the place of what a function was lent, or its refusal.
unfoldable pub outcome_of : {A : Type 0} → Check → A → Outcome A
outcome_of (Ok tt) x = Ok x
outcome_of (Err r) x = Err r

-- ---- tested operations

abbrev pub not_finite : Float → Bool
not_finite x = not (finite x)

-- 27: the result of an operation not finite.
abbrev pub when_finite : {A : Type 0} → Float → ℕ → (Float → Outcome A) → Outcome A
when_finite x place k = cond (not_finite x) (refusal reason.NotFinite place) (k x)

abbrev pub tested : Float → ℕ → Answer
tested x place = when_finite x place Ok

-- An elementary function called alone refuses an argument that isn't finite with 4, place 0.
abbrev pub when_given : Float → Answer → Answer
when_given x a = cond (not_finite x) (refusal reason.Number 0) a
