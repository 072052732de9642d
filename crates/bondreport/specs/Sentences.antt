-- Definitions only. What to do about a refusal, in a sentence of at most 63 letters.
use Rattle.std.specs.Prelude.{ℕ, cond, List, [], ◌∷◌, eqb}
use Rattle.decimal.specs.Examples.{bytes}

-- A refusal's number and its sentence.
pub record Advice : Type 0 where
  pub number : ℕ
  pub sentence : List ℕ

abbrev about : ℕ → List ℕ → Advice
about number sentence = record { number = number; sentence = sentence }

abbrev pub advice : List Advice
advice =
    about 1 (bytes "Correct the setting: 1 to 366 steps a year, at most 512 in all.")
    ∷ about 2 (bytes "Count the entries of each list: too few, too many, or unequal.")
    ∷ about 3 (bytes "Look at this entry: its day, its kind, or the order of days.")
    ∷ about 4 (bytes "A number is outside its range: look at where it came from.")
    ∷ about 5 (bytes "This call ends before it starts: look at its two days.")
    ∷ about 6 (bytes "Sigma times must rise: look at this sigma entry.")
    ∷ about 7 (bytes "No cashflow comes after settlement: check the settlement day.")
    ∷ about 8 (bytes "The curve must start at settlement, rise, and reach maturity.")
    ∷ about 9 (bytes "Correct the compounding or the frequency: it can't be used.")
    ∷ about 20 (bytes "A call on or after the last redemption has nothing to call.")
    ∷ about 21 (bytes "The tree finds no room: ask for fewer steps.")
    ∷ about 22 (bytes "Some steps have no variance and others do: look at sigmas of 0.")
    ∷ about 23 (bytes "The volatilities of neighbouring steps are too far apart.")
    ∷ about 24 (bytes "A probability is below 0: this is never given, so report it.")
    ∷ about 25 (bytes "A discount factor is at or below 0: look at the curve.")
    ∷ about 26 (bytes "The inputs are far from any market's: look at rates and spread.")
    ∷ about 27 (bytes "A result is too large: the inputs are far from any market's.")
    ∷ about 28 (bytes "A discount has no meaning here: look at the yield or the price.")
    ∷ about 29 (bytes "No yield or spread gives this price: look at the price.")
    ∷ about 30 (bytes "The search did not settle: the price is far from any market's.")
    ∷ about 31 (bytes "Give the bond a number from 1 to 999,999.")
    ∷ about 32 (bytes "This value or node count is too wide for the closing sheet.")
    ∷ about 33 (bytes "Correct the day-count code: it is 0, 1 or 2.")
    ∷ about 34 (bytes "Two pillars stand at one time: leave one of them out.")
    ∷ about 35 (bytes "The last cashflow is at time 0: check the settlement day.")
    ∷ about 36 (bytes "The price is far below what the bond is worth: look at it.")
    ∷ about 37 (bytes "Too many puts: at most 64 are taken.")
    ∷ about 38 (bytes "A put is above the call at this step: look at their strikes.")
    ∷ about 39 (bytes "A book has 1 to 32 bonds.")
    ∷ about 40 (bytes "Give the bond a desk from 0 to 7.")
    ∷ about 41 (bytes "Too many notices: at most 256 are taken in one go.")
    ∷ about 42 (bytes "Look at this notice: its series, its version or its action.")
    ∷ about 43 (bytes "This notice repeats the series and version of an earlier one.")
    ∷ about 44 (bytes "A discount factor must be above 0: look at this pillar.")
    ∷ about 45 (bytes "A table has 1 to 16 spreads and 1 to 16 shifts.")
    ∷ about 46 (bytes "The shift takes a sigma out of its range: look at the shift.")
    ∷ []

abbrev pub unknown : List ℕ
unknown = bytes "This number is not known: look it up in the README."

unfoldable pub looked_up : List Advice → ℕ → List ℕ
looked_up [] number = unknown
looked_up (a ∷ rest) number = cond (eqb number a.number) a.sentence (looked_up rest number)

-- The sentence that stands beside the number.
unfoldable pub sentence_for : ℕ → List ℕ
unfolding looked_up
sentence_for number = looked_up advice number
