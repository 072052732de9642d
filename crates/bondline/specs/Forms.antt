-- Definitions only. The forms of a line: its name, and the values that follow.
use Rattle.std.specs.Prelude.{ℕ, cond, Option, Result, Ok, ok_or, option_map, List, [], ◌∷◌, get_or, Float}
use Rattle.bondline.specs.declared.Cause.TheVariants.{UnknownWord}
use Rattle.bondline.specs.declared.Fault.{Fault}
use Rattle.bondline.specs.declared.Kind.{Kind}
use Rattle.bondline.specs.declared.Kind.TheVariants as kind
use Rattle.bondline.specs.declared.Entry.{Entry}
use Rattle.bondline.specs.declared.Entry.TheVariants.{Blank, Settlement, Units, Steps, Alpha, Spread, Cashflow, Call, Sigma, Pillar, Yield, Quote}
use Rattle.bondline.specs.Results.{◌>>=◌}
use Rattle.bondline.specs.Bytes.{bytes}
use Rattle.bondline.specs.Words.{has_word, word_at, column_of, place_in}
use Rattle.bondline.specs.Values.{fault, count_at, day_at, number_at, kind_at, compounding_at, frequency_at, shape_of}

-- What a line says, or what is wrong in it.
abbrev pub Said : Type 0
Said = Result Entry Fault

-- settlement DAY
unfoldable pub settlement_form : List ℕ → Said
settlement_form line = do
  _ ← shape_of line 1
  day ← day_at line 1
  Ok (Settlement day)

-- One number behind the name.
unfoldable pub number_form : List ℕ → Result Float Fault
number_form line = do
  _ ← shape_of line 1
  number_at line 1

-- units NUMBER
unfoldable pub units_form : List ℕ → Said
units_form line = do
  x ← number_form line
  Ok (Units x)

-- steps COUNT COUNT
unfoldable pub steps_form : List ℕ → Said
steps_form line = do
  _ ← shape_of line 2
  per_year ← count_at line 1
  maximum ← count_at line 2
  Ok (Steps per_year maximum)

-- alpha NUMBER
unfoldable pub alpha_form : List ℕ → Said
alpha_form line = do
  x ← number_form line
  Ok (Alpha x)

-- spread NUMBER
unfoldable pub spread_form : List ℕ → Said
spread_form line = do
  x ← number_form line
  Ok (Spread x)

-- cashflow DAY coupon|redemption NUMBER
unfoldable pub cashflow_form : List ℕ → Said
cashflow_form line = do
  _ ← shape_of line 3
  day ← day_at line 1
  paid ← kind_at line 2
  amount ← number_at line 3
  Ok (Cashflow day paid amount)

-- call DAY DAY NUMBER
unfoldable pub call_form : List ℕ → Said
call_form line = do
  _ ← shape_of line 3
  start ← day_at line 1
  end ← day_at line 2
  strike ← number_at line 3
  Ok (Call start end strike)

-- sigma NUMBER NUMBER
unfoldable pub sigma_form : List ℕ → Said
sigma_form line = do
  _ ← shape_of line 2
  time ← number_at line 1
  sigma ← number_at line 2
  Ok (Sigma time sigma)

-- pillar DAY NUMBER
unfoldable pub pillar_form : List ℕ → Said
pillar_form line = do
  _ ← shape_of line 2
  day ← day_at line 1
  factor ← number_at line 2
  Ok (Pillar day factor)

-- yield NUMBER COMPOUNDING FREQUENCY
unfoldable pub yield_form : List ℕ → Said
yield_form line = do
  _ ← shape_of line 3
  price ← number_at line 1
  compounding ← compounding_at line 2
  frequency ← frequency_at line 3
  Ok (Yield price compounding frequency)

-- quote NUMBER
unfoldable pub quote_form : List ℕ → Said
quote_form line = do
  x ← number_form line
  Ok (Quote x)

-- A line of a kind: as many values as it takes, and then what they are.
unfoldable pub form_of : Kind → List ℕ → Said
form_of kind.Blank line = Ok Blank
form_of kind.Settlement line = settlement_form line
form_of kind.Units line = units_form line
form_of kind.Steps line = steps_form line
form_of kind.Alpha line = alpha_form line
form_of kind.Spread line = spread_form line
form_of kind.Cashflow line = cashflow_form line
form_of kind.Call line = call_form line
form_of kind.Sigma line = sigma_form line
form_of kind.Pillar line = pillar_form line
form_of kind.Yield line = yield_form line
form_of kind.Quote line = quote_form line

-- The names and their kinds. The last is the bond's own name: its line says nothing of the terms.
abbrev pub names : List ℕ
names = bytes "settlement units steps alpha spread cashflow call sigma pillar yield quote name"

abbrev pub kinds : List Kind
kinds = kind.Settlement ∷ kind.Units ∷ kind.Steps ∷ kind.Alpha ∷ kind.Spread ∷ kind.Cashflow ∷ kind.Call ∷ kind.Sigma ∷ kind.Pillar ∷ kind.Yield ∷ kind.Quote ∷ kind.Blank ∷ []

unfoldable pub kind_named : List ℕ → Option Kind
kind_named name = option_map (λ k. get_or kinds k kind.Blank) (place_in name names 12)

-- A line without words says nothing.
unfoldable pub body_entry : List ℕ → Said
body_entry line =
    cond (has_word line 0) (ok_or (kind_named (word_at line 0)) (fault (column_of line 0) UnknownWord) >>= λ k. form_of k line) (Ok Blank)
