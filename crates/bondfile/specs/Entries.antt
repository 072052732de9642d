-- Definitions only. The kinds of entries, and the numbers that an entry holds.
use Rattle.std.specs.Prelude.{ℕ, Ok, Err, Float}
use Rattle.floats.specs.Answers.{plus_zero}
use Rattle.bondline.specs.declared.Kind.{Kind}
use Rattle.bondline.specs.declared.Kind.TheVariants as kind
use Rattle.bondline.specs.declared.Entry.TheVariants.{Blank, Settlement, Units, Steps, Alpha, Spread, Cashflow, Call, Sigma, Pillar, Yield, Quote}
use Rattle.bondline.specs.Forms.{Said}

-- The kinds are numbered. 0 is a line that says nothing of the terms.
abbrev pub number_of : Kind → ℕ
number_of kind.Blank = 0
number_of kind.Settlement = 1
number_of kind.Units = 2
number_of kind.Steps = 3
number_of kind.Alpha = 4
number_of kind.Spread = 5
number_of kind.Cashflow = 6
number_of kind.Call = 7
number_of kind.Sigma = 8
number_of kind.Pillar = 9
number_of kind.Yield = 10
number_of kind.Quote = 11

-- 12 is a line that is refused.
abbrev pub kind_of : Said → ℕ
kind_of (Ok Blank) = 0
kind_of (Ok (Settlement d)) = 1
kind_of (Ok (Units x)) = 2
kind_of (Ok (Steps a b)) = 3
kind_of (Ok (Alpha x)) = 4
kind_of (Ok (Spread x)) = 5
kind_of (Ok (Cashflow d k x)) = 6
kind_of (Ok (Call a b x)) = 7
kind_of (Ok (Sigma x y)) = 8
kind_of (Ok (Pillar d x)) = 9
kind_of (Ok (Yield x a b)) = 10
kind_of (Ok (Quote x)) = 11
kind_of (Err q) = 12

-- The first and the second whole number of an entry, 0 where it has none: days, counts, codes.
abbrev pub first_whole : Said → ℕ
first_whole (Ok (Settlement d)) = d
first_whole (Ok (Steps a b)) = a
first_whole (Ok (Cashflow d k x)) = d
first_whole (Ok (Call a b x)) = a
first_whole (Ok (Pillar d x)) = d
first_whole (Ok (Yield x a b)) = a
first_whole _ = 0

abbrev pub second_whole : Said → ℕ
second_whole (Ok (Steps a b)) = b
second_whole (Ok (Call a b x)) = b
second_whole (Ok (Yield x a b)) = b
second_whole _ = 0

-- A cashflow's kind: 0 coupon, 1 redemption.
abbrev pub flow_kind : Said → ℕ
flow_kind (Ok (Cashflow d k x)) = k
flow_kind _ = 0

-- The first and the second number of an entry, +0 where it has none.
abbrev pub first_number : Said → Float
first_number (Ok (Units x)) = x
first_number (Ok (Alpha x)) = x
first_number (Ok (Spread x)) = x
first_number (Ok (Cashflow d k x)) = x
first_number (Ok (Call a b x)) = x
first_number (Ok (Sigma x y)) = x
first_number (Ok (Pillar d x)) = x
first_number (Ok (Yield x a b)) = x
first_number (Ok (Quote x)) = x
first_number _ = plus_zero

abbrev pub second_number : Said → Float
second_number (Ok (Sigma x y)) = y
second_number _ = plus_zero
