-- A value's columns, read back: its sign and its cents. Assumes nothing.
use Prim.Native.Nat.{ℕ, suc, ◌+◌, ◌-◌, ◌*◌, ◌/◌, ◌%◌, ◌≤◌, ◌<◌}
use Rattle.std.specs.Prelude.{◌≡◌, refl, ◌⊎◌, Bool, cond, ltb, length, take, replicate}
use Rattle.std.proofs.Common.{sym, subst, ◌∙◌, inl, inr, lt-ltb, le-ltb, length-append, take_at}
use Rattle.std.proofs.Math.Path.{ap}
use Rattle.std.proofs.Math.Bool.{true, false}
use mathlib.Core.List.{List, [], ◌∷◌, ◌++◌, append_assoc}
use native.Mathlib.Omega.{arith}
use Rattle.std.proofs.lemmas.List.{length-replicate}
use Rattle.rounded.specs.laws.RoundToOdd.{ordered}
use Rattle.decimal.specs.Writing.{in_units}
use Rattle.bondreport.specs.declared.Leftward.{Leftward}
use Rattle.bondreport.specs.Columns.{blank_line}
use Rattle.bondreport.specs.Numbers.{byte_left, digits_left, width_of, whole_left}
use Rattle.bondreport.specs.Figures.{before, point_left, minus_left, decimals_left}
use Rattle.closingsheet.specs.Shown.{Decimal, decimal, one_more, read_on, read_back, above, below}
use Rattle.closingsheet.specs.laws.Columns.{few-digits}
use Rattle.closingsheet.specs.laws.Digits.{numerals, numerals-length, left, byte_on, digits_on, whole_on, width-under, read-append, read_blanks, one_digit, read_whole}

-- ---- the columns

-- The decimals of a number in cents, behind its point.
abbrev pointed : ℕ → List ℕ → List ℕ
pointed part rest = 46 ∷ (48 + part / 10 % 10) ∷ (48 + part % 10) ∷ rest

-- What the digits leave blank.
abbrev spare : ℕ → ℕ
spare whole = 13 - width_of whole

-- The columns behind the sixteenth.
abbrev rest : List ℕ
rest = replicate 64 32

twelve : (whole : ℕ) → whole ≤ 999999999999 → width_of whole ≤ 12
unfolding width_of
twelve whole h = few-digits 11 19 1 whole (omega arith)

module _ (whole part : ℕ) (h : whole ≤ 999999999999) where
  abbrev digits : List ℕ
  digits = numerals (width_of whole) whole

  -- Whole part, point and decimals, with what is blank before and behind them.
  abbrev figures : Leftward
  figures = whole_left (point_left (digits_left 2 (before blank_line 16) part) 2) whole

  put : figures ≡ left (spare whole) (digits ++ pointed part rest)
  unfolding point_left numerals
  put =
      ap (λ (c : Leftward). whole_left (byte_left c 46) whole) (digits_on 2 14 part rest)
      ∙ ap (λ (c : Leftward). whole_left c whole) (byte_on 13 ((48 + part / 10 % 10) ∷ (48 + part % 10) ∷ rest) 46)
      ∙ ap (λ (n : ℕ). whole_left (left n (pointed part rest)) whole) thirteen
      ∙ whole_on (spare whole) whole (pointed part rest)
    where
      thirteen : 13 ≡ spare whole + width_of whole
      thirteen = omega (arith, twelve whole h)

  -- Sixteen columns of it: blanks, perhaps a sign, and the figures.
  columns : (k : ℕ) (sign : List ℕ) → k + (length sign + (width_of whole + 3)) ≡ 16 → take 16 (replicate k 32 ++ (sign ++ (digits ++ pointed part rest))) ≡ replicate k 32 ++ (sign ++ (digits ++ pointed part []))
  columns k sign e =
      ap (λ (z : List ℕ). take 16 (replicate k 32 ++ (sign ++ z))) (sym (append_assoc digits (pointed part []) rest))
      ∙ ap (λ (z : List ℕ). take 16 (replicate k 32 ++ z)) (sym (append_assoc sign text rest))
      ∙ ap (λ (z : List ℕ). take 16 z) (sym (append_assoc (replicate k 32) (sign ++ text) rest))
      ∙ take_at (replicate k 32 ++ (sign ++ text)) rest 16 sixteen
    where
      text : List ℕ
      text = digits ++ pointed part []

      sixteen : length (replicate k 32 ++ (sign ++ text)) ≡ 16
      sixteen =
          length-append (replicate k 32) (sign ++ text)
          ∙ ap (λ (z : ℕ). z + length (sign ++ text)) (length-replicate {A = ℕ} k 32)
          ∙ ap (λ (z : ℕ). k + z) (length-append sign text ∙ ap (λ (z : ℕ). length sign + z) (length-append digits (pointed part []) ∙ ap (λ (z : ℕ). z + 3) (numerals-length (width_of whole) whole)))
          ∙ e

  module _ (g : part < 100) where
    read-figures : (s : Bool) → read_on (decimal s 0 0 false) (digits ++ pointed part []) ≡ decimal s (whole * 100 + part) 2 true
    unfolding read_on
    read-figures s =
        read-append digits (pointed part []) (decimal s 0 0 false)
        ∙ ap (λ (d : Decimal). read_on d (pointed part [])) (read_whole (width_of whole) whole s (width-under whole (omega arith)))
        ∙ ap (λ (d : Decimal). one_more d (48 + part % 10)) (one_digit s true whole 0 (part / 10 % 10) (omega arith))
        ∙ one_digit s true (whole * 10 + part / 10 % 10) 1 (part % 10) (omega arith)
        ∙ ap (λ (n : ℕ). decimal s n 2 true) together
      where
        together : (whole * 10 + part / 10 % 10) * 10 + part % 10 ≡ whole * 100 + part
        together = omega arith

    unsigned : read_back (take 16 figures.line) ≡ decimal false (whole * 100 + part) 2 true
    unsigned =
        ap (λ (c : Leftward). read_back (take 16 c.line)) put
        ∙ ap (λ (z : List ℕ). read_back z) (columns (spare whole) [] (omega (arith, twelve whole h)))
        ∙ read_blanks (spare whole) (digits ++ pointed part []) (decimal false 0 0 false)
        ∙ read-figures false

    signed : read_back (take 16 (byte_left figures 45).line) ≡ decimal true (whole * 100 + part) 2 true
    unfolding read_on
    signed =
        ap (λ (c : Leftward). read_back (take 16 (byte_left c 45).line)) (put ∙ ap (λ (n : ℕ). left n (digits ++ pointed part rest)) one_spare)
        ∙ ap (λ (c : Leftward). read_back (take 16 c.line)) (byte_on (12 - width_of whole) (digits ++ pointed part rest) 45)
        ∙ ap (λ (z : List ℕ). read_back z) (columns (12 - width_of whole) (45 ∷ []) (omega (arith, twelve whole h)))
        ∙ read_blanks (12 - width_of whole) (45 ∷ (digits ++ pointed part [])) (decimal false 0 0 false)
        ∙ read-figures true
      where
        one_spare : spare whole ≡ suc (12 - width_of whole)
        one_spare = omega (arith, twelve whole h)

    -- By what the minus depends on.
    with_sign : (t u w : Bool)
        → read_back (take 16 (cond t (cond u (byte_left figures 45) (cond w (byte_left figures 45) figures)) figures).line) ≡ decimal (cond t (cond u true w) false) (whole * 100 + part) 2 true
    with_sign true true w = signed
    with_sign true false true = signed
    with_sign true false false = unsigned
    with_sign false u w = unsigned

-- ---- cents

-- A minus stands before cents below 0, and not before none.
abbrev pub minus_of : Bool → ℕ → Bool
minus_of s cents = cond s (cond (ltb 0 (cents / 100)) true (ltb 0 (cents % 100))) false

pub reads : (s : Bool) (cents : ℕ) → cents ≤ 99999999999999 → read_back (take 16 (decimals_left (before blank_line 16) 2 (in_units s 2 cents)).line) ≡ decimal (minus_of s cents) cents 2 true
unfolding minus_left
reads s cents h =
    with_sign (cents / 100) (cents % 100) (omega arith) (omega arith) s (ltb 0 (cents / 100)) (ltb 0 (cents % 100))
    ∙ ap (λ (n : ℕ). decimal (minus_of s cents) n 2 true) together
  where
    together : cents / 100 * 100 + cents % 100 ≡ cents
    together = omega arith

some-minus : (cents : ℕ) → 0 < cents → minus_of true cents ≡ true
some-minus cents h = go (ordered 1 (cents / 100))
  where
    go : (1 ≤ cents / 100) ⊎ (cents / 100 < 1) → minus_of true cents ≡ true
    go (inl l) = ap (λ (b : Bool). cond b true (ltb 0 (cents % 100))) (lt-ltb 0 (cents / 100) l)
    go (inr l) = ap (λ (b : Bool). cond b true (ltb 0 (cents % 100))) (le-ltb 0 (cents / 100) (omega arith)) ∙ lt-ltb 0 (cents % 100) (omega arith)

-- What stands above 0 and below it, by the sign of the value.
pub record Sides (s : Bool) (cents : ℕ) (d : Decimal) : Type 0 where
  pub places : d.places ≡ 2
  pub over : above d ≡ cond s 0 cents
  pub under : below d ≡ cond s cents 0

pub sides : (s : Bool) (cents : ℕ) → Sides s cents (decimal (minus_of s cents) cents 2 true)
sides false cents = record { places = refl; over = refl; under = refl }
sides true cents = go (ordered cents 0)
  where
    go : (cents ≤ 0) ⊎ (0 < cents) → Sides true cents (decimal (minus_of true cents) cents 2 true)
    go (inl h) = let e : 0 ≡ cents = omega arith in subst (λ (c : ℕ). Sides true c (decimal (minus_of true c) c 2 true)) e (record { places = refl; over = refl; under = refl })
    go (inr h) = subst (λ (b : Bool). Sides true cents (decimal b cents 2 true)) (sym (some-minus cents h)) (record { places = refl; over = refl; under = refl })
