-- What is printed of a value lies within half a cent of it, and in the order of the values. Assumes nothing.
use Rattle.std.specs.Prelude.{ℕ, ◌+◌, ◌-◌, ◌*◌, ◌/◌, ◌%◌, ◌≤◌, ◌<◌, ◌≡◌, refl, ◌⊎◌, Bool, true, false, cond, T, ℤ, Float}
use Rattle.std.proofs.Common.{sym, ap, subst, ◌∙◌, inl, inr, le_trans, le_of_eq, mul_assoc, add-mul, mul-le-mul_left, le_of_mul-le-mul_right, eq-or-lt_of_le, div-add-mod', mod-lt, arith, lt-ltb, le-ltb}
use Rattle.std.specs.Float.{nan, inf, fin}
use Rattle.std.specs.Float.Ieee.{up, down, le}
use Rattle.std.specs.Float.Ieee.Fits.{down_pos}
use Rattle.std.specs.Float.Ieee.Nearest.{closest, closest_mono}
use Rattle.floats.specs.laws.Fractions.{Leq, leq_of_le}
use Rattle.rounded.specs.laws.RoundToOdd.{ordered, closest_down, closest_up, closest-tie}
use Rattle.std.specs.Prelude.{Option, Some, None}
use Rattle.decimal.specs.declared.Rounded.{Rounded}
use Rattle.decimal.specs.Writing.{in_units}
use Rattle.closingsheet.specs.Cells.{printed_of, cell_of, value_cell}
use Rattle.closingsheet.specs.HalfAway.{in_cents}
use Rattle.closingsheet.specs.Shown.{Decimal, read_back, HalfCent, NoLower}
use Rattle.closingsheet.specs.laws.Cents.{cents_are}
use Rattle.closingsheet.specs.laws.ReadBack.{Sides, sides, reads}

-- ---- whatever rounds a / c to a nearest whole number

-- No more than half a unit away, either way, and in the order of the fractions.
pub record Nearest (round : ℕ → ℕ → ℕ) : Type 0 where
  pub not_above_lem : (a c : ℕ) → 0 < c → 2 * (round a c * c) ≤ 2 * a + c
  pub not_below_lem : (a c : ℕ) → 0 < c → 2 * a ≤ 2 * (round a c * c) + c
  pub mono : (a b c d : ℕ) → 0 < b → 0 < d → a * d ≤ c * b → round a b ≤ round c d

module _ (round : ℕ → ℕ → ℕ) (nearest : Nearest round) where
  -- The cents of a finite value.
  abbrev cents : ℕ → ℤ → ℕ
  cents m e = round (100 * (m * up e)) (down e)

  -- A decimal that has these cents.
  pub half_cent : (s : Bool) (m : ℕ) (e : ℤ) (d : Decimal) → Sides s (cents m e) d → HalfCent (fin s m e) d
  half_cent false m e d p =
      let over = nearest.not_above_lem (100 * (m * up e)) (down e) (down_pos e) in
      let under = nearest.not_below_lem (100 * (m * up e)) (down e) (down_pos e) in
      record {
        finite = tt;
        places = p.places;
        not_above_lem = rw (p.over, p.under) (omega arith);
        not_below_lem = rw (p.over, p.under) (omega arith);
      }
  half_cent true m e d p =
      let over = nearest.not_above_lem (100 * (m * up e)) (down e) (down_pos e) in
      let under = nearest.not_below_lem (100 * (m * up e)) (down e) (down_pos e) in
      record {
        finite = tt;
        places = p.places;
        not_above_lem = rw (p.over, p.under) (omega arith);
        not_below_lem = rw (p.over, p.under) (omega arith);
      }

  -- Of two values the second no lower: so are their cents.
  pub in_order : (s : Bool) (m : ℕ) (e : ℤ) (t : Bool) (n : ℕ) (f : ℤ) (d g : Decimal) → Sides s (cents m e) d → Sides t (cents n f) g → T (le (fin s m e) (fin t n f)) → NoLower d g
  in_order s m e t n f d g p q h =
      record { first_places = p.places; second-places = q.places; no_lower = rw (p.over, p.under, q.over, q.under) (go s t (leq_of_le (fin s m e) (fin t n f) tt tt h)) }
    where
      -- Sizes in an order are rounded in it.
      grows : (k l : ℕ) (i j : ℤ) → k * up i * down j ≤ l * up j * down i → cents k i ≤ cents l j
      grows k l i j l≤ =
          nearest.mono (100 * (k * up i)) (down i) (100 * (l * up j)) (down j) (down_pos i) (down_pos j)
          (le_trans (le_of_eq (mul_assoc 100 (k * up i) (down j))) (le_trans (mul-le-mul_left 100 l≤) (le_of_eq (sym (mul_assoc 100 (l * up j) (down i))))))

      -- Nothing is rounded to nothing.
      none : (k : ℕ) (i j : ℤ) → k * up i * down j ≤ 0 → cents k i ≤ 0
      none k i j z =
          le_trans
          (nearest.mono (100 * (k * up i)) (down i) 0 1 (down_pos i) (omega arith) (omega (arith, le_of_mul-le-mul_right {m = k * up i} {n = 0} {k = down j} (omega arith) (down_pos j))))
          (omega (arith, nearest.not_above_lem 0 1 (omega arith)))

      go : (s t : Bool) → Leq (fin s m e) (fin t n f) → cond s 0 (cents m e) + cond t (cents n f) 0 ≤ cond t 0 (cents n f) + cond s (cents m e) 0
      go false false l = omega (arith, grows m n e f (omega (arith, l.holds)))
      go true true l = omega (arith, grows n m f e (omega (arith, l.holds)))
      go true false l = omega arith
      go false true l = omega (arith, none m e f (omega (arith, l.holds)), none n f e (omega (arith, l.holds)))

-- ---- a half to even

closest-nearest : Nearest closest
closest-nearest = record { not_above_lem = λ a c C. (near a c C).0; not_below_lem = λ a c C. (near a c C).1; mono = closest_mono }
  where
    near : (a c : ℕ) → 0 < c → (2 * (closest a c * c) ≤ 2 * a + c) × (2 * a ≤ 2 * (closest a c * c) + c)
    near a c C = go (ordered c (a % c * 2))
      where
        parts : a / c * c + a % c ≡ a
        parts = div-add-mod' a c

        one_more_lem : (a / c + 1) * c ≡ a / c * c + c
        one_more_lem = add-mul (a / c) 1 c ∙ omega arith

        even : (k : ℕ) → k < 2 → a % c * 2 ≡ c → (2 * ((a / c + k) * c) ≤ 2 * a + c) × (2 * a ≤ 2 * ((a / c + k) * c) + c)
        even k l t = elim (ordered 1 k) [
          | inl g ↦ let e : k ≡ 1 = omega arith in rw (e, one_more_lem) ((omega (arith, parts)), (omega (arith, parts)))
          | inr g ↦ let e : a / c + k ≡ a / c = omega arith in rw e ((omega (arith, parts)), (omega (arith, parts)))
        ]

        by : (n : ℕ) → closest a c ≡ n → (2 * (n * c) ≤ 2 * a + c) × (2 * a ≤ 2 * (n * c) + c) → (2 * (closest a c * c) ≤ 2 * a + c) × (2 * a ≤ 2 * (closest a c * c) + c)
        by n e p = rw e p

        go : (c ≤ a % c * 2) ⊎ (a % c * 2 < c) → (2 * (closest a c * c) ≤ 2 * a + c) × (2 * a ≤ 2 * (closest a c * c) + c)
        go (inr h) = by (a / c) (closest_down a c (a / c) (a % c) (sym parts) h) ((omega (arith, parts)), (omega (arith, parts)))
        go (inl h) = elim (eq-or-lt_of_le h) [
          | inl e ↦ by (a / c + a / c % 2) (closest-tie a c (a / c) (a % c) (sym parts) (sym e) C) (even (a / c % 2) (omega arith) (sym e))
          | inr l ↦
              by (a / c + 1) (closest_up a c (a / c) (a % c) (sym parts) l (mod-lt a C))
              (rw one_more_lem ((omega (arith, parts)), (omega (arith, parts, mod-lt a C))))
        ]

-- ---- the sheet's values

-- A value that isn't too wide: its cents, and what its columns read back as.
pub record Printed (x : Float) : Type 0 where
  pub sign : Bool
  pub size : ℕ
  pub power : ℤ
  pub is : x ≡ fin sign size power
  pub shown : Sides sign (closest (100 * (size * up power)) (down power)) (read_back (value_cell x).cell)

printed_of_lem : (s : Bool) (cents : ℕ) → (cell_of (in_cents s cents)).wide ≡ false → Sides s cents (read_back (cell_of (in_cents s cents)).cell)
unfolding in_cents
printed_of_lem s cents w = go (ordered cents 99999999999999)
  where
    go : (cents ≤ 99999999999999) ⊎ (99999999999999 < cents) → Sides s cents (read_back (cell_of (in_cents s cents)).cell)
    go (inl h) =
        subst (λ (b : Bool). Sides s cents (read_back (cell_of (cond b None (Some (in_units s 2 cents)))).cell)) (sym (le-ltb 99999999999999 cents h))
        (subst (λ (d : Decimal). Sides s cents d) (sym (reads s cents h)) (sides s cents))
    go (inr h) = absurd (subst T (ap (λ (b : Bool). (cell_of (cond b None (Some (in_units s 2 cents)))).wide) (sym (lt-ltb 99999999999999 cents h)) ∙ w) tt)

shown-cents : (s : Bool) (m : ℕ) (e : ℤ) → (value_cell (fin s m e)).wide ≡ false → Sides s (closest (100 * (m * up e)) (down e)) (read_back (value_cell (fin s m e)).cell)
shown-cents s m e w =
    let cents = closest (100 * (m * up e)) (down e) in
    let as-cents = cents_are s m e in
    subst (λ (d : Option Rounded). Sides s cents (read_back (cell_of d).cell)) (sym as-cents)
    (printed_of_lem s cents (sym (ap (λ (d : Option Rounded). (cell_of d).wide) as-cents) ∙ w))

printed : (x : Float) → (value_cell x).wide ≡ false → Printed x
unfolding printed_of
printed nan w = absurd (subst T w tt)
printed (inf s) w = absurd (subst T w tt)
printed (fin s m e) w = record { sign = s; size = m; power = e; is = refl; shown = shown-cents s m e w }

-- What is printed of a value is within half a cent of it.
pub within_half_a_cent : (x : Float) → (value_cell x).wide ≡ false → HalfCent x (read_back (value_cell x).cell)
within_half_a_cent x w =
    let p = printed x w in
    subst (λ (y : Float). HalfCent y (read_back (value_cell x).cell)) (sym p.is) (half_cent closest closest-nearest p.sign p.size p.power (read_back (value_cell x).cell) p.shown)

-- A value no lower is printed no lower.
pub printed-no_lower : (x y : Float) → (value_cell x).wide ≡ false → (value_cell y).wide ≡ false → T (le x y) → NoLower (read_back (value_cell x).cell) (read_back (value_cell y).cell)
printed-no_lower x y w v h =
    let p = printed x w in
    let q = printed y v in
    in_order closest closest-nearest p.sign p.size p.power q.sign q.size q.power (read_back (value_cell x).cell) (read_back (value_cell y).cell) p.shown q.shown
    (subst (λ (z : Float). T (le z (fin q.sign q.size q.power))) p.is (subst (λ (z : Float). T (le x z)) q.is h))

-- ---- an exact half

-- k and a half cents are the even one of k and k + 1.
even_cent : (a c k : ℕ) → 0 < c → 2 * a ≡ (2 * k + 1) * c → closest a c ≡ k + k % 2
even_cent a c k C h = closest-tie a c k (a - k * c) (omega (arith, twice)) (omega (arith, twice)) C
  where
    twice : (2 * k + 1) * c ≡ 2 * (k * c) + c
    twice = add-mul (2 * k) 1 c ∙ ap (λ (z : ℕ). z + 1 * c) (mul_assoc 2 k c) ∙ omega arith

pub half_to_even : (s : Bool) (m : ℕ) (e : ℤ) (k : ℕ) → 2 * (100 * (m * up e)) ≡ (2 * k + 1) * down e → (value_cell (fin s m e)).wide ≡ false → Sides s (k + k % 2) (read_back (value_cell (fin s m e)).cell)
half_to_even s m e k h w =
    subst (λ (n : ℕ). Sides s n (read_back (value_cell (fin s m e)).cell)) (even_cent (100 * (m * up e)) (down e) k (down_pos e) h)
    (shown-cents s m e w)
