-- exp's reduced argument is not below -2: by one computed test over cells of x from -700 on, each one and a half wide, and by the order of every step. Assumes nothing.
use Prim.Native.Nat.{ℕ, zero, suc, ◌+◌, ◌*◌}
use Rattle.std.proofs.Math.Path.{sym}
use Rattle.std.proofs.Common.{◌∙◌, subst, add-zero, add-suc, suc-add}
use Rattle.std.proofs.Math.Logic.{inl, inr}
use Rattle.std.proofs.Math.Bool.{Bool}
use Rattle.std.specs.Prelude.{true, false, ◌&&◌, ℤ, pos, negsuc, Float}
use Rattle.std.proofs.Math.Dec.{T}
use Rattle.std.specs.Float.{fin}
use Rattle.std.specs.Float.Ieee.{binary64, of_bits, minus, sub, mul, neg, lt, le}
use Rattle.std.specs.Float.Ieee.Scale.{finite}
use Rattle.std.specs.Float.Ieee.Fits.{and_l, and_r}
use Rattle.floats.specs.Answers.{plus_zero}
use Rattle.floats.specs.Whole.{rounded, whole_of}
use Rattle.elementary.specs.Exponential.{inverse_ln2, ln2_high, ln2_low, seven_hundred}
use Rattle.floats.specs.laws.Fractions.{decide}
use Rattle.floats.specs.laws.Order as order
use Rattle.floats.specs.laws.Arithmetic.{mul_mono_left, sub-mono}
use Rattle.floats.specs.laws.Whole.{rounded-mono}
use Rattle.elementary.specs.laws.Exponential.{plain_remainder, steps}
use Rattle.elementary.specs.laws.Intervals.{minus_two}
use Rattle.elementary.specs.laws.Steps.{limit, Reducible, reducible-finite, quotient-low, quotient-high, quotient-finite}

-- ---- the test

half_of : ℤ → Float
half_of (pos n) = fin false n (negsuc 0)
half_of (negsuc n) = fin true (suc n) (negsuc 0)

-- -700 + 3g/2
grid : ℕ → Float
unfolding half_of
grid g = half_of (minus (3 * g) 1400)

-- -15/8
abbrev floor : Float
floor = fin true 15 (negsuc 2)

-- y and k are the quotient and the step at the cell's upper end, h is k × hi
cell : Float → Float → Bool
cell a y =
    let k = rounded y in
    let h = mul binary64 k ln2_high in
    finite y && finite k && finite h && le floor (sub binary64 a h)

cells : ℕ → ℕ → Bool
unfolding grid cell
cells g zero = true
cells g (suc c) = cell (grid g) (mul binary64 (grid (suc g)) inverse_ln2) && cells (suc g) c

table : T (cells 0 934)
unfolding cells cell grid half_of rounded whole_of of_bits mul sub le
table = tt

-- ---- the rule

half-finite : (z : ℤ) → T (finite (half_of z))
unfolding half_of
half-finite (pos n) = tt
half-finite (negsuc n) = tt

grid-finite : (g : ℕ) → T (finite (grid g))
unfolding grid
grid-finite g = half-finite (minus (3 * g) 1400)

module _ (x : Float) (d : Reducible x) where
  steps_low : T (le (neg limit) (steps x))
  unfolding rounded whole_of of_bits neg le
  steps_low = order.le_trans (neg limit) (rounded (neg limit)) (steps x) tt (rounded-mono (neg limit) (mul binary64 x inverse_ln2) tt (quotient-finite x d) (quotient-low x d))

  steps_high : T (le (steps x) limit)
  unfolding rounded whole_of of_bits neg le
  steps_high = order.le_trans (steps x) (rounded limit) limit (rounded-mono (mul binary64 x inverse_ln2) limit (quotient-finite x d) tt (quotient-high x d)) tt

  steps-finite : T (finite (steps x))
  unfolding of_bits neg
  steps-finite = order.between (neg limit) (steps x) limit tt tt steps_low steps_high

  -- k times a factor that is not below 0
  module _ (c : Float) (fc : T (finite c)) (zc : T (le plus_zero c)) where
    times-low : T (le (mul binary64 (neg limit) c) (mul binary64 (steps x) c))
    unfolding of_bits neg
    times-low = mul_mono_left binary64 (neg limit) (steps x) c tt steps-finite fc zc steps_low

    times-high : T (le (mul binary64 (steps x) c) (mul binary64 limit c))
    unfolding of_bits neg
    times-high = mul_mono_left binary64 (steps x) limit c steps-finite tt fc zc steps_high

  high-finite : T (finite (mul binary64 (steps x) ln2_high))
  unfolding of_bits neg mul le
  high-finite = order.between (mul binary64 (neg limit) ln2_high) (mul binary64 (steps x) ln2_high) (mul binary64 limit ln2_high) tt tt (times-low ln2_high tt tt) (times-high ln2_high tt tt)

  low-finite : T (finite (mul binary64 (steps x) ln2_low))
  unfolding of_bits neg mul le
  low-finite = order.between (mul binary64 (neg limit) ln2_low) (mul binary64 (steps x) ln2_low) (mul binary64 limit ln2_low) tt tt (times-low ln2_low tt tt) (times-high ln2_low tt tt)

  -- one cell, from a to b
  in_cell : (a b : Float) → T (finite a) → T (finite b) → T (cell a (mul binary64 b inverse_ln2)) → T (le a x) → T (le x b) → T (le floor (sub binary64 x (mul binary64 (steps x) ln2_high)))
  unfolding cell of_bits
  in_cell a b fa fb t l h =
      let y = mul binary64 b inverse_ln2 in
      let k = rounded y in
      let g = mul binary64 k ln2_high in
      let p : Bool = finite y in
      let q : Bool = finite k in
      let r : Bool = finite g in
      let s : Bool = le floor (sub binary64 a g) in
      let fy = and_l p q (and_l (p && q) r (and_l (p && q && r) s t)) in
      let fk = and_r p q (and_l (p && q) r (and_l (p && q && r) s t)) in
      let fg = and_r (p && q) r (and_l (p && q && r) s t) in
      let fx = reducible-finite x d in
      let o = rounded-mono (mul binary64 x inverse_ln2) y (quotient-finite x d) fy (mul_mono_left binary64 x b inverse_ln2 fx fb tt (unfold le in tt) h) in
      order.le_trans floor (sub binary64 a g) (sub binary64 x (mul binary64 (steps x) ln2_high)) (and_r (p && q && r) s t)
      (sub-mono binary64 a x g (mul binary64 (steps x) ln2_high) fa fx fg high-finite l (mul_mono_left binary64 (steps x) k ln2_high steps-finite fk tt (unfold le in tt) o))

  find : (c g : ℕ) → T (cells g c) → T (le (grid g) x) → T (lt x (grid (g + c))) → T (le floor (sub binary64 x (mul binary64 (steps x) ln2_high)))
  unfolding cells
  find zero g t l h = absurd (order.not_le_of_lt x (grid g) (subst (λ (n : ℕ). T (lt x (grid n))) (add-zero g) h) l)
  find (suc c) g t l h =
      let p : Bool = cell (grid g) (mul binary64 (grid (suc g)) inverse_ln2) in
      let q : Bool = cells (suc g) c in
      elim (decide (lt x (grid (suc g)))) [
        | inl m ↦ in_cell (grid g) (grid (suc g)) (grid-finite g) (grid-finite (suc g)) (and_l p q t) l (order.le_of_lt x (grid (suc g)) m)
        | inr m ↦
            find c (suc g) (and_r p q t) (order.le_of_not_lt x (grid (suc g)) (order.number_of-finite x (reducible-finite x d)) (order.number_of-finite (grid (suc g)) (grid-finite (suc g))) m)
            (subst (λ (n : ℕ). T (lt x (grid n))) (add-suc g c ∙ sym (suc-add g c)) h)
      ]

  difference_low : T (le floor (sub binary64 x (mul binary64 (steps x) ln2_high)))
  unfolding grid half_of of_bits neg le
  difference_low = find 934 0 table (order.le_trans (grid 0) (neg seven_hundred) x tt d.low) (order.lt_of_le_of_lt x seven_hundred (grid 934) d.high (unfold lt in tt))

  difference-finite : T (finite (sub binary64 x (mul binary64 (steps x) ln2_high)))
  unfolding of_bits neg mul sub le
  difference-finite =
      order.between floor (sub binary64 x (mul binary64 (steps x) ln2_high)) (sub binary64 seven_hundred (mul binary64 (neg limit) ln2_high)) tt tt difference_low
      (sub-mono binary64 x seven_hundred (mul binary64 (steps x) ln2_high) (mul binary64 (neg limit) ln2_high) (reducible-finite x d) tt high-finite tt d.high (times-low ln2_high tt tt))

  pub remainder-low : T (le minus_two (plain_remainder x (steps x)))
  unfolding of_bits neg mul sub le
  remainder-low =
      order.le_trans minus_two (sub binary64 floor (mul binary64 limit ln2_low)) (plain_remainder x (steps x)) tt
      (sub-mono binary64 floor (sub binary64 x (mul binary64 (steps x) ln2_high)) (mul binary64 limit ln2_low) (mul binary64 (steps x) ln2_low) tt difference-finite tt low-finite difference_low (times-high ln2_low tt tt))
