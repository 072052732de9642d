-- What a midpoint does to the span of a bracket within ±1, in cells of 2^−50, and that a span of six cells is a width below 1e-14. Assumes nothing.
use Rattle.std.specs.Prelude.{◌≡◌, refl, true, false, T, Float, negsuc, Ok, Err}
use Rattle.std.proofs.Common.{sym, subst, le_of_lt, mul_comm, mul_assoc, mul_left_comm, add-mul, mul-le-mul_right, le_of_mul-le-mul_right, lt_of_mul-lt-mul_right, arith, lit<}
use Prim.Native.Nat.{ℕ, suc, ◌+◌, ◌*◌, ◌≤◌, ◌<◌}
use Rattle.std.proofs.Math.Nat.{mul-pos}
use Rattle.std.specs.Float.{nan, inf, fin}
use Rattle.std.specs.Float.Ieee.{binary64, round, add, sub, div, neg, lt, le, of_bits}
use Rattle.std.specs.Float.Ieee.Fits.{and_i}
use Rattle.std.specs.Float.Ieee.Scale.{finite}
use Rattle.std.specs.Float.Ieee.Positive.{den, den_pos}
use Rattle.floats.specs.Answers.{Answer, two, when_finite, tested}
use Rattle.floats.specs.Middle.{midpoint_at}
use Rattle.floats.specs.laws.Fractions.{pl, mi}
use Rattle.floats.specs.laws.Order.{T-to, lt_of_le_of_lt, lt_of_lt_of_le}
use Rattle.floats.specs.laws.Rounding.{Rounds, above, under, rounds-mono}
use Rattle.floats.specs.laws.Exactly.{add_rounds, sub-rounds, div-rounds}
use Rattle.terms.specs.Numbers.{width_tolerance}
use Rattle.brackets.specs.Brackets.{small}
use Rattle.promises.proofs.laws.Cells.{Above, Below, rounded-above, rounded-below, fine, fine-pos, held-fine, held_finer, Cell}
use Rattle.floats.specs.declared.Reason.TheVariants as reason

-- ---- the sum of x = (xp - xm) / a and y = (yp - ym) / b
sum-above : (A B xp xm a yp ym b k : ℕ) → A * a + xm * k ≤ xp * k + k * a → B * b + ym * k ≤ yp * k + k * b
    → (A + B) * (a * b) + (xm * b + ym * a) * k ≤ (xp * b + yp * a) * k + (k + k) * (a * b)
sum-above A B xp xm a yp ym b k h l =
    let h' = simp (add-mul, mul_assoc, mul_comm) at (mul-le-mul_right b h) in
    let l' = simp (add-mul, mul_assoc, mul_comm, mul_left_comm) at (mul-le-mul_right a l) in
    simp (add-mul, mul_assoc, mul_comm, mul_left_comm) (omega arith)

sum_below : (A B xp xm a yp ym b k : ℕ) → xp * k + k * a ≤ A * a + xm * k → yp * k + k * b ≤ B * b + ym * k
    → (xp * b + yp * a) * k + (k + k) * (a * b) ≤ (A + B) * (a * b) + (xm * b + ym * a) * k
sum_below A B xp xm a yp ym b k h l =
    let h' = simp (add-mul, mul_assoc, mul_comm) at (mul-le-mul_right b h) in
    let l' = simp (add-mul, mul_assoc, mul_comm, mul_left_comm) at (mul-le-mul_right a l) in
    simp (add-mul, mul_assoc, mul_comm, mul_left_comm) (omega arith)

-- ---- half of s = (p - m) / d
half-above : (q p m d k : ℕ) → q * d + m * k ≤ p * k + (k + k) * d → q * (2 * d) + m * 1 * (k * 2) ≤ p * 1 * (k * 2) + (k + k) * (2 * d)
half-above q p m d k h =
    let h' = simp (add-mul, mul_comm) at h in
    simp (add-mul, mul_assoc, mul_comm, mul_left_comm) (omega arith)

half-below : (q p m d k : ℕ) → p * k + (k + k) * d ≤ q * d + m * k → p * 1 * (k * 2) + (k + k) * (2 * d) ≤ q * (2 * d) + m * 1 * (k * 2)
half-below q p m d k h =
    let h' = simp (add-mul, mul_comm) at h in
    simp (add-mul, mul_assoc, mul_comm, mul_left_comm) (omega arith)

-- ---- twice the cell of m = (p - n) / d against q, the sum of two cells
not_over : (q M p n d k : ℕ) → q * d + n * (k * 2) ≤ p * (k * 2) + (k + k) * d → p * k + k * d < suc M * d + n * k → q < suc M * 2
not_over q M p n d k h l =
    let h' = simp (add-mul, mul_comm, mul_left_comm) at h in
    let l' = simp (mul_comm) at l in
    lt_of_mul-lt-mul_right d (simp (mul_assoc, mul_comm) (omega arith))

not_under : (q M p n d k : ℕ) → 0 < d → p * (k * 2) + (k + k) * d ≤ q * d + n * (k * 2) → M * d + n * k ≤ p * k + k * d → M * 2 ≤ q
not_under q M p n d k D h l =
    let h' = simp (add-mul, mul_comm, mul_left_comm) at h in
    let l' = simp (mul_comm) at l in
    le_of_mul-le-mul_right (simp (mul_assoc, mul_comm) (omega arith)) D

-- ---- what a midpoint that has a value is
no_value : (x : Float) → ◌≡◌ {A = Answer} (Err (record { reason = reason.NotFinite; place = 0 })) (Ok x) → ⊥
no_value x e = let z : ◌≡◌ {A = ℕ} 0 1 = cc in omega arith

of_tested : (z m : Float) → tested z 0 ≡ Ok m → z ≡ m
of_tested nan m e = absurd (no_value m e)
of_tested (inf s) m e = absurd (no_value m e)
of_tested (fin s n d) m e = cc

of_finite : (z m : Float) (k : Float → Answer) → when_finite z 0 k ≡ Ok m → T (finite z) × (k z ≡ Ok m)
of_finite nan m k e = absurd (no_value m e)
of_finite (inf s) m k e = absurd (no_value m e)
of_finite (fin s n d) m k e = (tt, e)

module _ (x y : Float) (A B : ℕ) (c : Cell x A) (d : Cell y B) where
  sum-cells : T (finite (add binary64 x y)) → Above (add binary64 x y) (A + B) (fine + fine) fine × Below (add binary64 x y) (suc A + suc B) (fine + fine) fine
  sum-cells f =
      let r = add_rounds binary64 x y c.is_finite d.is_finite in
      let C = mul-pos (den_pos x) (den_pos y) in (
        rounded-above _ _ _ _ (held-fine (A + B) (omega arith)) C f r (sum-above A B (pl x) (mi x) (den x) (pl y) (mi y) (den y) fine c.from d.from),
        rounded-below _ _ _ _ (held-fine (suc A + suc B) (omega arith)) C f r (sum_below (suc A) (suc B) (pl x) (mi x) (den x) (pl y) (mi y) (den y) fine (le_of_lt c.to) (le_of_lt d.to)),
      )

  half-cells : (M : ℕ) → T (finite (add binary64 x y)) → Cell (div binary64 (add binary64 x y) two) M → (A + B < suc M * 2) × (M * 2 ≤ suc A + suc B)
  unfolding of_bits
  half-cells M f e =
      let s = add binary64 x y in
      let m = div binary64 s two in
      let w = sum-cells f in
      let r = div-rounds binary64 s two f tt (unfold lt in tt) in
      let C : 0 < 2 * den s = mul-pos (lit< tt) (den_pos s) in
      let l = rounded-above m _ _ _ (held_finer (A + B) (omega arith)) C e.is_finite r (half-above (A + B) (pl s) (mi s) (den s) fine w.0.holds) in
      let u = rounded-below m _ _ _ (held_finer (suc A + suc B) (omega arith)) C e.is_finite r (half-below (suc A + suc B) (pl s) (mi s) (den s) fine w.1.holds) in (
        not_over (A + B) M (pl m) (mi m) (den m) fine l.holds e.to,
        not_under (suc A + suc B) M (pl m) (mi m) (den m) fine (den_pos m) u.holds e.from,
      )

  -- A midpoint's cell is within one of the middle of its ends' cells.
  pub midpoint-cell : (m : Float) (M : ℕ) → midpoint_at x y 0 ≡ Ok m → Cell m M → (A + B < suc M * 2) × (M * 2 ≤ suc A + suc B)
  midpoint-cell m M e k =
      let f = of_finite (add binary64 x y) m (λ (s : Float). tested (div binary64 s two) 0) e in
      half-cells M f.0 (subst (λ (z : Float). Cell z M) (sym (of_tested (div binary64 (add binary64 x y) two) m f.1)) k)

-- ---- the width

width : (A B xp xm a yp ym b k : ℕ) → A * a + xm * k ≤ xp * k + k * a → yp * k + k * b ≤ suc B * b + ym * k → B ≤ A + 6
    → (yp * a + xm * b) * k + 0 * (b * a) ≤ 7 * (b * a) + (ym * a + xp * b) * k
width A B xp xm a yp ym b k h l n =
    let h' = simp (add-mul, mul_assoc, mul_comm) at (mul-le-mul_right b h) in
    let l' = simp (add-mul, mul_assoc, mul_comm, mul_left_comm) at (mul-le-mul_right a l) in
    let n' : suc B ≤ A + 7 = omega arith in
    let n'' = simp (add-mul, mul_comm, mul_left_comm) at (mul-le-mul_right (a * b) n') in
    simp (add-mul, mul_assoc, mul_comm) (omega arith)

width_down : (A B xp xm a yp ym b k : ℕ) → B * b + ym * k ≤ yp * k + k * b → xp * k + k * a ≤ suc A * a + xm * k → A ≤ B + 6
    → 0 * (b * a) + (ym * a + xp * b) * k ≤ (yp * a + xm * b) * k + 7 * (b * a)
width_down A B xp xm a yp ym b k h l n =
    let w = simp (add-mul, mul_assoc, mul_comm) at (width B A yp ym b xp xm a k h l n) in
    simp (add-mul, mul_assoc, mul_comm) (omega arith)

-- 7 × 2^−50
abbrev seven : Float
seven = fin false 7 (negsuc 49)

seven-rounds : Rounds binary64 seven 7 0 fine
unfolding fine round
seven-rounds = above (omega arith) refl

minus-rounds : Rounds binary64 (neg seven) 0 7 fine
unfolding fine round neg
minus-rounds = under (omega arith) refl

-- Ends at most six cells apart are less than 1e-14 apart.
pub narrow : (x y : Float) (A B : ℕ) → Cell x A → Cell y B → A ≤ B + 6 → B ≤ A + 6 → small width_tolerance (sub binary64 y x) ≡ true
narrow x y A B c d h k =
    let z = sub binary64 y x in
    let r = sub-rounds binary64 y x d.is_finite c.is_finite in
    let C = mul-pos (den_pos y) (den_pos x) in
    let u : T (le z seven) = rounds-mono C fine-pos r seven-rounds (width A B (pl x) (mi x) (den x) (pl y) (mi y) (den y) fine c.from (le_of_lt d.to) k) in
    let l : T (le (neg seven) z) = rounds-mono fine-pos C minus-rounds r (width_down A B (pl x) (mi x) (den x) (pl y) (mi y) (den y) fine d.from (le_of_lt c.to) h) in
    T-to (small width_tolerance z) (and_i (lt (neg width_tolerance) z) (lt z width_tolerance)
    (lt_of_lt_of_le (neg width_tolerance) (neg seven) z (unfold lt neg of_bits in tt) l)
    (lt_of_le_of_lt z seven width_tolerance u (unfold lt of_bits in tt)))
