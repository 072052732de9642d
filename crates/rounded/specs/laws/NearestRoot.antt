-- `rootOf` is the double nearest to the exact root, and never one of two that are equally near.
-- The midpoint between it and any other double, squared, lies on that double's side of x: below x for a smaller one, above x for a larger one.
-- Assumes nothing.
use Rattle.std.specs.Prelude.{◌≡◌, false, ℕ, suc, ◌+◌, ◌-◌, ◌*◌, ◌^◌, ◌≤◌, ◌<◌, T, Float}
use Rattle.std.proofs.Common.{sym, ap, ◌∙◌, subst, inl, inr, le_trans, le_of_eq, lt_of_lt_of_le, lt_of_not-le, not-le_of_lt, mul-le-mul_right, mul-one, mul_assoc, mul_left_comm, arith, lit≤, pow-add, pow_pos, pow_mono}
use Rattle.std.proofs.Math.Nat.{pow-succ'}
use Rattle.std.specs.Float.{binary64}
use Rattle.std.specs.Float.Ieee.{fits, size, units, round}
use Rattle.std.specs.Float.Ieee.Digits.{size-lt, size_reaches}
use Rattle.std.specs.Float.Ieee.Exact.{HasValue, units_val}
use Rattle.std.specs.Float.Ieee.Nearest.{closest}
use Rattle.std.specs.Float.Ieee.Positive.{num, den, den_pos, positive, positive-finite, own_value, value_pos, first_pos, value→cross}
use Rattle.std.specs.Float.Ieee.Scale.{finite}
use Rattle.rounded.specs.Root.{root_of}
use Rattle.rounded.specs.laws.Root.{IsRoot, root-most}
use Rattle.rounded.specs.laws.RootValue.{Twice, whole, cut, Doubled, number, number-pos, number_is, rooted-sized}
use Rattle.rounded.specs.laws.RoundToOdd.{round-word}
use Rattle.rounded.specs.laws.MidpointUnits.{Counted, counted}
use Rattle.rounded.specs.laws.Sized.{Sized, sized}
use Rattle.rounded.specs.laws.Midpoints.{Within, closest-within, next, gap_up, gap_down, Sides, sides}

-- z is smaller than y, as fractions.
abbrev pub Smaller : Float → Float → Type 0
Smaller z y = num z * den y < num y * den z

-- y + z is sum y z / (den y × den z).
abbrev pub sum : Float → Float → ℕ
sum y z = num y * den z + num z * den y

-- ((y + z) / 2)² < x
abbrev pub SquareBelow : Float → Float → Float → Type 0
SquareBelow y z x = sum y z * sum y z * den x < num x * (2 * (den y * den z) * (2 * (den y * den z)))

-- x < ((y + z) / 2)²
abbrev pub SquareAbove : Float → Float → Float → Type 0
SquareAbove y z x = num x * (2 * (den y * den z) * (2 * (den y * den z))) < sum y z * sum y z * den x

pub record NearestRoot (x y : Float) : Type 0 where
  pub smaller : (z : Float) → T (fits binary64 z) → T (finite z) → Smaller z y → SquareBelow y z x
  pub larger : (z : Float) → T (fits binary64 z) → T (finite z) → Smaller y z → SquareAbove y z x

-- ---- the root of x, rounded, is q × 2^(k + 1) of the smallest double

record Rounded (w : ℕ) (y : Float) : Type 0 where
  k : ℕ
  q : ℕ
  normal : 2 ^ 52 ≤ q
  start : 2 ^ 52 * (2 * 2 ^ suc k) ≤ w
  near : Within w (2 * 2 ^ suc k) (q * (2 * 2 ^ suc k))
  value : num y * 2 ^ 1074 ≡ q * 2 ^ suc k * den y

abbrev nearest_to : ℕ → ℕ → ℕ
nearest_to w k = closest w (2 * 2 ^ suc k)

module _ (w k : ℕ) (long : w < 2 ^ (53 + suc (suc k))) (full : 2 ^ (52 + suc (suc k)) ≤ w) (bound : w < 2 * 2 ^ 1586) where
  double : 2 ^ suc (suc k) ≡ 2 * 2 ^ suc k
  double = pow-succ' 2 (suc k)

  start : 2 ^ 52 * (2 * 2 ^ suc k) ≤ w
  start = subst (λ (z : ℕ). 2 ^ 52 * z ≤ w) double (le_trans (le_of_eq (sym (pow-add 2 52 (suc (suc k))))) full)

  near : Within w (2 * 2 ^ suc k) (nearest_to w k * (2 * 2 ^ suc k))
  near = closest-within w (2 * 2 ^ suc k) (subst (λ (z : ℕ). 0 < z) double (pow_pos (suc (suc k))))

  normal : 2 ^ 52 ≤ nearest_to w k
  normal = lt_of_not_le-suc λ (g : nearest_to w k + 1 ≤ 2 ^ 52). omega (arith, start, near.not_under, pow_pos (suc k), mul-le-mul_right (2 * 2 ^ suc k) g, next (nearest_to w k) (2 * 2 ^ suc k))
    where
      lt_of_not_le-suc : {a b : ℕ} → (a + 1 ≤ b → ⊥) → b ≤ a
      lt_of_not_le-suc {a} {b} f = let h : b < a + 1 = lt_of_not-le f in omega arith

  few : nearest_to w k * 2 ^ suc k < 2 ^ 2098
  few = lt_of_lt_of_le (last (2 ^ 1586) bound) (lit≤ tt)
    where
      last : (b : ℕ) → w < 2 * b → nearest_to w k * 2 ^ suc k < 2 * b
      last b h = omega (arith, start, near.not_over, mul_left_comm (nearest_to w k) 2 (2 ^ suc k))

  units_of : round binary64 false w (2 ^ 1075) ≡ units binary64 false (nearest_to w k) (suc k)
  units_of =
      ap (λ (z : ℕ). round binary64 false z (2 ^ 1075)) (sym (mul-one w))
      ∙ round-word binary64 false w 0 1075 (suc k) (suc (suc k)) (omega arith) long (inr full)
      ∙ ap (λ (z : ℕ). units binary64 false (closest w z) (suc k)) double

  rounded : Rounded w (round binary64 false w (2 ^ 1075))
  rounded =
      record {
        k = k;
        q = nearest_to w k;
        normal = normal;
        start = start;
        near = near;
        value = value→cross (round binary64 false w (2 ^ 1075)) (nearest_to w k * 2 ^ suc k) (2 ^ 1074) (subst (λ (z : Float). HasValue z false (nearest_to w k * 2 ^ suc k) (2 ^ 1074)) (sym units_of) (units_val binary64 false (nearest_to w k) (suc k) few));
      }

rounded_of : (w : ℕ) → 2 ^ 54 ≤ w → w < 2 * 2 ^ 1586 → Rounded w (round binary64 false w (2 ^ 1075))
rounded_of w l b =
    let long : 54 < size w = lt_of_not-le λ (g : size w ≤ 54). not-le_of_lt (lt_of_lt_of_le (size-lt w) (pow_mono g)) l in
    let k = size w - 55 in
    rounded w k
    (subst (λ (z : ℕ). w < 2 ^ z) (omega arith) (size-lt w))
    (size_reaches w (52 + suc (suc k)) (omega arith))
    b

-- ---- the law

w_large : (r n w : ℕ) → 2 ^ 1074 ≤ n → IsRoot r n → Twice r n w → 2 ^ 54 ≤ w
w_large r n w l h t = last (2 ^ 537) (lit≤ tt) (root-most r (2 ^ 537) n h l) t
  where
    last : (b : ℕ) → 2 ^ 53 ≤ b → b < r + 1 → Twice r n w → 2 ^ 54 ≤ w
    last b g m (whole x y) = omega arith
    last b g m (cut x y) = omega arith

module _ (x : Float) (s : Sized x) (w : ℕ) (o : Doubled (number x s) w) (y : Float) (d : Rounded w y) (z : Float) (u : Sized z) where
  power : number x s ≡ s.digits * 2 ^ (s.places + 1074)
  power = mul_assoc s.digits (2 ^ s.places) (2 ^ 1074) ∙ ap (λ (v : ℕ). s.digits * v) (sym (pow-add 2 s.places 1074))

  in_units_lem : Counted (d.q * 2 ^ suc d.k) (u.digits * 2 ^ u.places) (number x s) (num y) (den y) (num z) (den z) (num x) (den x)
  in_units_lem =
      counted (2 ^ 1074) (d.q * 2 ^ suc d.k) (u.digits * 2 ^ u.places) (number x s) (num y) (den y) (num z) (den z) (num x) (den x)
      (pow_pos 1074)
      (den_pos y)
      (den_pos z)
      (den_pos x)
      d.value
      u.value
      (number_is x s)

  near-side : Sides (d.q * 2 ^ suc d.k) (2 ^ suc d.k) w (number x s)
  near-side = sides d.k d.q w o.r (number x s) s.digits (s.places + 1074) o.root o.twice power s.short d.normal d.near

  of_smaller : Smaller z y → SquareBelow y z x
  of_smaller h =
      let l = in_units_lem.less h in
      in_units_lem.square-below
      (elim (gap_down (suc d.k) d.q u.digits u.places d.normal u.short l) [
        | inl g ↦ near-side.below (d.q * 2 ^ suc d.k + u.digits * 2 ^ u.places) (omega arith)
        | inr e ↦
            near-side.below-exact (d.q * 2 ^ suc d.k + u.digits * 2 ^ u.places) (omega (arith, l))
            (le_trans (le_of_eq (sym (mul_left_comm d.q 2 (2 ^ suc d.k)) ∙ ap (λ (v : ℕ). v * (2 * 2 ^ suc d.k)) e)) d.start)
      ])

  of_larger : Smaller y z → SquareAbove y z x
  of_larger h =
      let l = gap_up (suc d.k) d.q u.digits u.places d.normal u.short (in_units_lem.more h) in
      in_units_lem.square_above (near-side.above (d.q * 2 ^ suc d.k + u.digits * 2 ^ u.places) (omega (arith, l)))

pub root_of-nearest : (x : Float) → T (fits binary64 x) → T (positive x) → NearestRoot x (root_of x)
root_of-nearest x t p =
    let s = sized x t (positive-finite x p) in
    let pos : 0 < num x = value_pos x (num x) (den x) p (den_pos x) (own_value x p) in
    let r = rooted-sized x s pos in
    let o = r.doubling in
    let large : 2 ^ 1074 ≤ number x s = mul-le-mul_right {m = 1} (2 ^ 1074) (first_pos (s.digits * 2 ^ s.places) (2 ^ 1074) (number-pos x s pos)) in
    let y = round binary64 false r.w (2 ^ 1075) in
    let d = rounded_of r.w (w_large o.r (number x s) r.w large o.root o.twice) r.few in
    subst (λ (v : Float). NearestRoot x v) (sym r.is)
    (record {
      smaller = λ z a b. of_smaller x s r.w o y d z (sized z a b);
      larger = λ z a b. of_larger x s r.w o y d z (sized z a b);
    })
