-- Laws on plain numbers for the packing functions: a shift's unit, a word moved up, the nearest whole number, and a rest made sticky.
use mathlib.Core.Path.{◌≡◌, refl, sym, ap, ◌∙◌, subst}
use mathlib.Core.Logic.{◌⊎◌, inl, inr}
use Prim.Native.Nat.{ℕ, zero, suc, ◌+◌, ◌-◌, ◌*◌, ◌/◌, ◌%◌, ◌^◌, ◌≤◌, ◌<◌}
use native.Mathlib.Nat.{le_antisymm, mul_assoc, mod-eq_of_lt, mul-lt-mul_of_pos_right, le_of_mul-le-mul_right, lt_of_lt_of_le, lt_of_le_of_lt, lt_of_mul-lt-mul_right, le-add_right, add-zero, add-mul, div-div-eq-div-mul, div-le_self, one-mul, le_trans, le_of_eq, mul-le-mul_right, div-add-mod', mod-lt, pow-succ'}
use native.Mathlib.Omega.{arith}
use lib.Count.{count_leading_zeros, leading_top}
use lib.Pow.{pow_mono, pow-add, pow_pos, shl_exact, shl_lt}
use lib.Ieee.Nearest.{closest}
use Rattle.rounded.specs.laws.Packing.{word, Lifted, Stuck}
use Rattle.rounded.specs.laws.RoundToOdd.{Odd, exact, near, ordered, closest_down, closest_up, closest-tie}

pub unit-is : (p : ℕ) → p ≤ 63 → 1 * 2 ^ p % word ≡ 2 ^ p
unit-is p h = shl_exact 1 p 64 (omega arith) (omega arith) ∙ one-mul (2 ^ p)

-- ---- a word moved up

-- a number whose highest digit stands at k, moved up by the s that makes 64 with k + 1
pub lifted : (a k s : ℕ) → 2 ^ k ≤ a → a < 2 ^ suc k → s + suc k ≡ 64 → Lifted a s
lifted a k s lo hi e =
    let l : k + s ≡ 63 = omega arith in
    let m : suc k + s ≡ 64 = omega arith in
    record {
      full = subst (λ (x : ℕ). 2 ^ x ≤ a * 2 ^ s) l (le_trans (le_of_eq (pow-add 2 k s)) (mul-le-mul_right (2 ^ s) lo));
      fits = subst (λ (x : ℕ). a * 2 ^ s < 2 ^ x) m (shl_lt {a = a} (suc k) s hi);
      few = omega arith;
    }

-- ---- the nearest whole number

even : (p : ℕ) → 1 ≤ p → 2 ^ p % 2 ≡ 0
even zero h = elim h [ ]
even (suc p) h = ap (λ (z : ℕ). z % 2) (pow-succ' 2 p) ∙ omega arith

module _ (v b : ℕ) (b-pos : 0 < b) (b-even : b % 2 ≡ 0) where
  up_at : b / 2 < v % b + v / b % 2 → closest v b ≡ v / b + 1
  up_at h = go (ordered (v % b) (b / 2))
    where
      go : (v % b ≤ b / 2) ⊎ (b / 2 < v % b) → closest v b ≡ v / b + 1
      go (inl l) = closest-tie v b (v / b) (v % b) (sym (div-add-mod' v b)) (omega arith) b-pos ∙ omega arith
      go (inr l) = closest_up v b (v / b) (v % b) (sym (div-add-mod' v b)) (omega arith) (mod-lt v b-pos)

  stay_at : v % b + v / b % 2 ≤ b / 2 → closest v b ≡ v / b
  stay_at h = go (ordered (b / 2) (v % b))
    where
      go : (b / 2 ≤ v % b) ⊎ (v % b < b / 2) → closest v b ≡ v / b
      go (inl l) = closest-tie v b (v / b) (v % b) (sym (div-add-mod' v b)) (omega arith) b-pos ∙ omega arith
      go (inr l) = closest_down v b (v / b) (v % b) (sym (div-add-mod' v b)) (omega arith)

-- as the code has it, with the unit as a shift makes it
abbrev pub unit : ℕ → ℕ
unit p = 1 * 2 ^ p % word

pub nearest_up : (v p : ℕ) → (1 ≤ p) × (p ≤ 63) → unit p / 2 < v % unit p + v / 2 ^ p % 2 → closest v (2 ^ p) ≡ v / 2 ^ p + 1
nearest_up v p h l = up_at v (2 ^ p) (pow_pos p) (even p h.0) (subst (λ (u : ℕ). u / 2 < v % u + v / 2 ^ p % 2) (unit-is p h.1) l)

pub nearest_stay : (v p : ℕ) → (1 ≤ p) × (p ≤ 63) → v % unit p + v / 2 ^ p % 2 ≤ unit p / 2 → closest v (2 ^ p) ≡ v / 2 ^ p
nearest_stay v p h l = stay_at v (2 ^ p) (pow_pos p) (even p h.0) (subst (λ (u : ℕ). v % u + v / 2 ^ p % 2 ≤ u / 2) (unit-is p h.1) l)

pub half_of : (v p : ℕ) → 1 ≤ p → v / 2 ^ p ≤ v / 2
half_of v zero h = elim h [ ]
half_of v (suc p) h =
    le_trans (le_of_eq (ap (λ (z : ℕ). v / z) (pow-succ' 2 p) ∙ sym (div-div-eq-div-mul v 2 (2 ^ p)))) (div-le_self (v / 2) (2 ^ p))

-- ---- a rest made sticky

pub odd_stuck : (X D w rest r : ℕ) → X ≡ w * D + rest → rest < D → Stuck w rest r → Odd X D r
odd_stuck X D w zero r e h s = exact (e ∙ ap (λ (z : ℕ). z * D + 0) (sym (s.none refl)) ∙ add-zero (r * D))
odd_stuck X D w (suc rest) r e h s = go (r) (s.some (omega arith)) (ordered (w % 2) 0)
  where
    go : (r : ℕ) → r ≡ w + (1 - w % 2) → (w % 2 ≤ 0) ⊎ (0 < w % 2) → Odd X D r
    go r k (inl l) =
        let m : r * D ≡ w * D + D = ap (λ (z : ℕ). z * D) (omega arith) ∙ add-mul w 1 D ∙ ap (λ (z : ℕ). w * D + z) (one-mul D) in
        near {X = X} {D = D} {w = r} (omega arith) (omega arith) (omega arith)
    go r k (inr l) =
        let m : r * D ≡ w * D = ap (λ (z : ℕ). z * D) (omega arith) in
        near {X = X} {D = D} {w = r} (omega arith) (omega arith) (omega arith)

pub stuck_ge : (w rest r : ℕ) → Stuck w rest r → w ≤ r
stuck_ge w zero r s = le_of_eq (sym (s.none refl))
stuck_ge w (suc rest) r s = le_trans (le-add_right w (1 - w % 2)) (le_of_eq (sym (s.some (omega arith))))

-- ---- a number of 128 digits moved down

wide_unit-is : (p : ℕ) → p ≤ 127 → 1 * 2 ^ p % 340282366920938463463374607431768211456 ≡ 2 ^ p
wide_unit-is p h = shl_exact 1 p 128 (omega arith) (omega arith) ∙ one-mul (2 ^ p)

module _ (w p : ℕ) (h : p ≤ 127) where
  stuck_odd : (r : ℕ) → Stuck (w / 2 ^ p) (w % 2 ^ p) r → Odd w (2 ^ p) r
  stuck_odd r s = odd_stuck w (2 ^ p) (w / 2 ^ p) (w % 2 ^ p) r (sym (div-add-mod' w (2 ^ p))) (mod-lt w (pow_pos p)) s

  pub cut_even : w % (1 * 2 ^ p % 340282366920938463463374607431768211456) ≡ 0 → Odd w (2 ^ p) (w / 2 ^ p)
  cut_even e =
      let z : w % 2 ^ p ≡ 0 = rw (wide_unit-is p h) at e in
      stuck_odd (w / 2 ^ p) (record { none = λ _. refl; some = λ g. absurd (omega arith) })

  pub cut_odd : (w % (1 * 2 ^ p % 340282366920938463463374607431768211456) ≡ 0 → ⊥) → Odd w (2 ^ p) (w / 2 ^ p + (1 - w / 2 ^ p % 2))
  cut_odd n =
      let z : w % 2 ^ p ≡ 0 → ⊥ = rw (wide_unit-is p h) at n in
      stuck_odd (w / 2 ^ p + (1 - w / 2 ^ p % 2)) (record { none = λ g. absurd (z g); some = λ _. refl })

-- by more places than it has digits
pub one_odd : (w p : ℕ) → 1 ≤ w → w < 340282366920938463463374607431768211456 → 128 ≤ p → Odd w (2 ^ p) 1
one_odd w p h k g = at w (2 ^ p) h (lt_of_lt_of_le k (pow_mono {i = 128} g))
  where
    at : (X D : ℕ) → 0 < X → X < D → Odd X D 1
    at X D h k = near {X = X} {D = D} {w = 1} refl (omega arith) (omega arith)

-- ---- its 64 leading digits

low_zeros : count_leading_zeros 128 0 ≡ 128
unfolding count_leading_zeros
low_zeros = refl

pub few-digits : (w : ℕ) → w < 340282366920938463463374607431768211456 → 64 ≤ count_leading_zeros 128 w → w < word
few-digits zero h k = omega arith
few-digits (suc n) h k =
    let t = leading_top 128 (suc n) (omega arith) h in
    lt_of_lt_of_le t.3 (pow_mono {i = suc t.0} {j = 64} (let e = t.1 in omega arith))

pub some_digit : (w : ℕ) → count_leading_zeros 128 w < 64 → 1 ≤ w
some_digit zero k = absurd (let e = low_zeros in omega arith)
some_digit (suc n) k = omega arith

-- a quotient of 64 digits, rounded to odd, has no more of them
module _ (X D r : ℕ) (D-pos : 0 < D) (lo : 9223372036854775808 * D ≤ X) (hi : X < word * D) where
  pub odd_full : Odd X D r → 9223372036854775808 ≤ r
  odd_full (exact e) = le_of_mul-le-mul_right (le_trans lo (le_of_eq e)) D-pos
  odd_full (near o u l) =
      let k : 9223372036854775808 * D < (r + 1) * D = lt_of_le_of_lt lo (lt_of_lt_of_le u (le_of_eq (sym (add-mul r 1 D ∙ ap (λ (z : ℕ). r * D + z) (one-mul D))))) in
      let g : 9223372036854775808 < r + 1 = lt_of_mul-lt-mul_right D k in
      omega arith

  pub odd_fits : Odd X D r → r < word
  odd_fits (exact e) = lt_of_mul-lt-mul_right D (lt_of_le_of_lt (le_of_eq (sym e)) hi)
  odd_fits (near o u l) =
      let m : (word + 1) * D ≡ word * D + D = add-mul word 1 D ∙ ap (λ (z : ℕ). word * D + z) (one-mul D) in
      let k : r * D < (word + 1) * D = omega arith in
      let g : r < word + 1 = lt_of_mul-lt-mul_right D k in
      omega arith

module _ (w r : ℕ) (h : w < 340282366920938463463374607431768211456) (k : count_leading_zeros 128 w < 64) (o : Odd w (2 ^ (64 - count_leading_zeros 128 w)) r) where
  pub leading : (9223372036854775808 ≤ r) × (r < word)
  leading =
      let t = leading_top 128 w (some_digit w k) h in
      let e = t.1 in
      let p = 64 - count_leading_zeros 128 w in
      let lo : 9223372036854775808 * 2 ^ p ≤ w = le_trans (le_of_eq (sym (pow-add 2 63 p) ∙ ap (λ (z : ℕ). 2 ^ z) (omega arith))) t.2 in
      let hi : w < word * 2 ^ p = lt_of_lt_of_le t.3 (le_of_eq (ap (λ (z : ℕ). 2 ^ z) (omega arith) ∙ pow-add 2 64 p)) in
      (odd_full w (2 ^ p) r (pow_pos p) lo hi o, odd_fits w (2 ^ p) r (pow_pos p) lo hi o)

-- ---- the same digits by a number that is moved up to the top of two words

-- What is rounded to odd may be scaled.
unscaled : (X D k r : ℕ) → 0 < k → Odd (X * k) (D * k) r → Odd X D r
unscaled X D k r p (exact e) = exact (le_antisymm (le_of_mul-le-mul_right (le_of_eq (e ∙ sym (mul_assoc r D k))) p) (le_of_mul-le-mul_right (le_of_eq (mul_assoc r D k ∙ sym e)) p))
unscaled X D k r p (near o u l) =
    near o
    (lt_of_mul-lt-mul_right k (lt_of_lt_of_le u (le_of_eq (ap (λ (z : ℕ). z + D * k) (sym (mul_assoc r D k)) ∙ sym (add-mul (r * D) D k)))))
    (lt_of_mul-lt-mul_right k (lt_of_le_of_lt (le_of_eq (mul_assoc r D k)) (lt_of_lt_of_le l (le_of_eq (sym (add-mul X D k))))))

module _ (w : ℕ) (h : w < 340282366920938463463374607431768211456) (k : count_leading_zeros 128 w < 64) where
  abbrev zeros : ℕ
  zeros = count_leading_zeros 128 w

  -- Its digits don't leave the two words.
  pub on_top : w * 2 ^ zeros < 340282366920938463463374607431768211456
  on_top =
      let t = leading_top 128 w (some_digit w k) h in
      let e = t.1 in
      let all : suc t.0 + zeros ≡ 128 = omega arith in
      lt_of_lt_of_le (mul-lt-mul_of_pos_right t.3 (pow_pos zeros)) (le_of_eq (sym (pow-add 2 (suc t.0) zeros) ∙ ap (λ (z : ℕ). 2 ^ z) all))

  pub top-odd : (r : ℕ) → Stuck (w * 2 ^ zeros / word) (w * 2 ^ zeros % word) r → Odd w (2 ^ (64 - zeros)) r
  top-odd r s =
      let all : 64 - zeros + zeros ≡ 64 = omega (arith, k) in
      let e : 2 ^ (64 - zeros) * 2 ^ zeros ≡ word = sym (pow-add 2 (64 - zeros) zeros) ∙ ap (λ (z : ℕ). 2 ^ z) all in
      unscaled w (2 ^ (64 - zeros)) (2 ^ zeros) r (pow_pos zeros)
      (subst (λ (D : ℕ). Odd (w * 2 ^ zeros) D r) (sym e) (odd_stuck (w * 2 ^ zeros) word (w * 2 ^ zeros / word) (w * 2 ^ zeros % word) r (sym (div-add-mod' (w * 2 ^ zeros) word)) (mod-lt (w * 2 ^ zeros) (omega arith)) s))

  -- The same by the words that a move up leaves.
  pub top-rounded : (r : ℕ) → Stuck (w * 2 ^ zeros % 340282366920938463463374607431768211456 / word) (w * 2 ^ zeros % 340282366920938463463374607431768211456 % word) r → Odd w (2 ^ (64 - zeros)) r
  top-rounded r s = top-odd r (subst (λ (z : ℕ). Stuck (z / word) (z % word) r) (mod-eq_of_lt on_top) s)
