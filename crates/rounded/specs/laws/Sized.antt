-- A finite double as a whole number of the smallest double: at most 53 binary digits, and zeros after them.
-- Assumes nothing.
use Rattle.std.specs.Prelude.{◌≡◌, ◌&&◌, ℕ, zero, suc, ◌+◌, ◌-◌, ◌*◌, ◌%◌, ◌^◌, ◌≤◌, ◌<◌, T, eqb, ltb, leb, ℤ, pos, negsuc, Float}
use Rattle.std.proofs.Common.{sym, ap, ◌∙◌, subst, lt_irrefl, le_of_suc-le-suc, lt_of_not-le, lt_of_lt_of_le, zero-mul, one-mul, mul-one, mul_assoc, mul_right_comm, mul-lt-mul_of_pos_right, lt_of_mul-lt-mul_right, arith, ltb→lt, leb→le, pow-add, pow_pos}
use Rattle.std.proofs.Math.Pow.{pow-lt}
use Rattle.std.specs.Float.{nan, inf, fin, binary64}
use Rattle.std.specs.Float.Ieee.{up, down, fits}
use Rattle.std.specs.Float.Ieee.Fits.{and_l, and_r}
use Rattle.std.specs.Float.Ieee.Positive.{num, den}
use Rattle.std.specs.Float.Ieee.Scale.{finite}

pub record Sized (x : Float) : Type 0 where
  pub digits : ℕ
  pub places : ℕ
  pub short : digits < 2 ^ 53
  pub below : digits * 2 ^ places < 2 ^ 2098
  pub value : num x * 2 ^ 1074 ≡ digits * 2 ^ places * den x

pow_back : (a l : ℕ) → 2 ^ a ≤ 2 ^ l → a ≤ l
pow_back a l h = le_of_suc-le-suc (lt_of_not-le (λ (g : suc l ≤ a). lt_irrefl (2 ^ l) (lt_of_lt_of_le (pow-lt g) h)))

-- 2^e, counted in units of 2^−1074
counted : (e : ℤ) → down e ≤ 2 ^ 1074 → (j : ℕ) × (up e * 2 ^ 1074 ≡ 2 ^ j * down e)
counted (pos k) h = (k + 1074, sym (pow-add 2 k 1074) ∙ sym (mul-one (2 ^ (k + 1074))))
counted (negsuc k) h =
    let g : suc k ≤ 1074 = pow_back (suc k) 1074 h in
    (1074 - suc k, one-mul (2 ^ 1074) ∙ ap (λ (z : ℕ). 2 ^ z) (back k g) ∙ pow-add 2 (1074 - suc k) (suc k))
  where
    back : (k : ℕ) → suc k ≤ 1074 → 1074 ≡ 1074 - suc k + suc k
    back k g = omega arith

module _ (m : ℕ) (e : ℤ) (small : m < 2 ^ 53) (fine : down e ≤ 2 ^ 1074) (under : m * up e < 2 ^ 1024 * down e) where
  value_of_lem : m * up e * 2 ^ 1074 ≡ m * 2 ^ (counted e fine).0 * down e
  value_of_lem =
      mul_assoc m (up e) (2 ^ 1074)
      ∙ ap (λ (z : ℕ). m * z) (counted e fine).1
      ∙ sym (mul_assoc m (2 ^ (counted e fine).0) (down e))

  below_of : m * 2 ^ (counted e fine).0 < 2 ^ 1024 * 2 ^ 1074
  below_of =
      lt_of_mul-lt-mul_right (down e)
      (subst (λ (z : ℕ). z < 2 ^ 1024 * 2 ^ 1074 * down e) value_of_lem
      (subst (λ (z : ℕ). m * up e * 2 ^ 1074 < z) (mul_right_comm (2 ^ 1024) (down e) (2 ^ 1074))
      (mul-lt-mul_of_pos_right under (pow_pos 1074))))

  of_parts : {s : _} → Sized (fin s m e)
  of_parts = record { digits = m; places = (counted e fine).0; short = small; below = below_of; value = value_of_lem }

pub sized : (x : Float) → T (fits binary64 x) → T (finite x) → Sized x
unfolding fits
sized nan t f = absurd f
sized (inf s) t f = absurd f
sized (fin s zero e) t f =
    record {
      digits = 0;
      places = 0;
      short = pow_pos 53;
      below = pow_pos 2098;
      value = ap (λ (z : ℕ). z * 2 ^ 1074) (zero-mul (up e)) ∙ sym (zero-mul (down e));
    }
sized (fin s (suc m) e) t f =
    let all3 = and_l (eqb (suc m % 2) 1 && ltb (suc m) (2 ^ 53) && leb (down e) (2 ^ 1074)) (ltb (suc m * up e) (2 ^ 1024 * down e)) t in
    of_parts (suc m) e
    (ltb→lt (suc m) (2 ^ 53) (and_r (eqb (suc m % 2) 1) (ltb (suc m) (2 ^ 53)) (and_l (eqb (suc m % 2) 1 && ltb (suc m) (2 ^ 53)) (leb (down e) (2 ^ 1074)) all3)))
    (leb→le (down e) (2 ^ 1074) (and_r (eqb (suc m % 2) 1 && ltb (suc m) (2 ^ 53)) (leb (down e) (2 ^ 1074)) all3))
    (ltb→lt (suc m * up e) (2 ^ 1024 * down e) (and_r (eqb (suc m % 2) 1 && ltb (suc m) (2 ^ 53) && leb (down e) (2 ^ 1074)) (ltb (suc m * up e) (2 ^ 1024 * down e)) t))
