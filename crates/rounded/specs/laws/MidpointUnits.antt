-- Two fractions a / b and c / d that are Y and Z times 1 / l, and a third, p / e, that is n times 1 / l²: their order, and (a / b + c / d)² against 4 × p / e, in whole numbers.
-- Assumes nothing.
use Rattle.std.specs.Prelude.{◌≡◌, ℕ, ◌+◌, ◌*◌, ◌<◌}
use Rattle.std.proofs.Common.{sym, ap, ◌∙◌, subst, mul-pos, mul-lt-mul_of_pos_right, lt_of_mul-lt-mul_right, mul_assoc, mul_comm, mul_left_comm, mul_right_comm, add-mul, arith}

-- The order of the two fractions as that of Y and Z, and ((a / b + c / d) / 2)² against p / e by (Y + Z)² against 4 × n.
pub record Counted (Y Z n a b c d p e : ℕ) : Type 0 where
  pub less : c * b < a * d → Z < Y
  pub more : a * d < c * b → Y < Z
  pub square-below : (Y + Z) * (Y + Z) < 4 * n → (a * d + c * b) * (a * d + c * b) * e < p * (2 * (b * d) * (2 * (b * d)))
  pub square_above : 4 * n < (Y + Z) * (Y + Z) → p * (2 * (b * d) * (2 * (b * d))) < (a * d + c * b) * (a * d + c * b) * e

-- a strict order after cancelling a factor m on both sides
cancel : (m u v a b : ℕ) → u * m ≡ a → v * m ≡ b → a < b → u < v
cancel m u v a b f g h =
    lt_of_mul-lt-mul_right m (subst (λ (z : ℕ). z < v * m) (sym f) (subst (λ (z : ℕ). a < z) (sym g) h))

module _ (l Y Z n a b c d p e : ℕ) (l-pos : 0 < l) (b-pos : 0 < b) (d-pos : 0 < d) (e-pos : 0 < e) (u : a * l ≡ Y * b) (v : c * l ≡ Z * d) (f : p * (l * l) ≡ n * e) where
  first : a * d * l ≡ Y * (b * d)
  first = mul_right_comm a d l ∙ ap (λ (z : ℕ). z * d) u ∙ mul_assoc Y b d

  second : c * b * l ≡ Z * (b * d)
  second = mul_right_comm c b l ∙ ap (λ (z : ℕ). z * b) v ∙ mul_right_comm Z d b ∙ mul_assoc Z b d

  total : (a * d + c * b) * l ≡ (Y + Z) * (b * d)
  total = add-mul (a * d) (c * b) l ∙ (λ i. first i + second i) ∙ sym (add-mul Y Z (b * d))

  left : (a * d + c * b) * (a * d + c * b) * e * (l * l) ≡ (Y + Z) * (Y + Z) * (b * d * (b * d) * e)
  left = pull (a * d + c * b) l e ∙ (λ i. total i * total i * e) ∙ push (Y + Z) (b * d) e
    where
      pull : (m l e : ℕ) → m * m * e * (l * l) ≡ m * l * (m * l) * e
      pull m l e = simp (mul_assoc, mul_comm, mul_left_comm)

      push : (m g e : ℕ) → m * g * (m * g) * e ≡ m * m * (g * g * e)
      push m g e = simp (mul_assoc, mul_left_comm)

  right : p * (2 * (b * d) * (2 * (b * d))) * (l * l) ≡ 4 * n * (b * d * (b * d) * e)
  right = pull p (b * d) (l * l) ∙ ap (λ (z : ℕ). 4 * z * (b * d * (b * d))) f ∙ push n e (b * d * (b * d))
    where
      pull : (p g m : ℕ) → p * (2 * g * (2 * g)) * m ≡ 4 * (p * m) * (g * g)
      pull p g m = simp (mul_assoc, mul_comm, mul_left_comm) (omega arith)

      push : (n e g : ℕ) → 4 * (n * e) * g ≡ 4 * n * (g * e)
      push n e g = simp (mul_assoc, mul_comm)

  all_pos : 0 < b * d * (b * d) * e
  all_pos = mul-pos (mul-pos (mul-pos b-pos d-pos) (mul-pos b-pos d-pos)) e-pos

  pub counted : Counted Y Z n a b c d p e
  counted =
      record {
        less = λ h. cancel (b * d) Z Y _ _ (sym second) (sym first) (mul-lt-mul_of_pos_right h l-pos);
        more = λ h. cancel (b * d) Y Z _ _ (sym first) (sym second) (mul-lt-mul_of_pos_right h l-pos);
        square-below = λ h. cancel (l * l) _ _ _ _ left right (mul-lt-mul_of_pos_right h all_pos);
        square_above = λ h. cancel (l * l) _ _ _ _ right left (mul-lt-mul_of_pos_right h all_pos);
      }
