-- What `rootOf` computes of a number above 0: the whole part r of the root of n = x × 2^2148, doubled, with a half unit where something is cut off, rounded.
-- Assumes nothing.
use Rattle.std.specs.Prelude.{◌≡◌, Bool, true, false, cond, ℕ, ◌+◌, ◌*◌, ◌/◌, ◌^◌, ◌<◌, eqb, Float}
use Rattle.std.proofs.Common.{sym, ◌∙◌, subst, inl, inr, eq-or-lt_of_le, mul-lt-mul_of_pos_right, mul-div_cancel, mul_assoc, mul_right_comm, mul-pos, arith, eq-eqb, ne_eqb, pow_pos}
use Rattle.std.proofs.Math.Path.{ap}
use Rattle.std.specs.Float.{binary64}
use Rattle.std.specs.Float.Ieee.{round}
use Rattle.std.specs.Float.Ieee.Positive.{num, den, den_pos, first_pos}
use Rattle.rounded.specs.Root.{integer_root, doubled, doubled_root, root_of}
use Rattle.rounded.specs.laws.Root.{IsRoot, integer_root_is, integer_root-below}
use Rattle.rounded.specs.laws.Sized.{Sized}

-- w is the root of n, doubled and rounded to odd: r is its whole part.
pub data Twice : ℕ → ℕ → ℕ → Type 0 where
  whole : {r n w : ℕ} → r * r ≡ n → w ≡ 2 * r → Twice r n w
  cut : {r n w : ℕ} → r * r < n → w ≡ 2 * r + 1 → Twice r n w

pub record Doubled (n w : ℕ) : Type 0 where
  pub r : ℕ
  pub root : IsRoot r n
  pub twice : Twice r n w

pub record Rooted (x : Float) (n : ℕ) : Type 0 where
  pub w : ℕ
  pub doubling : Doubled n w
  pub few : w < 2 * 2 ^ 1586
  pub is : root_of x ≡ round binary64 false w (2 ^ 1075)

not_less : (a b : ℕ) → a < b → a ≡ b → ⊥
not_less a b h e = omega arith

doubled_is : (r a b n : ℕ) → 0 < b → a ≡ n * b → IsRoot r n → Twice r n (doubled r a b)
unfolding doubled
doubled_is r a b n p e h = elim (eq-or-lt_of_le h.within) [
  | inl t ↦ whole t (ap (λ (z : Bool). cond z (2 * r) (2 * r + 1)) (eq-eqb (r * r * b) a (ap (λ (z : ℕ). z * b) t ∙ sym e)))
  | inr t ↦
      cut t
      (ap (λ (z : Bool). cond z (2 * r) (2 * r + 1)) (ne_eqb (r * r * b) a λ q. not_less (r * r * b) (n * b) (mul-lt-mul_of_pos_right t p) (q ∙ e)))
]

doubled-few : (r a b p : ℕ) → r < p → doubled r a b < 2 * p
unfolding doubled
doubled-few r a b p h = go (eqb (r * r * b) a)
  where
    go : (t : Bool) → cond t (2 * r) (2 * r + 1) < 2 * p
    go true = omega arith
    go false = omega arith

pub doubled_root-few : (a b : ℕ) → doubled_root a b < 2 * 2 ^ 1586
unfolding doubled_root
doubled_root-few a b = doubled-few (integer_root 1586 (a * 2 ^ 2148 / b)) (a * 2 ^ 2148) b (2 ^ 1586) (integer_root-below 1586 (a * 2 ^ 2148 / b))

above_zero : (a : ℕ) → 0 < a → a ≡ 0 → ⊥
above_zero a h e = omega arith

pub root_value_lem : (x : Float) → 0 < num x → root_of x ≡ round binary64 false (doubled_root (num x) (den x)) (2 ^ 1075)
unfolding root_of
root_value_lem x p =
    ap
    (λ (b : Bool). cond b x (round binary64 false (doubled_root (num x) (den x)) (2 ^ 1075)))
    (ne_eqb (num x) 0 (above_zero (num x) p))

module _ (x : Float) (n : ℕ) (p : 0 < num x) (e : num x * 2 ^ 2148 ≡ n * den x) (h : n < 4 ^ 1586) where
  quotient : num x * 2 ^ 2148 / den x ≡ n
  quotient = ap (λ (z : ℕ). z / den x) e ∙ mul-div_cancel n (den_pos x)

  opened : doubled_root (num x) (den x) ≡ doubled (integer_root 1586 n) (num x * 2 ^ 2148) (den x)
  unfolding doubled_root
  opened = ap (λ (z : ℕ). doubled (integer_root 1586 z) (num x * 2 ^ 2148) (den x)) quotient

  pub rooted : Rooted x n
  rooted =
      let h : IsRoot (integer_root 1586 n) n = integer_root_is 1586 n h in
      record {
        w = doubled (integer_root 1586 n) (num x * 2 ^ 2148) (den x);
        doubling = record { r = integer_root 1586 n; root = h; twice = doubled_is (integer_root 1586 n) (num x * 2 ^ 2148) (den x) n (den_pos x) e h };
        few = doubled-few (integer_root 1586 n) (num x * 2 ^ 2148) (den x) (2 ^ 1586) (integer_root-below 1586 n);
        is = root_value_lem x p ∙ ap (λ (z : ℕ). round binary64 false z (2 ^ 1075)) opened;
      }

-- ---- n of a finite double

abbrev pub number : (x : Float) → Sized x → ℕ
number x s = s.digits * 2 ^ s.places * 2 ^ 1074

pub number_is : (x : Float) (s : Sized x) → num x * 2 ^ 2148 ≡ number x s * den x
number_is x s =
    sym (mul_assoc (num x) (2 ^ 1074) (2 ^ 1074))
    ∙ ap (λ (z : ℕ). z * 2 ^ 1074) s.value
    ∙ mul_right_comm (s.digits * 2 ^ s.places) (den x) (2 ^ 1074)

pub number-below : (x : Float) (s : Sized x) → number x s < 4 ^ 1586
number-below x s = mul-lt-mul_of_pos_right s.below (pow_pos 1074)

pub number-pos : (x : Float) (s : Sized x) → 0 < num x → 0 < number x s
number-pos x s p =
    first_pos (number x s) (den x) (subst (λ (z : ℕ). 0 < z) (number_is x s) (mul-pos p (pow_pos 2148)))

pub rooted-sized : (x : Float) (s : Sized x) → 0 < num x → Rooted x (number x s)
rooted-sized x s p = rooted x (number x s) p (number_is x s) (number-below x s)
