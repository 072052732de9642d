-- Laws of round and ceil: they keep the order, and of a finite number they give a finite whole number, never -0. Assumes nothing.
use Rattle.std.specs.Prelude.{ℕ, ◌+◌, ◌-◌, ◌*◌, ◌/◌, ◌≤◌, ◌<◌, ◌≡◌, refl, Bool, true, false, cond, T, Float, Ok}
use Rattle.std.proofs.Common.{le_trans, le_of_eq, le_of_suc-le-suc, div-one, mul-pos, mul_comm, mul_assoc, mul_left_comm, mul_right_comm, add-mul, suc-mul, mul-le-mul_right, le_of_mul-le-mul_right, div-lt_iff_lt-mul, arith, sym, subst, ◌∙◌, lit<}
use Rattle.std.proofs.Math.Nat.{lt-div-mul-add}
use Rattle.std.specs.Float.{nan, inf, fin, binary64}
use Rattle.std.specs.Float.Ieee.{fits, le, in_signed, in_unsigned}
use Rattle.std.specs.Float.Ieee.Exact.{HasValue}
use Rattle.std.specs.Float.Ieee.Nearest.{div_mono}
use Rattle.std.specs.Float.Ieee.Scale.{finite}
use Rattle.floats.specs.Whole.{whole_of, rounded, ceiled, round_at, ceil_at}
use Rattle.floats.specs.Answers.{plus_zero}
use Rattle.floats.specs.laws.Casts.{signed-between, unsigned-upto}
use Rattle.floats.specs.laws.Order as order
use Rattle.floats.specs.laws.Order.{between}
use Rattle.floats.specs.laws.Cuts.{Cut, cut_to, IsWhole, cut-value, cut-mono, cut_self, cut-whole, whole-tested}

-- ---- the two ways to a whole number

abbrev pub nearest : Bool → ℕ → ℕ → ℕ
nearest s a c = (2 * a + c) / (2 * c)

abbrev pub upwards : Bool → ℕ → ℕ → ℕ
upwards s a c = cond s (a / c) ((a + (c - 1)) / c)

nearest-cut : Cut nearest
nearest-cut = record {
  mono = λ s a b c d B D h. div_mono (2 * a + b) (2 * b) (2 * c + d) (2 * d) (mul-pos (lit< tt) B) (mul-pos (lit< tt) D) (scaled a b c d h);
  own = λ s n. omega arith;
}
  where
    scaled : (a b c d : ℕ) → a * d ≤ c * b → (2 * a + b) * (2 * d) ≤ (2 * c + d) * (2 * b)
    scaled a b c d h = simp (add-mul, mul_assoc, mul_comm, mul_left_comm) (let g = simp mul_comm at h in omega arith)

-- c / d, a part of a unit counting as one, is not below c / d
reaches : (c d : ℕ) → 0 < d → c ≤ (c + (d - 1)) / d * d
reaches c d D = let h = lt-div-mul-add {a = c + (d - 1)} D in omega arith

upper : (a b k : ℕ) → 0 < b → a ≤ k * b → (a + (b - 1)) / b ≤ k
upper a b k B h = le_of_suc-le-suc ((div-lt_iff_lt-mul B).1 (rw (suc-mul k b) (omega arith)))

upwards-cut : Cut upwards
upwards-cut = record { mono = mono; own = own }
  where
    mono : (s : Bool) (a b c d : ℕ) → 0 < b → 0 < d → a * d ≤ c * b → upwards s a b ≤ upwards s c d
    mono true a b c d B D h = div_mono a b c d B D h
    mono false a b c d B D h =
        upper a b ((c + (d - 1)) / d) B
        (le_of_mul-le-mul_right
        (le_trans h (le_trans (mul-le-mul_right b (reaches c d D)) (le_of_eq (mul_right_comm ((c + (d - 1)) / d) d b)))) D)

    own : (s : Bool) (n : ℕ) → upwards s n 1 ≡ n
    own true n = div-one n
    own false n = omega arith

rounded_is : (x : Float) → rounded x ≡ cut_to nearest x
unfolding rounded
rounded_is nan = refl
rounded_is (inf s) = refl
rounded_is (fin s m e) = refl

ceiled_is : (x : Float) → ceiled x ≡ cut_to upwards x
unfolding ceiled
ceiled_is nan = refl
ceiled_is (inf s) = refl
ceiled_is (fin s m e) = refl

-- ---- by the exact value ±a / c, whatever the fraction

pub rounded-value : (x : Float) (s : Bool) (a c : ℕ) → 0 < c → HasValue x s a c → rounded x ≡ whole_of s (nearest s a c)
rounded-value x s a c C v = rounded_is x ∙ cut-value nearest nearest-cut x s a c C v

pub ceiled-value : (x : Float) (s : Bool) (a c : ℕ) → 0 < c → HasValue x s a c → ceiled x ≡ whole_of s (upwards s a c)
ceiled-value x s a c C v = ceiled_is x ∙ cut-value upwards upwards-cut x s a c C v

-- ---- a whole number is itself

pub rounded_self : (x : Float) (s : Bool) (n : ℕ) → T (fits binary64 x) → 0 < n → HasValue x s n 1 → rounded x ≡ x
rounded_self x s n p h v = rounded_is x ∙ cut_self nearest nearest-cut x s n p h v

pub ceiled_self : (x : Float) (s : Bool) (n : ℕ) → T (fits binary64 x) → 0 < n → HasValue x s n 1 → ceiled x ≡ x
ceiled_self x s n p h v = ceiled_is x ∙ cut_self upwards upwards-cut x s n p h v

-- ---- the order is kept

pub rounded-mono : (x y : Float) → T (finite x) → T (finite y) → T (le x y) → T (le (rounded x) (rounded y))
rounded-mono x y p q h = rw (rounded_is x, rounded_is y) (cut-mono nearest nearest-cut x y p q h)

pub ceiled-mono : (x y : Float) → T (finite x) → T (finite y) → T (le x y) → T (le (ceiled x) (ceiled y))
ceiled-mono x y p q h = rw (ceiled_is x, ceiled_is y) (cut-mono upwards upwards-cut x y p q h)

-- ---- a whole number comes out

pub rounded-whole : (x : Float) → T (fits binary64 x) → T (finite x) → IsWhole (rounded x)
rounded-whole x p h = subst IsWhole (sym (rounded_is x)) (cut-whole nearest nearest-cut x p h)

pub ceiled-whole : (x : Float) → T (fits binary64 x) → T (finite x) → IsWhole (ceiled x)
ceiled-whole x p h = subst IsWhole (sym (ceiled_is x)) (cut-whole upwards upwards-cut x p h)

-- ---- and a value is answered

pub round-answers : (x : Float) (place : ℕ) → T (fits binary64 x) → T (finite x) → round_at x place ≡ Ok (rounded x)
round-answers nan place p h = absurd h
round-answers (inf s) place p h = absurd h
round-answers (fin s m e) place p h = whole-tested (rounded (fin s m e)) place (rounded-whole (fin s m e) p h)

pub ceil-answers : (x : Float) (place : ℕ) → T (fits binary64 x) → T (finite x) → ceil_at x place ≡ Ok (ceiled x)
ceil-answers nan place p h = absurd h
ceil-answers (inf s) place p h = absurd h
ceil-answers (fin s m e) place p h = whole-tested (ceiled (fin s m e)) place (ceiled-whole (fin s m e) p h)

-- ---- as an integer: what lies between lo and hi, whose own whole numbers can be cast, can be cast. At literals the two tests compute.

module _ (lo x hi : Float) (p : T (fits binary64 x)) (l : T (finite lo)) (u : T (finite hi)) (a : T (le lo x)) (b : T (le x hi)) where
  held : T (finite x)
  held = between lo x hi l u a b

  pub rounded-signed : (h : ℕ) → T (in_signed binary64 h (rounded lo)) → T (in_signed binary64 h (rounded hi)) → T (in_signed binary64 h (rounded x))
  rounded-signed h c d =
      signed-between h (rounded lo) (rounded x) (rounded hi) (rounded-whole x p held) c d (rounded-mono lo x l held a) (rounded-mono x hi held u b)

  pub ceiled-signed : (h : ℕ) → T (in_signed binary64 h (ceiled lo)) → T (in_signed binary64 h (ceiled hi)) → T (in_signed binary64 h (ceiled x))
  ceiled-signed h c d =
      signed-between h (ceiled lo) (ceiled x) (ceiled hi) (ceiled-whole x p held) c d (ceiled-mono lo x l held a) (ceiled-mono x hi held u b)

  -- not below +0
  pub rounded-unsigned : (w : ℕ) → T (le plus_zero (rounded lo)) → T (in_unsigned binary64 w (rounded hi)) → T (in_unsigned binary64 w (rounded x))
  rounded-unsigned w c d =
      unsigned-upto w (rounded x) (rounded hi) (rounded-whole x p held) d (order.le_trans plus_zero (rounded lo) (rounded x) c (rounded-mono lo x l held a)) (rounded-mono x hi held u b)

  pub ceiled-unsigned : (w : ℕ) → T (le plus_zero (ceiled lo)) → T (in_unsigned binary64 w (ceiled hi)) → T (in_unsigned binary64 w (ceiled x))
  ceiled-unsigned w c d =
      unsigned-upto w (ceiled x) (ceiled hi) (ceiled-whole x p held) d (order.le_trans plus_zero (ceiled lo) (ceiled x) c (ceiled-mono lo x l held a)) (ceiled-mono x hi held u b)
