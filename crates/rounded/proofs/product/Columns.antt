-- Multiplying two numbers of two words each: the outer products, and the middle one by the product of the sums. Assumes nothing.
use mathlib.Core.Path.{◌≡◌, sym, ◌∙◌}
use Prim.Native.Nat.{ℕ, ◌+◌, ◌-◌, ◌*◌, ◌/◌, ◌%◌, ◌^◌, ◌<◌, ◌≤◌}
use native.Mathlib.Nat.{mul_assoc, mul_comm, mul_left_comm, mul-add, add-mul, mul-le-mul, div-add-mod'}
use native.Mathlib.Omega.{arith}

-- One more than the highest word of 32 bits.
abbrev pub word : ℕ
word = 4294967296

-- ---- sums and their products

-- The product of two sums is the outer products and the middle column.
sums : (a0 a1 b0 b1 : ℕ) → (a0 + a1) * (b0 + b1) ≡ a0 * b0 + a1 * b1 + (a1 * b0 + a0 * b1)
sums a0 a1 b0 b1 = simp (mul-add, add-mul) (omega arith)

-- The product of two numbers by the low words and what the carries add.
by_carries : (P q r t0 q2 : ℕ) → (q * P + r) * (q2 * P + t0) ≡ r * t0 + (q * (q2 * P + t0) + q2 * r) * P
by_carries P q r t0 q2 = simp (mul-add, add-mul, mul_assoc, mul_comm, mul_left_comm) (omega arith)

with_carries : (P s t : ℕ) → s * t ≡ (s % P) * (t % P) + (s / P * t + t / P * (s % P)) * P
with_carries P s t =
    sym (λ i. div-add-mod' s P i * div-add-mod' t P i)
    ∙ by_carries P (s / P) (s % P) (t % P) (t / P)
    ∙ (λ i. (s % P) * (t % P) + (s / P * div-add-mod' t P i + t / P * (s % P)) * P)

-- Outer products, and the middle column one word up.
whole : (P a0 a1 b0 b1 : ℕ) → a1 * b1 * (P * P) + (a1 * b0 + a0 * b1) * P + a0 * b0 ≡ (a1 * P + a0) * (b1 * P + b0)
whole P a0 a1 b0 b1 = simp (mul-add, add-mul, mul_assoc, mul_comm, mul_left_comm) (omega arith)

-- ---- bounds of products of words

words_le : (x y : ℕ) → x < word → y < word → x * y ≤ 18446744065119617025
words_le x y hx hy =
    mul-le-mul {n₁ = x} {m₁ = y} {n₂ = 4294967295} {m₂ = 4294967295} (omega arith) (omega arith)

carry_le : (q x y : ℕ) → q < 2 → x ≤ y → q * x ≤ y
carry_le q x y h k = let w = mul-le-mul {n₁ = q} {m₁ = x} {n₂ = 1} {m₂ = y} (omega arith) k in omega (arith, w)

-- ---- in the words of the code

-- Of two numbers: the product of their low words, that of their high words, the middle column, and the product of the low words of the sums.
abbrev pub low_of : ℕ → ℕ → ℕ
low_of a b = (a % word) * (b % word)

abbrev pub high_of : ℕ → ℕ → ℕ
high_of a b = (a / word) * (b / word)

abbrev pub middle_of : ℕ → ℕ → ℕ
middle_of a b = (a / word) * (b % word) + (a % word) * (b / word)

abbrev pub cross_of : ℕ → ℕ → ℕ
cross_of a b = ((a % word + a / word) % word) * ((b % word + b / word) % word)

-- Four words: what is known of their products.
pub record Words (a0 a1 b0 b1 : ℕ) : Type 0 where
  pub low_le : a0 * b0 ≤ 18446744065119617025
  pub high_le : a1 * b1 ≤ 18446744065119617025
  pub middle_le : a1 * b0 + a0 * b1 ≤ 36893488130239234050
  pub cross_le : ((a0 + a1) % word) * ((b0 + b1) % word) ≤ 18446744065119617025
  pub carry_le : (a0 + a1) / word * (b0 + b1) ≤ 8589934590
  pub carry_low_le : (b0 + b1) / word * ((a0 + a1) % word) ≤ 4294967295
  pub columns : ((a0 + a1) % word) * ((b0 + b1) % word) + ((a0 + a1) / word * (b0 + b1) + (b0 + b1) / word * ((a0 + a1) % word)) * word ≡ a0 * b0 + a1 * b1 + (a1 * b0 + a0 * b1)

pub words : (a b : ℕ) → a < 2 ^ 64 → b < 2 ^ 64 → Words (a % word) (a / word) (b % word) (b / word)
words a b ha hb =
    record {
      low_le = words_le _ _ (omega arith) (omega arith);
      high_le = words_le _ _ (omega arith) (omega arith);
      middle_le = omega (arith, words_le (a / word) (b % word) (omega arith) (omega arith), words_le (a % word) (b / word) (omega arith) (omega arith));
      cross_le = words_le _ _ (omega arith) (omega arith);
      carry_le = carry_le _ _ _ (omega arith) (omega arith);
      carry_low_le = carry_le _ _ _ (omega arith) (omega arith);
      columns = sym (with_carries word (a % word + a / word) (b % word + b / word)) ∙ sums _ _ _ _;
    }

-- The two columns: the lower one with 2^33 to spare, the upper one without what that and the outer products put in.
abbrev lower_of : ℕ → ℕ → ℕ → ℕ
lower_of low high cross = cross % word + low / word + 8589934592 - (low % word + high % word)

abbrev upper_of : ℕ → ℕ → ℕ → ℕ → ℕ
upper_of low high cross carries = cross / word + carries + lower_of low high cross / word - (low / word + high / word + 2)

lower_le : (low high cross : ℕ) → low ≤ 18446744065119617025 → lower_of low high cross / word ≤ 8
lower_le low high cross h = omega arith

three_le : (x y z a b c : ℕ) → x ≤ a → y ≤ b → z ≤ c → x + y + z ≤ a + b + c
three_le x y z a b c h k l = omega arith

-- Outer products, the product of the low words of the sums, what the carries add, and the middle column.
pub record Columns (low high cross carries middle : ℕ) : Type 0 where
  pub low_le : low ≤ 18446744065119617025
  pub high_le : high ≤ 18446744065119617025
  pub middle_le : middle ≤ 36893488130239234050
  pub cross_le : cross ≤ 18446744065119617025
  pub carries_le : carries ≤ 12884901885
  pub sum : cross + carries * word ≡ low + high + middle

pub columns : {a0 a1 b0 b1 c1 c2 : ℕ} → Words a0 a1 b0 b1 → c1 ≡ (a0 + a1) / word * (b0 + b1) → c2 ≡ (b0 + b1) / word * ((a0 + a1) % word) → Columns (a0 * b0) (a1 * b1) (((a0 + a1) % word) * ((b0 + b1) % word)) (c1 + c2) (a1 * b0 + a0 * b1)
columns {a0} {a1} {b0} {b1} w e1 e2 =
    record {
      low_le = w.low_le;
      high_le = w.high_le;
      middle_le = w.middle_le;
      cross_le = w.cross_le;
      carries_le = omega (arith, e1, e2, w.carry_le, w.carry_low_le);
      sum = (λ i. ((a0 + a1) % word) * ((b0 + b1) % word) + (e1 i + e2 i) * word) ∙ w.columns;
    }

module _ {low high cross carries middle : ℕ} (c : Columns low high cross carries middle) where
  pub upper_fits : cross / word + carries + lower_of low high cross / word < 18446744073709551616
  upper_fits = omega (arith, three_le (cross / word) carries (lower_of low high cross / word) 4294967295 12884901885 8 (omega (arith, c.cross_le)) c.carries_le (lower_le low high cross c.low_le))

  -- The middle column and the low product's upper word, by the two columns.
  level : cross / word * word + carries * word + lower_of low high cross ≡ middle + low / word + (low / word + high / word + 2) * word
  level = omega (arith, c.sum)

  pub upper-not_below : low / word + high / word + 2 ≤ cross / word + carries + lower_of low high cross / word
  upper-not_below = omega (arith, level)

  upper_is : upper_of low high cross carries * word + lower_of low high cross % word ≡ middle + low / word
  upper_is = omega (arith, level)

  pub high_fits : high + upper_of low high cross carries < 18446744073709551616
  high_fits = omega (arith, upper_is, c.high_le, c.middle_le, c.low_le)

  exact : (high + upper_of low high cross carries) * 18446744073709551616 + (lower_of low high cross % word * word + low % word) ≡ high * 18446744073709551616 + middle * word + low
  exact = omega (arith, upper_is)

-- The whole product.
pub of_factors_lem : (a b carries : ℕ) → Columns (low_of a b) (high_of a b) (cross_of a b) carries (middle_of a b) → (high_of a b + upper_of (low_of a b) (high_of a b) (cross_of a b) carries) * 18446744073709551616 + (lower_of (low_of a b) (high_of a b) (cross_of a b) % word * word + low_of a b % word) ≡ a * b
of_factors_lem a b carries c =
    exact c
    ∙ whole word (a % word) (a / word) (b % word) (b / word)
    ∙ (λ i. div-add-mod' a word i * div-add-mod' b word i)

-- A word moved up by 64 places keeps all its digits.
pub moved_up : (x rest p : ℕ) → x < 18446744073709551616 → x * 18446744073709551616 + rest ≡ p → x * 18446744073709551616 % 340282366920938463463374607431768211456 + rest ≡ p
moved_up x rest p h e = omega (arith, h, e)
