-- A number to a few decimals by the exponent's field of its bits. Assumes nothing.
use Prim.Native.Nat.{ℕ, ◌+◌, ◌-◌, ◌*◌, ◌^◌, ◌≤◌, ◌<◌}
use mathlib.Core.Path.{◌≡◌, refl, sym, ap, subst, ◌∙◌}
use mathlib.Core.Logic.{◌⊎◌, inl, inr}
use mathlib.Core.Bool.{Bool, true, false, not}
use native.Mathlib.Nat.{lt_of_lt_of_le, le_trans, le_of_eq, le-add_right, zero-mul, zero-add, add_comm, mul_comm, mul_assoc, mul_left_comm, mul-le-mul, mul-le-mul_right, mul-lt-mul_of_pos_right}
use native.Mathlib.Omega.{arith}
use lib.Dec.{T}
use lib.Pow.{pow-add, pow_pos, pow_mono}
use lib.Ieee.{Float, nan, inf, fin, binary64, fits, is_nan}
use lib.Ieee.Scale.{finite}
use lib.Ieee.Nearest.{closest, closest_same}
use Rattle.floats.specs.Answers.{not_finite}
use Rattle.rounded.specs.laws.RoundToOdd.{ordered, closest_down}
use Rattle.floats.proofs.Patterns.{sign_of, field_of, digits_of, low_value, mid-value, large-value}
use Rattle.decimal.specs.declared.Rounded.{Rounded}
use Rattle.std.specs.Prelude.{Some, None}
use Rattle.decimal.specs.Writing.{whole_digits, in_units, decimals_of}
use Rattle.decimal.specs.laws.Division.{ten_is}
use Rattle.decimal.specs.laws.Writing.{few-digits, fewer_digits, too_many, shown, hidden}
use Rattle.decimal.proofs.writing.Cutting.{five_most}

pub many : (places : ℕ) (x : Float) → 6 < places → None ≡ decimals_of places x
many places x h = sym (too_many places x h)

pub not_finite_lem : {f : Bool} (places : ℕ) (x : Float) → f ≡ not_finite x → f ≡ true → None ≡ decimals_of places x
unfolding decimals_of
not_finite_lem places nan e t = refl
not_finite_lem places (inf s) e t = refl
not_finite_lem places (fin s m k) e t = let z : false ≡ true = sym e ∙ t in absurd (subst T (sym z) tt)

pub no_nan : {f : Bool} (x : Float) → f ≡ not_finite x → f ≡ false → T (not (is_nan x))
unfolding is_nan
no_nan nan e t = let z : true ≡ false = sym e ∙ t in absurd (subst T z tt)
no_nan (inf s) e t = tt
no_nan (fin s m k) e t = tt

-- How far up the field of a number that is shown may lie.
pub most-digits : (places : ℕ) {n : ℕ} → n ≡ whole_digits places → n ≤ 49
most-digits places {n} e = go (ordered places 4)
  where
    go : (places ≤ 4) ⊎ (4 < places) → n ≤ 49
    go (inl k) = let d : n ≡ 49 = e ∙ few-digits places k in omega arith
    go (inr k) = let d : n ≡ 41 = e ∙ fewer_digits places k in omega arith

pub shifted-enough : (places f : ℕ) {n : ℕ} → places ≤ 6 → n ≡ whole_digits places → f ≤ 1022 + n → 1075 - f - places < 6 → places ≤ 4
shifted-enough places f {n} h e l s = go (ordered places 4)
  where
    go : (places ≤ 4) ⊎ (4 < places) → places ≤ 4
    go (inl k) = k
    go (inr k) = let d : n ≡ 41 = e ∙ fewer_digits places k in omega arith

pub room : (places f : ℕ) {n : ℕ} → places ≤ 6 → n ≡ whole_digits places → f ≤ 1022 + n → places ≤ 1075 - f
room places f {n} h e l = go (ordered places 4)
  where
    go : (places ≤ 4) ⊎ (4 < places) → places ≤ 1075 - f
    go (inl k) = let d : n ≡ 49 = e ∙ few-digits places k in omega arith
    go (inr k) = let d : n ≡ 41 = e ∙ fewer_digits places k in omega arith

none : (a b : ℕ) → a ≡ 0 * b + a
none a b = sym (ap (λ (z : ℕ). z + a) (zero-mul b) ∙ zero-add a)

-- Units of a number below 2^(1059 - k) / 2^1074.
module _ (a k : ℕ) (h : k ≤ 6) (l : a < 2 ^ (1059 - k)) where
  scaled : a * 2 ^ k < 2 ^ 1059
  scaled =
      let e : 1059 - k + k ≡ 1059 = omega arith in
      lt_of_lt_of_le (mul-lt-mul_of_pos_right l (pow_pos k)) (le_of_eq (sym (pow-add 2 (1059 - k) k) ∙ ap (λ (z : ℕ). 2 ^ z) e))

  tens : 10 ^ k * a ≡ 5 ^ k * (a * 2 ^ k)
  tens = ap (λ (z : ℕ). z * a) (ten_is k) ∙ simp (mul_assoc, mul_comm, mul_left_comm)

  pub tiny : 10 ^ k * a * 2 < 2 ^ 1074
  tiny =
      let t : 5 ^ k * (a * 2 ^ k) ≤ 15625 * (a * 2 ^ k) = mul-le-mul_right (a * 2 ^ k) (five_most k h) in
      bound (10 ^ k * a) (a * 2 ^ k) (2 ^ 1059) (2 ^ 1074) (le_trans (le_of_eq tens) t) scaled refl
    where
      bound : (u v p c : ℕ) → u ≤ 15625 * v → v < p → c ≡ 32768 * p → u * 2 < c
      bound u v p c e g q = omega arith

-- Powers of two against the least and the most that 53 binary digits make.
least : (d n : ℕ) → n ≤ 52 → 2 ^ n ≤ 2 ^ 52 + d
least d n h = le_trans (pow_mono h) (le-add_right (2 ^ 52) d)

above : (d n j : ℕ) → n + j ≤ 52 → 2 ^ n * 2 ^ j ≤ 2 ^ 52 + d
above d n j h = le_trans (le_of_eq (sym (pow-add 2 n j))) (least d (n + j) h)

under : (d n j : ℕ) → d < 2 ^ 52 → 53 ≤ n + j → 2 ^ 52 + d < 2 ^ n * 2 ^ j
under d n j l h = lt_of_lt_of_le (twice l) (le_trans (pow_mono h) (le_of_eq (pow-add 2 n j)))
  where
    twice : d < 2 ^ 52 → 2 ^ 52 + d < 2 ^ 53
    twice l = omega arith

module _ (places : ℕ) (few : places ≤ 6) (x : Float) (p : T (fits binary64 x)) (q : T (finite x)) where
  pub large : {n : ℕ} → n ≡ whole_digits places → 1022 + n < field_of x → None ≡ decimals_of places x
  large {n} e h = go (ordered (field_of x) 1074)
    where
      go : (field_of x ≤ 1074) ⊎ (1074 < field_of x) → None ≡ decimals_of places x
      go (inl l) =
          sym (hidden places x (sign_of x) (2 ^ 52 + digits_of x) (2 ^ (1075 - field_of x)) (pow_pos (1075 - field_of x)) (mid-value x p q (omega arith) l)
          (subst (λ (z : ℕ). 2 ^ z * 2 ^ (1075 - field_of x) ≤ 2 ^ 52 + digits_of x) e (above (digits_of x) n (1075 - field_of x) (omega arith))))
      go (inr l) =
          sym (hidden places x (sign_of x) ((2 ^ 52 + digits_of x) * 2 ^ (field_of x - 1075)) 1 (omega arith) (large-value x p q l)
          (mul-le-mul (subst (λ (z : ℕ). 2 ^ z ≤ 2 ^ 52 + digits_of x) e (least (digits_of x) n (omega (arith, most-digits places e)))) (pow_pos (field_of x - 1075))))

  pub small : {r : Rounded} → field_of x < 1008 - places → r ≡ in_units (sign_of x) places 0 → Some r ≡ decimals_of places x
  small h f =
      let l = low_value x p q (1007 - places) (omega arith) in
      let e : 52 + (1007 - places) ≡ 1059 - places = omega arith in
      let s : l.size < 2 ^ (1059 - places) = subst (λ (z : ℕ). l.size < 2 ^ z) e l.small in
      let b : l.size < 2 ^ whole_digits places * 2 ^ 1074 = lt_of_lt_of_le s (le_trans (pow_mono {i = 1059 - places} {j = whole_digits places + 1074} (omega arith)) (le_of_eq (pow-add 2 (whole_digits places) 1074))) in
      ap Some f
      ∙ sym (shown places few x (sign_of x) l.size (2 ^ 1074) (pow_pos 1074) l.value b
      ∙ ap (λ (z : ℕ). Some (in_units (sign_of x) places z)) (closest_down (10 ^ places * l.size) (2 ^ 1074) 0 (10 ^ places * l.size) (none (10 ^ places * l.size) (2 ^ 1074)) (tiny l.size places few s)))

  -- Tens are twos times fives: the twos go into the divisor.
  fives : (d s : ℕ) → places ≤ s → closest (5 ^ places * (d + 4503599627370496)) (2 ^ (s - places)) ≡ closest (10 ^ places * (2 ^ 52 + d)) (2 ^ s)
  fives d s g =
      closest_same (5 ^ places * (d + 4503599627370496)) (2 ^ (s - places)) (10 ^ places * (2 ^ 52 + d)) (2 ^ s) (pow_pos (s - places)) (pow_pos s)
      (ap (λ (z : ℕ). 5 ^ places * z * 2 ^ s) (add_comm d (2 ^ 52))
      ∙ ap (λ (z : ℕ). 5 ^ places * (2 ^ 52 + d) * z) (ap (λ (z : ℕ). 2 ^ z) parts ∙ pow-add 2 places (s - places))
      ∙ move (2 ^ 52 + d) (5 ^ places) (2 ^ places) (2 ^ (s - places))
      ∙ ap (λ (z : ℕ). z * (2 ^ 52 + d) * 2 ^ (s - places)) (sym (ten_is places)))
    where
      parts : s ≡ places + (s - places)
      parts = omega arith

      move : (v a b w : ℕ) → a * v * (b * w) ≡ b * a * v * w
      move v a b w = simp (mul_assoc, mul_comm, mul_left_comm)

  pub middling : {r : Rounded} {n u : ℕ} → n ≡ whole_digits places → 1008 - places ≤ field_of x → field_of x ≤ 1022 + n
      → u ≡ closest (5 ^ places * (digits_of x + 4503599627370496)) (2 ^ (1075 - field_of x - places)) → r ≡ in_units (sign_of x) places u
      → Some r ≡ decimals_of places x
  middling {n = n} e h k g f =
      let m : n ≤ 49 = most-digits places e in
      ap Some f
      ∙ ap (λ (z : ℕ). Some (in_units (sign_of x) places z)) (g ∙ fives (digits_of x) (1075 - field_of x) (room places (field_of x) few e k))
      ∙ sym (shown places few x (sign_of x) (2 ^ 52 + digits_of x) (2 ^ (1075 - field_of x)) (pow_pos (1075 - field_of x)) (mid-value x p q (omega arith) (omega arith))
      (subst (λ (z : ℕ). 2 ^ 52 + digits_of x < 2 ^ z * 2 ^ (1075 - field_of x)) e (under (digits_of x) n (1075 - field_of x) (omega arith) (omega arith))))

pub ruleset fields = (many, not_finite_lem, no_nan, most-digits, room, shifted-enough, large, small, middling)
