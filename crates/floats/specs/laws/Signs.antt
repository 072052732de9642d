-- What an operation on finite numbers gives: a number, never nan, and its sign by the signs of the operands. Assumes nothing.
use Rattle.std.specs.Prelude.{◌≡◌, Bool, true, false, not, cond, ℕ, ◌*◌, ◌≤◌, ◌<◌, ℤ, T, eqb, Float}
use Rattle.std.proofs.Common.{sym, mul-pos, zero-mul, arith, eqb→eq, T_not, lit<}
use Rattle.std.proofs.Math.Dec.{not_T}
use Rattle.std.specs.Float.{nan, inf, fin, Format}
use Rattle.std.specs.Float.Ieee.{up, down, unlike, round, add, sub, mul, div, eq, lt, le, of_bits}
use Rattle.std.specs.Float.Ieee.Scale.{finite}
use Rattle.std.specs.Float.Ieee.Positive.{den_pos}
use Rattle.floats.specs.laws.Fractions.{on_finite, leq_of_le, eq_of_leq}
use Rattle.floats.specs.Answers.{plus_zero}
use Rattle.floats.specs.laws.Order.{number, le_of_eq, not_le_of_lt}
use Rattle.floats.specs.laws.Rounding.{Rounds, above, rounds-mono, round-zero, round-signed, number_of-rounds, number_of-signed}
use Rattle.floats.specs.laws.Exactly.{add_rounds, sub-rounds, mul-rounds, div-rounds, left, mi_of_above, pl_of_below, pl_of_positive}

-- ---- never nan
pub number_of-add : (f : Format) (x y : Float) → T (finite x) → T (finite y) → T (number (add f x y))
number_of-add f x y p q = number_of-rounds (add_rounds f x y p q)

pub number_of-sub : (f : Format) (x y : Float) → T (finite x) → T (finite y) → T (number (sub f x y))
number_of-sub f x y p q = number_of-rounds (sub-rounds f x y p q)

pub number_of-mul : (f : Format) (x y : Float) → T (finite x) → T (finite y) → T (number (mul f x y))
number_of-mul f x y p q = number_of-rounds (mul-rounds f x y p q)

zero_eq : (t : Bool) (n : ℕ) (d : ℤ) → n ≡ 0 → T (eq (fin t n d) plus_zero)
unfolding of_bits
zero_eq false n d e = let z : n * up d ≡ 0 = rw e (zero-mul (up d)) in eq_of_leq (fin false n d) plus_zero tt tt (record { holds = omega arith }) (record { holds = omega arith })
zero_eq true n d e = let z : n * up d ≡ 0 = rw e (zero-mul (up d)) in eq_of_leq (fin true n d) plus_zero tt tt (record { holds = omega arith }) (record { holds = omega arith })

div-number : (f : Format) (s : Bool) (m : ℕ) (e : ℤ) (t : Bool) (n : ℕ) (d : ℤ) → T (not (eq (fin t n d) plus_zero)) → T (number (div f (fin s m e) (fin t n d)))
unfolding div
div-number f s m e t n d h =
    let r = round f (unlike s t) (m * up e * down d) (n * up d * down e) in
    rw (left (eqb n 0) (cond (eqb m 0) nan (inf (unlike s t))) r (λ (k : T (eqb n 0)). T_not (eq (fin t n d) plus_zero) h (zero_eq t n d (eqb→eq n 0 k))))
    (number_of-signed (unlike s t) r (round-signed f (unlike s t) (m * up e * down d) (n * up d * down e)))

pub number_of-div : (f : Format) (x y : Float) → T (finite x) → T (finite y) → T (not (eq y plus_zero)) → T (number (div f x y))
number_of-div f = λ x y p q. on_finite (λ (a b : Float). T (not (eq b plus_zero)) → T (number (div f a b))) (div-number f) x y p q

pub nonzero_of_positive : (y : Float) → T (lt plus_zero y) → T (not (eq y plus_zero))
nonzero_of_positive y h = not_T (eq y plus_zero) (λ (e : T (eq y plus_zero)). not_le_of_lt plus_zero y h (le_of_eq y plus_zero e))

-- ---- at or above 0, and at or below 0
zero-rounds : (f : Format) → Rounds f plus_zero 0 0 1
unfolding of_bits
zero-rounds f = above (omega arith) (sym (round-zero f false 1 (lit< tt)))

above_zero : {f : Format} {x : Float} {p n c : ℕ} → 0 < c → Rounds f x p n c → n ≤ p → T (le plus_zero x)
above_zero {f} C r h = rounds-mono (lit< tt) C (zero-rounds f) r (omega arith)

below-zero : {f : Format} {x : Float} {p n c : ℕ} → 0 < c → Rounds f x p n c → p ≤ n → T (le x plus_zero)
below-zero {f} C r h = rounds-mono C (lit< tt) r (zero-rounds f) (omega arith)

pub add-above : (f : Format) (x y : Float) → T (finite x) → T (finite y) → T (le plus_zero x) → T (le plus_zero y) → T (le plus_zero (add f x y))
add-above f x y p q h k = above_zero (mul-pos (den_pos x) (den_pos y)) (add_rounds f x y p q) (rw (mi_of_above x p h, mi_of_above y q k) (omega arith))

pub mul-above : (f : Format) (x y : Float) → T (finite x) → T (finite y) → T (le plus_zero x) → T (le plus_zero y) → T (le plus_zero (mul f x y))
mul-above f x y p q h k = above_zero (mul-pos (den_pos x) (den_pos y)) (mul-rounds f x y p q) (rw (mi_of_above x p h, mi_of_above y q k) (omega arith))

pub mul-below : (f : Format) (x y : Float) → T (finite x) → T (finite y) → T (le x plus_zero) → T (le plus_zero y) → T (le (mul f x y) plus_zero)
mul-below f x y p q h k = below-zero (mul-pos (den_pos x) (den_pos y)) (mul-rounds f x y p q) (rw (pl_of_below x p h, mi_of_above y q k) (omega arith))

pub mul_both_below : (f : Format) (x y : Float) → T (finite x) → T (finite y) → T (le x plus_zero) → T (le y plus_zero) → T (le plus_zero (mul f x y))
mul_both_below f x y p q h k = above_zero (mul-pos (den_pos x) (den_pos y)) (mul-rounds f x y p q) (rw (pl_of_below x p h, pl_of_below y q k) (omega arith))

pub div-above : (f : Format) (x y : Float) → T (finite x) → T (finite y) → T (le plus_zero x) → T (lt plus_zero y) → T (le plus_zero (div f x y))
div-above f x y p q h k = above_zero (mul-pos (pl_of_positive y q k) (den_pos x)) (div-rounds f x y p q k) (rw (mi_of_above x p h) (omega arith))

pub div_below : (f : Format) (x y : Float) → T (finite x) → T (finite y) → T (le x plus_zero) → T (lt plus_zero y) → T (le (div f x y) plus_zero)
div_below f x y p q h k = below-zero (mul-pos (pl_of_positive y q k) (den_pos x)) (div-rounds f x y p q k) (rw (pl_of_below x p h) (omega arith))

-- a difference has the sign that the order of its operands says
pub sub-above : (f : Format) (x y : Float) → T (finite x) → T (finite y) → T (le y x) → T (le plus_zero (sub f x y))
sub-above f x y p q h = let l = leq_of_le y x q p h in above_zero (mul-pos (den_pos x) (den_pos y)) (sub-rounds f x y p q) (omega arith)

pub sub-below : (f : Format) (x y : Float) → T (finite x) → T (finite y) → T (le x y) → T (le (sub f x y) plus_zero)
sub-below f x y p q h = let l = leq_of_le x y p q h in below-zero (mul-pos (den_pos x) (den_pos y)) (sub-rounds f x y p q) (omega arith)
