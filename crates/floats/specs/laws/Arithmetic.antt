-- Each operation on finite numbers keeps the order or turns it around. The results may overflow to infinities. Assumes nothing.
use Rattle.std.specs.Prelude.{◌≡◌, refl, Bool, true, false, cond, ℕ, ◌+◌, ◌*◌, ◌≤◌, T, eqb, Float}
use Rattle.std.proofs.Common.{ap, mul-pos, mul_comm as times-comm, mul_assoc, mul_left_comm, add-mul, mul-le-mul_right, mul-zero, add-zero, zero-add, arith}
use Rattle.std.specs.Float.{nan, inf, fin, Format}
use Rattle.std.specs.Float.Ieee.{up, down, unlike, neg, add, sub, mul, div, lt, le}
use Rattle.std.specs.Float.Ieee.Scale.{finite}
use Rattle.std.specs.Float.Ieee.Positive.{den, den_pos}
use Rattle.floats.specs.laws.Fractions.{pl, mi, leq_of_le}
use Rattle.floats.specs.Answers.{plus_zero}
use Rattle.floats.specs.laws.Order.{number_of-finite, le_refl, le_trans, neg_anti}
use Rattle.floats.specs.laws.Rounding.{rounds-mono}
use Rattle.floats.specs.laws.Exactly.{add_rounds, mul-rounds, div-rounds, mi_of_above, pl_of_below, pl_of_positive}

-- ---- the sum
sum-cross : (p m a p' m' a' q n b q' n' b' : ℕ) → p * a' + m' * a ≤ p' * a + m * a' → q * b' + n' * b ≤ q' * b + n * b'
    → (p * b + q * a) * (a' * b') + (m' * b' + n' * a') * (a * b) ≤ (p' * b' + q' * a') * (a * b) + (m * b + n * a) * (a' * b')
sum-cross p m a p' m' a' q n b q' n' b' h k =
    let h' = simp (add-mul, mul_assoc, times-comm) at (mul-le-mul_right (b * b') h) in
    let k' = simp (add-mul, mul_assoc, times-comm, mul_left_comm) at (mul-le-mul_right (a * a') k) in
    simp (add-mul, mul_assoc, times-comm, mul_left_comm) (omega arith)

pub add-mono : (f : Format) (x x' y y' : Float) → T (finite x) → T (finite x') → T (finite y) → T (finite y') → T (le x x') → T (le y y') → T (le (add f x y) (add f x' y'))
add-mono f x x' y y' p p' q q' h k =
    rounds-mono (mul-pos (den_pos x) (den_pos y)) (mul-pos (den_pos x') (den_pos y')) (add_rounds f x y p q) (add_rounds f x' y' p' q')
    (sum-cross (pl x) (mi x) (den x) (pl x') (mi x') (den x') (pl y) (mi y) (den y) (pl y') (mi y') (den y') (leq_of_le x x' p p' h).holds (leq_of_le y y' q q' k).holds)

pub add_mono_left : (f : Format) (x x' y : Float) → T (finite x) → T (finite x') → T (finite y) → T (le x x') → T (le (add f x y) (add f x' y))
add_mono_left f x x' y p p' q h = add-mono f x x' y y p p' q q h (le_refl y (number_of-finite y q))

pub add_mono_right : (f : Format) (x y y' : Float) → T (finite x) → T (finite y) → T (finite y') → T (le y y') → T (le (add f x y) (add f x y'))
add_mono_right f x y y' p q q' k = add-mono f x x y y' p p q q' (le_refl x (number_of-finite x p)) k

-- ---- the difference: it grows with x and falls as y grows
pub neg-finite : (x : Float) → T (finite x) → T (finite (neg x))
unfolding neg
neg-finite nan h = h
neg-finite (inf s) h = h
neg-finite (fin s m e) h = tt

pub sub-mono : (f : Format) (x x' y y' : Float) → T (finite x) → T (finite x') → T (finite y) → T (finite y') → T (le x x') → T (le y' y) → T (le (sub f x y) (sub f x' y'))
unfolding sub
sub-mono f x x' y y' p p' q q' h k = add-mono f x x' (neg y) (neg y') p p' (neg-finite y q) (neg-finite y' q') h (neg_anti y' y k)

pub sub_mono_left : (f : Format) (x x' y : Float) → T (finite x) → T (finite x') → T (finite y) → T (le x x') → T (le (sub f x y) (sub f x' y))
sub_mono_left f x x' y p p' q h = sub-mono f x x' y y p p' q q h (le_refl y (number_of-finite y q))

pub sub_anti_right : (f : Format) (x y y' : Float) → T (finite x) → T (finite y) → T (finite y') → T (le y y') → T (le (sub f x y') (sub f x y))
sub_anti_right f x y y' p q q' k = sub-mono f x x y' y p p q' q (le_refl x (number_of-finite x p)) k

-- ---- the product, by a factor that is not negative, and by one that is not positive
-- the factor y is q / b, and -n / b
times-cross : (p m a p' m' a' q n b : ℕ) → n ≡ 0 → p * a' + m' * a ≤ p' * a + m * a'
    → (p * q + m * n) * (a' * b) + (p' * n + m' * q) * (a * b) ≤ (p' * q + m' * n) * (a * b) + (p * n + m * q) * (a' * b)
times-cross p m a p' m' a' q n b e h =
    let h' = simp (add-mul, mul_assoc, times-comm) at (mul-le-mul_right (q * b) h) in
    rw e (simp (mul-zero, add-zero, zero-add, mul_assoc, mul_left_comm) (omega arith))

times_cross' : (p m a p' m' a' q n b : ℕ) → q ≡ 0 → p * a' + m' * a ≤ p' * a + m * a'
    → (p' * q + m' * n) * (a * b) + (p * n + m * q) * (a' * b) ≤ (p * q + m * n) * (a' * b) + (p' * n + m' * q) * (a * b)
times_cross' p m a p' m' a' q n b e h =
    let h' = simp (add-mul, mul_assoc, times-comm) at (mul-le-mul_right (n * b) h) in
    rw e (simp (mul-zero, add-zero, zero-add, mul_assoc, mul_left_comm) (omega arith))

pub mul_mono_left : (f : Format) (x x' y : Float) → T (finite x) → T (finite x') → T (finite y) → T (le plus_zero y) → T (le x x') → T (le (mul f x y) (mul f x' y))
mul_mono_left f x x' y p p' q z h =
    rounds-mono (mul-pos (den_pos x) (den_pos y)) (mul-pos (den_pos x') (den_pos y)) (mul-rounds f x y p q) (mul-rounds f x' y p' q)
    (times-cross (pl x) (mi x) (den x) (pl x') (mi x') (den x') (pl y) (mi y) (den y) (mi_of_above y q z) (leq_of_le x x' p p' h).holds)

pub mul_anti_left : (f : Format) (x x' y : Float) → T (finite x) → T (finite x') → T (finite y) → T (le y plus_zero) → T (le x x') → T (le (mul f x' y) (mul f x y))
mul_anti_left f x x' y p p' q z h =
    rounds-mono (mul-pos (den_pos x') (den_pos y)) (mul-pos (den_pos x) (den_pos y)) (mul-rounds f x' y p' q) (mul-rounds f x y p q)
    (times_cross' (pl x) (mi x) (den x) (pl x') (mi x') (den x') (pl y) (mi y) (den y) (pl_of_below y q z) (leq_of_le x x' p p' h).holds)

unlike_comm : (s t : Bool) → unlike s t ≡ unlike t s
unlike_comm true true = refl
unlike_comm true false = refl
unlike_comm false true = refl
unlike_comm false false = refl

pub mul_comm : (f : Format) (x y : Float) → mul f x y ≡ mul f y x
unfolding mul
mul_comm f nan nan = refl
mul_comm f nan (inf t) = refl
mul_comm f nan (fin t n d) = refl
mul_comm f (inf s) nan = refl
mul_comm f (inf s) (inf t) = ap inf (unlike_comm s t)
mul_comm f (inf s) (fin t n d) = ap (λ (u : Bool). cond (eqb n 0) nan (inf u)) (unlike_comm s t)
mul_comm f (fin s m e) nan = refl
mul_comm f (fin s m e) (inf t) = ap (λ (u : Bool). cond (eqb m 0) nan (inf u)) (unlike_comm s t)
mul_comm f (fin s m e) (fin t n d) = cc (unlike_comm s t, times-comm (m * up e) (n * up d), times-comm (down e) (down d))

pub mul_mono_right : (f : Format) (x y y' : Float) → T (finite x) → T (finite y) → T (finite y') → T (le plus_zero x) → T (le y y') → T (le (mul f x y) (mul f x y'))
mul_mono_right f x y y' p q q' z h = rw (mul_comm f x y, mul_comm f x y') (mul_mono_left f y y' x q q' p z h)

pub mul_anti_right : (f : Format) (x y y' : Float) → T (finite x) → T (finite y) → T (finite y') → T (le x plus_zero) → T (le y y') → T (le (mul f x y') (mul f x y))
mul_anti_right f x y y' p q q' z h = rw (mul_comm f x y, mul_comm f x y') (mul_anti_left f y y' x q q' p z h)

-- both factors grow, and neither is negative
pub mul_mono : (f : Format) (x x' y y' : Float) → T (finite x) → T (finite x') → T (finite y) → T (finite y') → T (le plus_zero x) → T (le plus_zero y) → T (le x x') → T (le y y') → T (le (mul f x y) (mul f x' y'))
mul_mono f x x' y y' p p' q q' z w h k =
    le_trans (mul f x y) (mul f x' y) (mul f x' y') (mul_mono_left f x x' y p p' q w h) (mul_mono_right f x' y y' p' q q' (le_trans plus_zero x x' z h) k)

-- ---- the quotient by a divisor above 0
over-cross : (p m a p' m' a' q b : ℕ) → p * a' + m' * a ≤ p' * a + m * a' → p * b * (q * a') + m' * b * (q * a) ≤ p' * b * (q * a) + m * b * (q * a')
over-cross p m a p' m' a' q b h =
    let h' = simp (add-mul, mul_assoc, times-comm) at (mul-le-mul_right (b * q) h) in
    simp (mul_assoc, times-comm, mul_left_comm) (omega arith)

pub div_mono_left : (f : Format) (x x' y : Float) → T (finite x) → T (finite x') → T (finite y) → T (lt plus_zero y) → T (le x x') → T (le (div f x y) (div f x' y))
div_mono_left f x x' y p p' q z h =
    let Y = pl_of_positive y q z in
    rounds-mono (mul-pos Y (den_pos x)) (mul-pos Y (den_pos x')) (div-rounds f x y p q z) (div-rounds f x' y p' q z)
    (over-cross (pl x) (mi x) (den x) (pl x') (mi x') (den x') (pl y) (den y) (leq_of_le x x' p p' h).holds)
