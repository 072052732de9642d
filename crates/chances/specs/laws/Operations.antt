-- Each operation in units of the smallest double: what the result's count is near. Assumes nothing.
use Rattle.std.specs.Prelude.{◌≡◌, Bool, true, false, ℕ, ◌+◌, ◌-◌, ◌*◌, ◌^◌, ◌<◌, ℤ, T, Float}
use Rattle.std.proofs.Common.{sym, ap, ◌∙◌, subst, mul_assoc, mul_comm, mul_left_comm, mul_right_comm, mul-one, mul-pos, add-mul, arith}
use Rattle.std.proofs.Math.Nat.{mul-sub, mul-mul-mul_comm}
use Rattle.std.specs.Float.{fin, binary64}
use Rattle.std.specs.Float.Ieee.{add, sub, mul, div, le, lt}
use Rattle.std.specs.Float.Ieee.Positive.{num, den, den_pos}
use Rattle.std.specs.Float.Ieee.Scale.{finite}
use Rattle.floats.specs.Answers.{plus_zero}
use Rattle.floats.specs.laws.Fractions.{pl, mi, on_finite}
use Rattle.floats.specs.laws.Order.{le_of_lt}
use Rattle.floats.specs.laws.Exactly.{add_rounds, sub-rounds, mul-rounds, div-rounds, mi_of_above, pl_of_below, pl_of_positive}
use Rattle.lattice.specs.laws.Shares.{size-parts, pl_of_above}
use Rattle.chances.specs.laws.Near.{Counts, Makes, makes_same, apart, rounds_makes}

-- ---- the product
cross : (a X p b Y q u : ℕ) → a * u ≡ X * p → b * u ≡ Y * q → a * b * u * u ≡ X * Y * (p * q)
cross a X p b Y q u h k = mul_assoc (a * b) u u ∙ mul-mul-mul_comm a b u u ∙ ap (λ (z : ℕ). z * (b * u)) h ∙ ap (λ (z : ℕ). X * p * z) k ∙ mul-mul-mul_comm X p Y q

product-apart : (x y : Float) → T (finite x) → T (finite y) → apart (pl x * pl y + mi x * mi y) (pl x * mi y + mi x * pl y) ≡ num x * num y
product-apart = on_finite (λ (x y : Float). apart (pl x * pl y + mi x * mi y) (pl x * mi y + mi x * pl y) ≡ num x * num y) go
  where
    go : (s : Bool) (m : ℕ) (e : ℤ) (t : Bool) (n : ℕ) (d : ℤ) → apart (pl (fin s m e) * pl (fin t n d) + mi (fin s m e) * mi (fin t n d)) (pl (fin s m e) * mi (fin t n d) + mi (fin s m e) * pl (fin t n d)) ≡ num (fin s m e) * num (fin t n d)
    go false m e false n d = omega arith
    go false m e true n d = omega arith
    go true m e false n d = omega arith
    go true m e true n d = omega arith

pub mul_raw : (x y : Float) → T (finite x) → T (finite y) → T (finite (mul binary64 x y)) → Makes (mul binary64 x y) (num x * num y * 2 ^ 1074) (den x * den y)
mul_raw x y p q f =
    subst (λ (z : ℕ). Makes (mul binary64 x y) (z * 2 ^ 1074) (den x * den y)) (product-apart x y p q)
    (rounds_makes (mul binary64 x y) (pl x * pl y + mi x * mi y) (pl x * mi y + mi x * pl y) (den x * den y) (mul-pos (den_pos x) (den_pos y)) (mul-rounds binary64 x y p q) f)

pub mul_makes : (x y : Float) (X Y : ℕ) → Counts x X → Counts y Y → T (finite (mul binary64 x y)) → Makes (mul binary64 x y) (X * Y) (2 ^ 1074)
mul_makes x y X Y p q f =
    makes_same (mul binary64 x y) (num x * num y * 2 ^ 1074) (den x * den y) (X * Y) (2 ^ 1074) (mul-pos (den_pos x) (den_pos y))
    (cross (num x) X (den x) (num y) Y (den y) (2 ^ 1074) p.units q.units)
    (mul_raw x y p.is_finite q.is_finite f)

-- by a whole number
pub mul_whole_makes : (x y : Float) (X n : ℕ) → Counts x X → T (finite y) → num y ≡ n * den y → T (finite (mul binary64 x y)) → Makes (mul binary64 x y) (X * n) 1
mul_whole_makes x y X n p q e f =
    makes_same (mul binary64 x y) (num x * num y * 2 ^ 1074) (den x * den y) (X * n) 1 (mul-pos (den_pos x) (den_pos y))
    (mul-one (num x * num y * 2 ^ 1074) ∙ mul_right_comm (num x) (num y) (2 ^ 1074) ∙ ap (λ (z : ℕ). z * num y) p.units ∙ ap (λ (z : ℕ). X * den x * z) e ∙ mul-mul-mul_comm X (den x) n (den y))
    (mul_raw x y p.is_finite q f)

-- ---- the quotient by a number above 0
quotient-apart : (x y : Float) → T (finite x) → T (finite y) → apart (pl x * den y) (mi x * den y) ≡ num x * den y
quotient-apart = on_finite (λ (x y : Float). apart (pl x * den y) (mi x * den y) ≡ num x * den y) go
  where
    go : (s : Bool) (m : ℕ) (e : ℤ) (t : Bool) (n : ℕ) (d : ℤ) → apart (pl (fin s m e) * den (fin t n d)) (mi (fin s m e) * den (fin t n d)) ≡ num (fin s m e) * den (fin t n d)
    go false m e t n d = omega arith
    go true m e t n d = omega arith

mi_of_below : (x : Float) → T (finite x) → T (le x plus_zero) → mi x ≡ num x
mi_of_below x f h = let a = size-parts x f in let b = pl_of_below x f h in omega arith

-- a × q × u × Y ≡ X × u × (b × p), for a × u ≡ X × p and b × u ≡ Y × q
over-cross : (a X p b Y q u : ℕ) → a * u ≡ X * p → b * u ≡ Y * q → a * q * u * Y ≡ X * u * (b * p)
over-cross a X p b Y q u h k =
    ap (λ (z : ℕ). z * Y) (mul_right_comm a q u ∙ ap (λ (z : ℕ). z * q) h)
    ∙ simp (mul_assoc, mul_comm, mul_left_comm) (simp mul_assoc at (ap (λ (z : ℕ). X * p * z) (sym k)))

pub div_makes : (x y : Float) (X Y : ℕ) → Counts x X → Counts y Y → T (lt plus_zero y) → T (finite (div binary64 x y)) → Makes (div binary64 x y) (X * 2 ^ 1074) Y
div_makes x y X Y p q z f =
    let n : pl y ≡ num y = pl_of_above y q.is_finite (le_of_lt plus_zero y z) in
    let pos : 0 < num y * den x = mul-pos (subst (λ (k : ℕ). 0 < k) n (pl_of_positive y q.is_finite z)) (den_pos x) in
    makes_same (div binary64 x y) (num x * den y * 2 ^ 1074) (num y * den x) (X * 2 ^ 1074) Y pos
    (over-cross (num x) X (den x) (num y) Y (den y) (2 ^ 1074) p.units q.units)
    (subst (λ (k : ℕ). Makes (div binary64 x y) (num x * den y * 2 ^ 1074) (k * den x)) n
    (subst (λ (k : ℕ). Makes (div binary64 x y) (k * 2 ^ 1074) (pl y * den x)) (quotient-apart x y p.is_finite q.is_finite)
    (rounds_makes (div binary64 x y) (pl x * den y) (mi x * den y) (pl y * den x) (mul-pos (pl_of_positive y q.is_finite z) (den_pos x)) (div-rounds binary64 x y p.is_finite q.is_finite z) f)))

-- ---- the sum of two that are not below 0
pub add_makes : (x y : Float) (X Y : ℕ) → Counts x X → Counts y Y → T (le plus_zero x) → T (le plus_zero y) → T (finite (add binary64 x y)) → Makes (add binary64 x y) (X + Y) 1
add_makes x y X Y p q h k f =
    let a : apart (pl x * den y + pl y * den x) (mi x * den y + mi y * den x) ≡ num x * den y + num y * den x =
    rw (mi_of_above x p.is_finite h, mi_of_above y q.is_finite k, pl_of_above x p.is_finite h, pl_of_above y q.is_finite k) (omega arith)
    in
    makes_same (add binary64 x y) ((num x * den y + num y * den x) * 2 ^ 1074) (den x * den y) (X + Y) 1 (mul-pos (den_pos x) (den_pos y))
    (gather (num x) X (den x) (num y) Y (den y) (2 ^ 1074) p.units q.units)
    (subst (λ (z : ℕ). Makes (add binary64 x y) (z * 2 ^ 1074) (den x * den y)) a
    (rounds_makes (add binary64 x y) (pl x * den y + pl y * den x) (mi x * den y + mi y * den x) (den x * den y) (mul-pos (den_pos x) (den_pos y)) (add_rounds binary64 x y p.is_finite q.is_finite) f))
  where
    gather : (a X p b Y q u : ℕ) → a * u ≡ X * p → b * u ≡ Y * q → (a * q + b * p) * u * 1 ≡ (X + Y) * (p * q)
    gather a X p b Y q u h k = omega (arith, ap (λ (z : ℕ). z * q) h, ap (λ (z : ℕ). z * p) k)

-- ---- the difference of two on one side of 0
apart-scale : (a b u : ℕ) → apart a b * u ≡ apart (a * u) (b * u)
apart-scale a b u = add-mul (a - b) (b - a) u ∙ ap (λ (z : ℕ). z + (b - a) * u) (times a b) ∙ ap (λ (z : ℕ). a * u - b * u + z) (times b a)
  where
    times : (x y : ℕ) → (x - y) * u ≡ x * u - y * u
    times x y = mul_comm (x - y) u ∙ mul-sub u x y ∙ ap (λ (z : ℕ). z - u * y) (mul_comm u x) ∙ ap (λ (z : ℕ). x * u - z) (mul_comm u y)

pub data OneSide (x y : Float) : Type 0 where
  above_both : T (le plus_zero x) → T (le plus_zero y) → OneSide x y
  below_both : T (le x plus_zero) → T (le y plus_zero) → OneSide x y

difference-apart : (x y : Float) → T (finite x) → T (finite y) → OneSide x y → apart (pl x * den y + mi y * den x) (mi x * den y + pl y * den x) ≡ apart (num x * den y) (num y * den x)
difference-apart x y p q (above_both h k) = rw (mi_of_above x p h, mi_of_above y q k, pl_of_above x p h, pl_of_above y q k) (omega arith)
difference-apart x y p q (below_both h k) = rw (pl_of_below x p h, pl_of_below y q k, mi_of_below x p h, mi_of_below y q k) (omega arith)

pub sub_makes : (x y : Float) (X Y : ℕ) → Counts x X → Counts y Y → OneSide x y → T (finite (sub binary64 x y)) → Makes (sub binary64 x y) (apart X Y) 1
sub_makes x y X Y p q o f =
    makes_same (sub binary64 x y) (apart (num x * den y) (num y * den x) * 2 ^ 1074) (den x * den y) (apart X Y) 1 (mul-pos (den_pos x) (den_pos y))
    (mul-one _ ∙ apart-scale (num x * den y) (num y * den x) (2 ^ 1074) ∙ (λ i. apart (left i) (right i)) ∙ sym (apart-scale X Y (den x * den y)))
    (subst (λ (z : ℕ). Makes (sub binary64 x y) (z * 2 ^ 1074) (den x * den y)) (difference-apart x y p.is_finite q.is_finite o)
    (rounds_makes (sub binary64 x y) (pl x * den y + mi y * den x) (mi x * den y + pl y * den x) (den x * den y) (mul-pos (den_pos x) (den_pos y)) (sub-rounds binary64 x y p.is_finite q.is_finite) f))
  where
    left : num x * den y * 2 ^ 1074 ≡ X * (den x * den y)
    left = mul_right_comm (num x) (den y) (2 ^ 1074) ∙ ap (λ (z : ℕ). z * den y) p.units ∙ mul_assoc X (den x) (den y)

    right : num y * den x * 2 ^ 1074 ≡ Y * (den x * den y)
    right = mul_right_comm (num y) (den x) (2 ^ 1074) ∙ ap (λ (z : ℕ). z * den x) q.units ∙ mul_assoc Y (den y) (den x) ∙ ap (λ (z : ℕ). Y * z) (mul_comm (den y) (den x))
