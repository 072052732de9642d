-- What each operation rounds: the sum, the product and the quotient of finite numbers as one fraction, whatever the signs. Assumes nothing.
use Rattle.std.specs.Prelude.{◌≡◌, refl, Bool, true, false, not, ◌&&◌, cond, ℕ, ◌+◌, ◌-◌, ◌*◌, ◌≤◌, ◌<◌, ℤ, T, ltb, eqb, Float}
use Rattle.std.proofs.Common.{ap, ◌∙◌, subst, lt_irrefl, zero-mul, arith, ltb→lt, nltb→le, eqb→eq}
use Rattle.std.specs.Float.{nan, inf, fin, Format}
use Rattle.std.specs.Float.Ieee.{up, down, round, sum, neg, add, sub, mul, div, of_bits, lt, le}
use Rattle.std.specs.Float.Ieee.Scale.{finite}
use Rattle.std.specs.Float.Ieee.Positive.{den}
use Rattle.floats.specs.laws.Fractions.{pl, mi, on_finite, leq_of_le, less_of_lt}
use Rattle.floats.specs.Answers.{plus_zero}
use Rattle.floats.specs.laws.Rounding.{Rounds, above, under}

rounds_up : (f : Format) (a p n c : ℕ) → p ≡ n + a → Rounds f (round f false a c) p n c
rounds_up f a p n c e = above (omega arith) (ap (λ (z : ℕ). round f false z c) (gain a p n e))
  where
    gain : (a p n : ℕ) → p ≡ n + a → a ≡ p - n
    gain a p n e = omega arith

rounds_down : (f : Format) (a p n c : ℕ) → n ≡ p + a → Rounds f (round f true a c) p n c
rounds_down f a p n c e = under (omega arith) (ap (λ (z : ℕ). round f true z c) (gain a p n e))
  where
    gain : (a p n : ℕ) → n ≡ p + a → a ≡ n - p
    gain a p n e = omega arith

-- ---- the sum
-- a / c - b / c, and -a / c + b / c
difference : (f : Format) (a b c p n : ℕ) → p ≡ a → n ≡ b → Rounds f (sum f false a true b c) p n c
unfolding sum
difference f a b c p n e g = go (ltb a b) (ltb→lt a b) (nltb→le a b)
  where
    go : (t : Bool) → (T t → a < b) → (T (not t) → b ≤ a) → Rounds f (cond t (round f true (b - a) c) (round f false (a - b) c)) p n c
    go true h k = let l = h tt in rounds_down f (b - a) p n c (omega arith)
    go false h k = let l = k tt in rounds_up f (a - b) p n c (omega arith)

difference' : (f : Format) (a b c p n : ℕ) → p ≡ b → n ≡ a → Rounds f (sum f true a false b c) p n c
unfolding sum
difference' f a b c p n e g = go (ltb a b) (ltb b a) (ltb→lt a b) (nltb→le a b) (nltb→le b a)
  where
    go : (t u : Bool) → (T t → a < b) → (T (not t) → b ≤ a) → (T (not u) → a ≤ b) → Rounds f (cond t (round f false (b - a) c) (round f (true && u) (a - b) c)) p n c
    go true u h k o = let l = h tt in rounds_up f (b - a) p n c (omega arith)
    go false true h k o = let l = k tt in rounds_down f (a - b) p n c (omega arith)
    go false false h k o = let l = k tt in let r = o tt in rounds_up f (a - b) p n c (omega arith)

-- z is x + y, rounded
abbrev pub IsSum : Format → Float → Float → Float → Type 0
IsSum f x y z = Rounds f z (pl x * den y + pl y * den x) (mi x * den y + mi y * den x) (den x * den y)

add-fin : (f : Format) (s : Bool) (m : ℕ) (e : ℤ) (t : Bool) (n : ℕ) (d : ℤ) → IsSum f (fin s m e) (fin t n d) (add f (fin s m e) (fin t n d))
unfolding add
add-fin f false m e false n d = unfold sum in rounds_up f (m * up e * down d + n * up d * down e) _ _ _ (omega arith)
add-fin f false m e true n d = difference f (m * up e * down d) (n * up d * down e) _ _ _ (omega arith) (omega arith)
add-fin f true m e false n d = difference' f (m * up e * down d) (n * up d * down e) _ _ _ (omega arith) (omega arith)
add-fin f true m e true n d = unfold sum in rounds_down f (m * up e * down d + n * up d * down e) _ _ _ (omega arith)

pub add_rounds : (f : Format) (x y : Float) → T (finite x) → T (finite y) → IsSum f x y (add f x y)
add_rounds f = on_finite (λ (x y : Float). IsSum f x y (add f x y)) (add-fin f)

-- ---- the difference
-- z is x - y, rounded
abbrev pub IsDifference : Format → Float → Float → Float → Type 0
IsDifference f x y z = Rounds f z (pl x * den y + mi y * den x) (mi x * den y + pl y * den x) (den x * den y)

sub-fin : (f : Format) (s : Bool) (m : ℕ) (e : ℤ) (t : Bool) (n : ℕ) (d : ℤ) → IsDifference f (fin s m e) (fin t n d) (sub f (fin s m e) (fin t n d))
unfolding sub neg
sub-fin f s m e false n d = add-fin f s m e true n d
sub-fin f s m e true n d = add-fin f s m e false n d

pub sub-rounds : (f : Format) (x y : Float) → T (finite x) → T (finite y) → IsDifference f x y (sub f x y)
sub-rounds f = on_finite (λ (x y : Float). IsDifference f x y (sub f x y)) (sub-fin f)

-- ---- the product
-- z is x * y, rounded
abbrev pub IsProduct : Format → Float → Float → Float → Type 0
IsProduct f x y z = Rounds f z (pl x * pl y + mi x * mi y) (pl x * mi y + mi x * pl y) (den x * den y)

mul-fin : (f : Format) (s : Bool) (m : ℕ) (e : ℤ) (t : Bool) (n : ℕ) (d : ℤ) → IsProduct f (fin s m e) (fin t n d) (mul f (fin s m e) (fin t n d))
unfolding mul
mul-fin f false m e false n d = rounds_up f (m * up e * (n * up d)) _ _ _ (omega arith)
mul-fin f false m e true n d = rounds_down f (m * up e * (n * up d)) _ _ _ (omega arith)
mul-fin f true m e false n d = rounds_down f (m * up e * (n * up d)) _ _ _ (omega arith)
mul-fin f true m e true n d = rounds_up f (m * up e * (n * up d)) _ _ _ (omega arith)

pub mul-rounds : (f : Format) (x y : Float) → T (finite x) → T (finite y) → IsProduct f x y (mul f x y)
mul-rounds f = on_finite (λ (x y : Float). IsProduct f x y (mul f x y)) (mul-fin f)

-- ---- the sign of a finite number
pub mi_of_above : (y : Float) → T (finite y) → T (le plus_zero y) → mi y ≡ 0
unfolding of_bits
mi_of_above nan q h = absurd q
mi_of_above (inf t) q h = absurd q
mi_of_above (fin false n d) q h = refl
mi_of_above (fin true n d) q h = let l = leq_of_le plus_zero (fin true n d) tt tt h in omega (arith, l.holds)

pub pl_of_below : (y : Float) → T (finite y) → T (le y plus_zero) → pl y ≡ 0
unfolding of_bits
pl_of_below nan q h = absurd q
pl_of_below (inf t) q h = absurd q
pl_of_below (fin true n d) q h = refl
pl_of_below (fin false n d) q h = let l = leq_of_le (fin false n d) plus_zero tt tt h in omega (arith, l.holds)

pub pl_of_positive : (y : Float) → T (finite y) → T (lt plus_zero y) → 0 < pl y
unfolding of_bits
pl_of_positive nan q h = absurd q
pl_of_positive (inf t) q h = absurd q
pl_of_positive (fin true n d) q h = let l = less_of_lt plus_zero (fin true n d) tt tt h in omega (arith, l.holds)
pl_of_positive (fin false n d) q h = let l = less_of_lt plus_zero (fin false n d) tt tt h in omega (arith, l.holds)

-- ---- the quotient by a number above 0
-- z is x / y, rounded
abbrev pub IsQuotient : Format → Float → Float → Float → Type 0
IsQuotient f x y z = Rounds f z (pl x * den y) (mi x * den y) (pl y * den x)

-- a test that fails leaves the other value
pub left : (b : Bool) (w c : Float) → (T b → ⊥) → cond b w c ≡ c
left true w c h = absurd (h tt)
left false w c h = refl

not_zero : (n u : ℕ) → 0 < n * u → T (eqb n 0) → ⊥
not_zero n u h t = lt_irrefl 0 (subst (λ (k : ℕ). 0 < k) (ap (λ (k : ℕ). k * u) (eqb→eq n 0 t) ∙ zero-mul u) h)

div-fin : (f : Format) (s : Bool) (m : ℕ) (e : ℤ) (t : Bool) (n : ℕ) (d : ℤ) → 0 < pl (fin t n d) → IsQuotient f (fin s m e) (fin t n d) (div f (fin s m e) (fin t n d))
unfolding div
div-fin f s m e true n d h = absurd (lt_irrefl 0 h)
div-fin f false m e false n d h =
    rw (left (eqb n 0) (cond (eqb m 0) nan (inf false)) (round f false (m * up e * down d) (n * up d * down e)) (not_zero n (up d) h)) (rounds_up f (m * up e * down d) _ _ _ (omega arith))
div-fin f true m e false n d h =
    rw (left (eqb n 0) (cond (eqb m 0) nan (inf true)) (round f true (m * up e * down d) (n * up d * down e)) (not_zero n (up d) h)) (rounds_down f (m * up e * down d) _ _ _ (omega arith))

pub div-rounds : (f : Format) (x y : Float) → T (finite x) → T (finite y) → T (lt plus_zero y) → IsQuotient f x y (div f x y)
div-rounds f x y p q h = on_finite (λ (a b : Float). 0 < pl b → IsQuotient f a b (div f a b)) (div-fin f) x y p q (pl_of_positive y q h)
