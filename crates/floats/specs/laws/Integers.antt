-- Whole numbers as floats: a difference a - b as an integer, and sums of whole numbers, which are exact. Assumes nothing.
use Rattle.std.specs.Prelude.{ℕ, suc, ◌+◌, ◌-◌, ◌*◌, ◌≤◌, ◌<◌, ◌≡◌, refl, Bool, true, false, not, cond, ◌&&◌, T, ltb, leb, pos, negsuc, Float}
use Rattle.std.proofs.Common.{sym, ap, ◌∙◌, mul-one, mul_comm, mul_assoc, add-mul, mul-pos, mul-le-mul_right, mul-lt-mul_of_pos_right, arith, lt-ltb, le-ltb, le-leb, leb→le, ltb→lt, nltb→le}
use Rattle.std.specs.Bool.{beq}
use Rattle.std.proofs.Math.Nat.{mul-sub}
use Rattle.std.proofs.lemmas.Bool.{lt-leb}
use Rattle.std.proofs.Math.Dec.{nleb→lt}
use Rattle.std.specs.Float.{nan, inf, fin, Format}
use Rattle.std.specs.Float.Ieee.{up, down, minus, round, sum, add}
use Rattle.std.specs.Float.Ieee.Fits.{down_pos}
use Rattle.std.specs.Float.Ieee.Exact.{HasValue}
use Rattle.std.specs.Float.Ieee.Scale.{round_same}

-- ---- a - b

-- a is b and c more, or b is a and c + 1 more
pub data Gap (a b : ℕ) : Type 0 where
  over : (c : ℕ) → a ≡ b + c → Gap a b
  under : (c : ℕ) → b ≡ a + suc c → Gap a b

pub gap : (a b : ℕ) → Gap a b
gap a b = go (leb b a) (leb→le b a) (nleb→lt b a)
  where
    go : (t : Bool) → (T t → b ≤ a) → (T (not t) → a < b) → Gap a b
    go true h k = let l = h tt in over (a - b) (omega arith)
    go false h k = let l = k tt in under (b - suc a) (omega arith)

pub minus_pos : (a b c : ℕ) → a ≡ b + c → minus a b ≡ pos c
minus_pos a b c e =
    let f : a - b ≡ c = omega arith in
    rw (le-leb b a (omega arith)) (ap pos f)

pub minus-neg : (a b c : ℕ) → b ≡ a + suc c → minus a b ≡ negsuc c
minus-neg a b c e =
    let f : b - suc a ≡ c = omega arith in
    rw (lt-leb b a (omega arith)) (ap negsuc f)

-- the same difference
pub minus_same : (a b c d : ℕ) → a + d ≡ c + b → minus a b ≡ minus c d
minus_same a b c d e =
    elim (gap a b) [
      | over g h ↦ minus_pos a b g h ∙ sym (minus_pos c d g (omega arith))
      | under g h ↦ minus-neg a b g h ∙ sym (minus-neg c d g (omega arith))
    ]

-- ---- sums of whole numbers

sum-scale : (f : Format) (s : Bool) (a : ℕ) (t : Bool) (b d : ℕ) → 0 < d → sum f s (a * d) t (b * d) d ≡ sum f s a t b 1
unfolding sum
sum-scale f s a t b d h = go (beq s t)
  where
    more : round f s (a * d + b * d) d ≡ round f s (a + b) 1
    more = round_same f s (a * d + b * d) d (a + b) 1 h (omega arith) (mul-one (a * d + b * d) ∙ sym (add-mul a b d))

    less : (u : Bool) (x y : ℕ) → round f u (x * d - y * d) d ≡ round f u (x - y) 1
    less u x y = round_same f u (x * d - y * d) d (x - y) 1 h (omega arith) (mul-one (x * d - y * d) ∙ simp mul_comm (sym (mul-sub d x y)))

    same : (x y : ℕ) → ltb (x * d) (y * d) ≡ ltb x y
    same x y = pick (ltb x y) refl
      where
        pick : (u : Bool) → ltb x y ≡ u → ltb (x * d) (y * d) ≡ u
        pick true e = lt-ltb (x * d) (y * d) (mul-lt-mul_of_pos_right (ltb→lt x y (rw e tt)) h)
        pick false e = le-ltb (x * d) (y * d) (mul-le-mul_right d (nltb→le x y (rw e tt)))

    go : (u : Bool) → cond u (round f s (a * d + b * d) d) (cond (ltb (a * d) (b * d)) (round f t (b * d - a * d) d) (round f (s && ltb (b * d) (a * d)) (a * d - b * d) d))
        ≡ cond u (round f s (a + b) 1) (cond (ltb a b) (round f t (b - a) 1) (round f (s && ltb b a) (a - b) 1))
    go true = more
    go false = rw (same a b, same b a, less t b a, less (s && ltb b a) a b)

pub add-whole : (f : Format) (x y : Float) (s : Bool) (a : ℕ) (t : Bool) (b : ℕ) → HasValue x s a 1 → HasValue y t b 1 → add f x y ≡ sum f s a t b 1
unfolding add
add-whole f nan y s a t b v w = elim v [ ]
add-whole f (inf _) y s a t b v w = elim v [ ]
add-whole f (fin s' m e) nan s a t b v w = elim w [ ]
add-whole f (fin s' m e) (inf _) s a t b v w = elim w [ ]
add-whole f (fin s' m e) (fin t' n d) s a t b v w =
    let p : m * up e * down d ≡ a * (down e * down d) = sym (ap (λ (z : ℕ). z * down d) (mul-one (m * up e))) ∙ ap (λ (z : ℕ). z * down d) v.1 ∙ mul_assoc a (down e) (down d) in
    let q : n * up d * down e ≡ b * (down e * down d) = sym (ap (λ (z : ℕ). z * down e) (mul-one (n * up d))) ∙ ap (λ (z : ℕ). z * down e) w.1 ∙ mul_assoc b (down d) (down e) ∙ ap (λ (z : ℕ). b * z) (mul_comm (down d) (down e)) in
    (λ i. sum f (v.0 i) (p i) (w.0 i) (q i) (down e * down d)) ∙ sum-scale f s a t b (down e * down d) (mul-pos (down_pos e) (down_pos d))
