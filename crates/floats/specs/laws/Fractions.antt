-- A finite float as a fraction of natural numbers: x is (pl x - mi x) / den x, where pl or mi is 0.
-- The order of floats is then one inequality of natural numbers, whatever the signs. Assumes nothing.
use Rattle.std.specs.Prelude.{◌≡◌, ◌⊎◌, Bool, true, false, not, ◌||◌, ℕ, ◌+◌, ◌*◌, ◌≤◌, ◌<◌, ℤ, T, eqb, Float}
use Rattle.std.proofs.Math.Logic.{inl, inr}
use Rattle.std.proofs.Math.Nat.{le_of_lt}
use Rattle.std.proofs.Common.{arith, ltb→lt, nltb→le, eqb→eq}
use Rattle.std.specs.Float.{nan, inf, fin}
use Rattle.std.specs.Float.Ieee.{up, down, lt, eq, le}
use Rattle.std.specs.Float.Ieee.Fits.{and_l, and_r, and_i, eq→eqb}
use Rattle.std.specs.Float.Ieee.Scale.{finite}
use Rattle.std.specs.Float.Ieee.Positive.{den}

-- the size of x where x is not negative, and 0 elsewhere
abbrev pub pl : Float → ℕ
pl nan = 0
pl (inf s) = 0
pl (fin false m e) = m * up e
pl (fin true m e) = 0

-- the size of x where x is negative, and 0 elsewhere
abbrev pub mi : Float → ℕ
mi nan = 0
mi (inf s) = 0
mi (fin false m e) = 0
mi (fin true m e) = m * up e

-- x ≤ y and x < y, over both denominators
pub record Leq (x y : Float) : Type 0 where
  pub holds : pl x * den y + mi y * den x ≤ pl y * den x + mi x * den y

pub record Less (x y : Float) : Type 0 where
  pub holds : pl x * den y + mi y * den x < pl y * den x + mi x * den y

-- ---- a test that is one of two
pub or_l : (a b : Bool) → T a → T (a || b)
or_l true b t = tt
or_l false b t = absurd t

pub or_r : (a b : Bool) → T b → T (a || b)
or_r true b t = tt
or_r false b t = t

pub or_split : (a b : Bool) → T (a || b) → T a ⊎ T b
or_split true b t = inl tt
or_split false b t = inr t

pub decide : (b : Bool) → T b ⊎ T (not b)
decide true = inl tt
decide false = inr tt

-- ---- `lt`, `eq` and `le` of two finite numbers
lt_fin : (s : Bool) (m : ℕ) (e : ℤ) (t : Bool) (n : ℕ) (d : ℤ) → T (lt (fin s m e) (fin t n d)) → Less (fin s m e) (fin t n d)
unfolding lt
lt_fin false m e false n d h = let l = ltb→lt (m * up e * down d) (n * up d * down e) h in record { holds = omega arith }
lt_fin false m e true n d h = absurd h
lt_fin true m e false n d h = let l = ltb→lt 0 (m * up e * down d + n * up d * down e) h in record { holds = omega arith }
lt_fin true m e true n d h = let l = ltb→lt (n * up d * down e) (m * up e * down d) h in record { holds = omega arith }

not_lt_fin : (s : Bool) (m : ℕ) (e : ℤ) (t : Bool) (n : ℕ) (d : ℤ) → T (not (lt (fin s m e) (fin t n d))) → Leq (fin t n d) (fin s m e)
unfolding lt
not_lt_fin false m e false n d h = let l = nltb→le (m * up e * down d) (n * up d * down e) h in record { holds = omega arith }
not_lt_fin false m e true n d h = record { holds = omega arith }
not_lt_fin true m e false n d h = let l = nltb→le 0 (m * up e * down d + n * up d * down e) h in record { holds = omega arith }
not_lt_fin true m e true n d h = let l = nltb→le (n * up d * down e) (m * up e * down d) h in record { holds = omega arith }

eq_fin : (s : Bool) (m : ℕ) (e : ℤ) (t : Bool) (n : ℕ) (d : ℤ) → T (eq (fin s m e) (fin t n d)) → Leq (fin s m e) (fin t n d)
unfolding eq
eq_fin false m e false n d h = let l = eqb→eq (m * up e * down d) (n * up d * down e) (and_l (eqb (m * up e * down d) (n * up d * down e)) true h) in record { holds = omega arith }
eq_fin false m e true n d h =
    let l = eqb→eq (m * up e * down d) (n * up d * down e) (and_l (eqb (m * up e * down d) (n * up d * down e)) (eqb (m * up e * down d) 0) h) in
    let z = eqb→eq (m * up e * down d) 0 (and_r (eqb (m * up e * down d) (n * up d * down e)) (eqb (m * up e * down d) 0) h) in
    record { holds = omega arith }
eq_fin true m e false n d h = record { holds = omega arith }
eq_fin true m e true n d h = let l = eqb→eq (m * up e * down d) (n * up d * down e) (and_l (eqb (m * up e * down d) (n * up d * down e)) true h) in record { holds = omega arith }

same : (a b : ℕ) → a ≡ b → T (eqb a b)
same a b e = eq→eqb e

level-fin : (s : Bool) (m : ℕ) (e : ℤ) (t : Bool) (n : ℕ) (d : ℤ) → Leq (fin s m e) (fin t n d) → Leq (fin t n d) (fin s m e) → T (eq (fin s m e) (fin t n d))
unfolding eq
level-fin false m e false n d h k = and_i (eqb (m * up e * down d) (n * up d * down e)) true (same (m * up e * down d) (n * up d * down e) (omega arith)) tt
level-fin false m e true n d h k =
    and_i (eqb (m * up e * down d) (n * up d * down e)) (eqb (m * up e * down d) 0) (same (m * up e * down d) (n * up d * down e) (omega arith)) (same (m * up e * down d) 0 (omega arith))
level-fin true m e false n d h k =
    and_i (eqb (m * up e * down d) (n * up d * down e)) (eqb (m * up e * down d) 0) (same (m * up e * down d) (n * up d * down e) (omega arith)) (same (m * up e * down d) 0 (omega arith))
level-fin true m e true n d h k = and_i (eqb (m * up e * down d) (n * up d * down e)) true (same (m * up e * down d) (n * up d * down e) (omega arith)) tt

-- ---- the same for any two that are finite
pub on_finite : (P : Float → Float → Type 0) → ((s : Bool) (m : ℕ) (e : ℤ) (t : Bool) (n : ℕ) (d : ℤ) → P (fin s m e) (fin t n d)) → (x y : Float) → T (finite x) → T (finite y) → P x y
on_finite P h nan y p q = absurd p
on_finite P h (inf s) y p q = absurd p
on_finite P h (fin s m e) nan p q = absurd q
on_finite P h (fin s m e) (inf t) p q = absurd q
on_finite P h (fin s m e) (fin t n d) p q = h s m e t n d

module _ (x y : Float) (p : T (finite x)) (q : T (finite y)) where
  pub less_of_lt : T (lt x y) → Less x y
  less_of_lt = on_finite (λ (a b : Float). T (lt a b) → Less a b) lt_fin x y p q

  pub leq_of_not_lt : T (not (lt x y)) → Leq y x
  leq_of_not_lt = on_finite (λ (a b : Float). T (not (lt a b)) → Leq b a) not_lt_fin x y p q

  leq_of_eq : T (eq x y) → Leq x y
  leq_of_eq = on_finite (λ (a b : Float). T (eq a b) → Leq a b) eq_fin x y p q

  pub eq_of_leq : Leq x y → Leq y x → T (eq x y)
  eq_of_leq = on_finite (λ (a b : Float). Leq a b → Leq b a → T (eq a b)) level-fin x y p q

  pub leq_of_le : T (le x y) → Leq x y
  unfolding le
  leq_of_le h = elim (or_split (lt x y) (eq x y) h) [ inl l ↦ record { holds = le_of_lt (less_of_lt l).holds } | inr e ↦ leq_of_eq e ]

  pub le_of_leq : Leq x y → T (le x y)
  unfolding le
  le_of_leq h = elim (decide (lt x y)) [ inl l ↦ or_l (lt x y) (eq x y) l | inr n ↦ or_r (lt x y) (eq x y) (eq_of_leq h (leq_of_not_lt n)) ]
