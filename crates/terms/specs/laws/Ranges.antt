-- What a range of the input checks says of a number, and that a number of which this holds is inside. Assumes nothing.
use Rattle.std.specs.Prelude.{◌≡◌, Bool, true, false, not, cond, ◌&&◌, ◌||◌, ℕ, ◌≤◌, T, eqb, ltb, Float}
use Rattle.std.proofs.Common.{arith, eqb→eq, ltb→lt, nltb→le}
use Rattle.std.proofs.Math.Dec.{not_T}
use Rattle.std.specs.Float.Ieee.{neg, lt, le}
use Rattle.std.specs.Float.Ieee.Scale.{finite}
use Rattle.std.specs.Float.Ieee.Fits.{eq→eqb}
use Rattle.floats.specs.Answers.{plus_zero, not_finite}
use Rattle.floats.specs.laws.Order.{number, number_of-finite, number_of_le, le_refl, neg_anti, le_of_not_lt, lt_of_not_le, not_le_of_lt}
use Rattle.terms.specs.Checks.{outside, beyond, not_above, not_up_to}
use Rattle.terms.specs.laws.Limits.{zero-finite}

-- ---- tests joined by or, and, not

pub not_or_l : (a b : Bool) → T (not (a || b)) → T (not a)
not_or_l true b h = h
not_or_l false b h = tt

pub not_or_r : (a b : Bool) → T (not (a || b)) → T (not b)
not_or_r true b h = absurd h
not_or_r false b h = h

pub not_or : (a b : Bool) → T (not a) → T (not b) → T (not (a || b))
not_or true b h k = h
not_or false b h k = k

pub neither : (a b : Bool) → T (not (a || b)) → T (not a) × T (not b)
neither a b h = (not_or_l a b h, not_or_r a b h)

pub none_of : (a b c : Bool) → T (not (a || (b || c))) → T (not a) × T (not b) × T (not c)
none_of a b c h = let k = not_or_r a (b || c) h in (not_or_l a (b || c) h, not_or_l b c k, not_or_r b c k)

pub not_and_r : (a b : Bool) → T (not (a && b)) → T a → T (not b)
not_and_r true b h k = h
not_and_r false b h k = absurd k

pub not_cond : (t a b : Bool) → (T t → ⊥) → T (not (cond t a b)) → T (not b)
not_cond true a b f h = absurd (f tt)
not_cond false a b f h = h

pub of_not_not : (a : Bool) → T (not (not a)) → T a
of_not_not true h = tt
of_not_not false h = h

pub not_not : (a : Bool) → T a → T (not (not a))
not_not true h = tt
not_not false h = h

-- two lengths that are not found unequal
pub same_length : (a b : ℕ) → T (not (not (eqb a b))) → a ≡ b
same_length a b h = eqb→eq a b (of_not_not (eqb a b) h)

pub not_unequal : (a b : ℕ) → a ≡ b → T (not (not (eqb a b)))
not_unequal a b e = not_not (eqb a b) (eq→eqb e)

-- ---- whole numbers

pub inside_of : (low high n : ℕ) → T (not (outside low high n)) → (low ≤ n) × (n ≤ high)
inside_of low high n h =
    (nltb→le n low (not_or_l (ltb n low) (ltb high n) h), nltb→le high n (not_or_r (ltb n low) (ltb high n) h))

pub not_ltb : (m n : ℕ) → n ≤ m → T (not (ltb m n))
not_ltb m n h = not_T (ltb m n) (λ t. let l = ltb→lt m n t in omega arith)

pub not_outside : (low high n : ℕ) → low ≤ n → n ≤ high → T (not (outside low high n))
not_outside low high n l h = not_or (ltb n low) (ltb high n) (not_ltb n low l) (not_ltb high n h)

-- ---- doubles

-- Finite, above 0 and up to the limit.
pub record Above (limit x : Float) : Type 0 where
  pub is_finite : T (finite x)
  pub above_zero : T (lt plus_zero x)
  pub at_most : T (le x limit)

-- Finite, 0 to the limit; −0 is inside.
pub record UpTo (limit x : Float) : Type 0 where
  pub is_finite : T (finite x)
  pub from_zero : T (le plus_zero x)
  pub at_most : T (le x limit)

-- Finite, within ± the limit.
pub record PlusMinus (limit x : Float) : Type 0 where
  pub is_finite : T (finite x)
  pub at_least : T (le (neg limit) x)
  pub at_most : T (le x limit)

not_lt_of_le : (x y : Float) → T (le y x) → T (not (lt x y))
not_lt_of_le x y h = not_T (lt x y) (λ t. not_le_of_lt x y t h)

not_le_of : (x y : Float) → T (lt x y) → T (not (le y x))
not_le_of x y h = not_T (le y x) (not_le_of_lt x y h)

module _ (limit x : Float) where
  finite_of : (b : Bool) → T (not (not_finite x || b)) → T (finite x)
  finite_of b h = of_not_not (finite x) (not_or_l (not_finite x) b h)

  number-of : (b : Bool) → T (not (not_finite x || b)) → T (number x)
  number-of b h = number_of-finite x (finite_of b h)

  at_most_of : T (finite limit) → (a : Bool) → T (not (not_finite x || (a || lt limit x))) → T (le x limit)
  at_most_of n a h =
      le_of_not_lt limit x (number_of-finite limit n) (number-of (a || lt limit x) h)
      (not_or_r a (lt limit x) (not_or_r (not_finite x) (a || lt limit x) h))

  pub above_of : T (finite limit) → T (not (not_above limit x)) → Above limit x
  above_of n h =
      record {
        is_finite = finite_of (le x plus_zero || lt limit x) h;
        above_zero = lt_of_not_le plus_zero x (number_of-finite plus_zero zero-finite) (number-of (le x plus_zero || lt limit x) h)
            (not_or_l (le x plus_zero) (lt limit x) (not_or_r (not_finite x) (le x plus_zero || lt limit x) h));
        at_most = at_most_of n (le x plus_zero) h;
      }

  pub up_to_of : T (finite limit) → T (not (not_up_to limit x)) → UpTo limit x
  up_to_of n h =
      record {
        is_finite = finite_of (lt x plus_zero || lt limit x) h;
        from_zero = le_of_not_lt x plus_zero (number-of (lt x plus_zero || lt limit x) h) (number_of-finite plus_zero zero-finite)
            (not_or_l (lt x plus_zero) (lt limit x) (not_or_r (not_finite x) (lt x plus_zero || lt limit x) h));
        at_most = at_most_of n (lt x plus_zero) h;
      }

  pub within_of : T (finite limit) → T (not (beyond limit x)) → PlusMinus limit x
  within_of n h =
      record {
        is_finite = finite_of (lt x (neg limit) || lt limit x) h;
        at_least = le_of_not_lt x (neg limit) (number-of (lt x (neg limit) || lt limit x) h)
            (number_of_le (neg limit) (neg limit) (neg_anti limit limit (le_refl limit (number_of-finite limit n)))).0
            (not_or_l (lt x (neg limit)) (lt limit x) (not_or_r (not_finite x) (lt x (neg limit) || lt limit x) h));
        at_most = at_most_of n (lt x (neg limit)) h;
      }

  inside : (a : Bool) → T (finite x) → T (not a) → T (le x limit) → T (not (not_finite x || (a || lt limit x)))
  inside a f h m =
      not_or (not_finite x) (a || lt limit x) (not_not (finite x) f) (not_or a (lt limit x) h (not_lt_of_le limit x m))

  pub not_not_above : Above limit x → T (not (not_above limit x))
  not_not_above a = inside (le x plus_zero) a.is_finite (not_le_of plus_zero x a.above_zero) a.at_most

  pub not_not_up_to : UpTo limit x → T (not (not_up_to limit x))
  not_not_up_to a = inside (lt x plus_zero) a.is_finite (not_lt_of_le x plus_zero a.from_zero) a.at_most

  pub not_beyond : PlusMinus limit x → T (not (beyond limit x))
  not_beyond a = inside (lt x (neg limit)) a.is_finite (not_lt_of_le x (neg limit) a.at_least) a.at_most
