-- The lesser and the greater of two numbers: bounds of both, growing with both, and finite where both are. Assumes nothing.
use Rattle.std.specs.Prelude.{Bool, true, false, not, cond, T, Float}
use Rattle.std.specs.Float.Ieee.{lt, le}
use Rattle.std.specs.Float.Ieee.Scale.{finite}
use Rattle.floats.specs.Extremes.{min_of, max_of}
use Rattle.floats.specs.laws.Order.{number, number_of_le, le_refl, le_trans, le_of_lt, le_of_not_lt}

-- what holds of the value that a test takes, by the test
chosen : (P : Float → Type 0) (t : Bool) (x y : Float) → (T t → P x) → (T (not t) → P y) → P (cond t x y)
chosen P true x y h k = h tt
chosen P false x y h k = k tt

-- ---- the lesser
-- whatever holds of both holds of it
pub min-keeps : (P : Float → Type 0) (a b : Float) → P a → P b → P (min_of a b)
unfolding min_of
min-keeps P a b h k = chosen P (lt b a) b a (λ _. k) (λ _. h)

pub min-finite : (a b : Float) → T (finite a) → T (finite b) → T (finite (min_of a b))
min-finite a b p q = min-keeps (λ (x : Float). T (finite x)) a b p q

pub min-number : (a b : Float) → T (number a) → T (number b) → T (number (min_of a b))
min-number a b p q = min-keeps (λ (x : Float). T (number x)) a b p q

-- never above the first, whatever the second
pub min-below : (a b : Float) → T (number a) → T (le (min_of a b) a)
unfolding min_of
min-below a b p = chosen (λ (x : Float). T (le x a)) (lt b a) b a (le_of_lt b a) (λ _. le_refl a p)

pub min_le_left : (a b : Float) → T (number a) → T (number b) → T (le (min_of a b) a)
min_le_left a b p q = min-below a b p

pub min_le_right : (a b : Float) → T (number a) → T (number b) → T (le (min_of a b) b)
unfolding min_of
min_le_right a b p q = chosen (λ (x : Float). T (le x b)) (lt b a) b a (λ _. le_refl b q) (le_of_not_lt b a q p)

-- a bound below both is below it
pub le-min : (x a b : Float) → T (le x a) → T (le x b) → T (le x (min_of a b))
le-min x a b h k = min-keeps (λ (y : Float). T (le x y)) a b h k

pub min-mono : (a a' b b' : Float) → T (le a a') → T (le b b') → T (le (min_of a b) (min_of a' b'))
min-mono a a' b b' h k =
    let p = (number_of_le a a' h).0 in
    let q = (number_of_le b b' k).0 in
    le-min (min_of a b) a' b' (le_trans (min_of a b) a a' (min_le_left a b p q) h) (le_trans (min_of a b) b b' (min_le_right a b p q) k)

-- ---- the greater
pub max-keeps : (P : Float → Type 0) (a b : Float) → P a → P b → P (max_of a b)
unfolding max_of
max-keeps P a b h k = chosen P (lt a b) b a (λ _. k) (λ _. h)

pub max-finite : (a b : Float) → T (finite a) → T (finite b) → T (finite (max_of a b))
max-finite a b p q = max-keeps (λ (x : Float). T (finite x)) a b p q

pub max-number : (a b : Float) → T (number a) → T (number b) → T (number (max_of a b))
max-number a b p q = max-keeps (λ (x : Float). T (number x)) a b p q

pub le_max_left : (a b : Float) → T (number a) → T (number b) → T (le a (max_of a b))
unfolding max_of
le_max_left a b p q = chosen (λ (x : Float). T (le a x)) (lt a b) b a (le_of_lt a b) (λ _. le_refl a p)

pub le_max_right : (a b : Float) → T (number a) → T (number b) → T (le b (max_of a b))
unfolding max_of
le_max_right a b p q = chosen (λ (x : Float). T (le b x)) (lt a b) b a (λ _. le_refl b q) (le_of_not_lt a b p q)

-- a bound above both is above it
pub max-le : (a b x : Float) → T (le a x) → T (le b x) → T (le (max_of a b) x)
max-le a b x h k = max-keeps (λ (y : Float). T (le y x)) a b h k

pub max-mono : (a a' b b' : Float) → T (le a a') → T (le b b') → T (le (max_of a b) (max_of a' b'))
max-mono a a' b b' h k =
    let p = (number_of_le a a' h).1 in
    let q = (number_of_le b b' k).1 in
    max-le a b (max_of a' b') (le_trans a a' (max_of a' b') h (le_max_left a' b' p q)) (le_trans b b' (max_of a' b') k (le_max_right a' b' p q))
