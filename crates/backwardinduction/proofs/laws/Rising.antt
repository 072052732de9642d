-- What is exercised of no lower a value, at no lower a step, is no lower. Assumes nothing.
use Rattle.std.specs.Prelude.{◌≡◌, refl, Bool, true, false, cond, T, Float}
use Rattle.std.proofs.lemmas.Bool.{false≢true}
use Rattle.std.specs.Float.Ieee.{le, lt}
use Rattle.floats.specs.laws.Order.{number, number_of_le, le_refl, le_trans, le_of_lt, T_of}
use Rattle.floats.specs.laws.Extremes.{min-below, min-mono, max-mono}
use Rattle.floats.specs.Extremes.{min_of, max_of}
use Rattle.bondevents.specs.declared.Side.TheVariants.{Call, Put}
use Rattle.bondevents.specs.declared.Exercise.{Exercise}
use Rattle.bondevents.specs.declared.CallStep.{CallStep}
use Rattle.bondevents.specs.laws.Sides.{Before}
use Rattle.bondevents.specs.laws.NoLower.{Thinner, NoLower}
use Rattle.backwardinduction.specs.Walk.{called, exercised}

le_max_first : (a b : Float) → T (number a) → T (le a (max_of a b))
unfolding max_of
le_max_first a b n = go (lt a b) refl
  where
    go : (t : Bool) → lt a b ≡ t → T (le a (cond t b a))
    go true e = le_of_lt a b (T_of (lt a b) e)
    go false e = le_refl a n

called-no_lower : (c d : Exercise) (x y : Float) → Thinner Call c d → T (le x y) → T (le (called c x) (called d y))
unfolding Before
called-no_lower c d x y n h = go c.marked d.marked n.marked_too n.price
  where
    go : (p q : Bool) → (q ≡ true → p ≡ true) → (q ≡ true → Before Call c.price d.price) → T (le (cond p (min_of x c.price) x) (cond q (min_of y d.price) y))
    go true true m k = min-mono x y c.price d.price h (k refl)
    go true false m k = le_trans (min_of x c.price) x y (min-below x c.price (number_of_le x y h).0) h
    go false true m k = absurd (false≢true (m refl))
    go false false m k = h

-- One law for both lists: a thinner call, or a put that the other's is thinner than, lowers nothing.
pub exercised-no_lower : (c d : CallStep) (x y : Float) → NoLower c d → T (le x y) → T (le (exercised c x) (exercised d y))
unfolding Before
exercised-no_lower c d x y n h = go c.put.marked d.put.marked n.put.marked_too n.put.price
  where
    u : T (le (called c.call x) (called d.call y))
    u = called-no_lower c.call d.call x y n.call h

    go : (p q : Bool) → (p ≡ true → q ≡ true) → (p ≡ true → Before Put d.put.price c.put.price) → T (le (cond p (max_of (called c.call x) c.put.price) (called c.call x)) (cond q (max_of (called d.call y) d.put.price) (called d.call y)))
    go true true m k = max-mono (called c.call x) (called d.call y) c.put.price d.put.price u (k refl)
    go true false m k = absurd (false≢true (m refl))
    go false true m k =
        le_trans (called c.call x) (called d.call y) (max_of (called d.call y) d.put.price) u
        (le_max_first (called d.call y) d.put.price (number_of_le (called c.call x) (called d.call y) u).1)
    go false false m k = u
