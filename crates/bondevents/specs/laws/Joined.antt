-- Calls and puts of each step side by side, and that no put stands above a call: a 38 never appears where calls are dropped or raised. Assumes nothing.
use Rattle.std.specs.Prelude.{◌≡◌, refl, Bool, true, false, not, ◌&&◌, List, [], ◌∷◌, ℕ, zero, suc, length, get_or, T, Ok}
use Rattle.std.proofs.Common.{sym, ap, ◌∙◌, subst, arith}
use Rattle.std.proofs.lemmas.Bool.{false≢true}
use Rattle.std.specs.Float.Ieee.{lt}
use Rattle.std.specs.Float.Ieee.Scale.{finite}
use Rattle.floats.specs.laws.Order.{number_of-finite, le_trans, le_of_not_lt, not_le_of_lt}
use Rattle.terms.specs.laws.Sequence.{indexed-passed, indexed_of_none}
use Rattle.bondevents.specs.declared.Side.TheVariants.{Call}
use Rattle.bondevents.specs.declared.Exercise.{Exercise}
use Rattle.bondevents.specs.declared.CallStep.{CallStep}
use Rattle.bondevents.specs.Calls.{none, new_step, joined, put_above, puts_below}
use Rattle.bondevents.specs.laws.Sides.{Before}
use Rattle.bondevents.specs.laws.NoLower.{Thinner, ThinnerRow}
use Rattle.floats.specs.declared.Reason.TheVariants as reason

abbrev pub step : Exercise → Exercise → CallStep
step c p = record { call = c; put = p }

pub joined_at : (cs ps : List Exercise) (k : ℕ) → length ps ≡ length cs → get_or (joined cs ps) k new_step ≡ step (get_or cs k none) (get_or ps k none)
unfolding joined
joined_at [] [] k e = refl
joined_at [] (p ∷ ps) k e = absurd (omega arith)
joined_at (c ∷ cs) [] k e = absurd (omega arith)
joined_at (c ∷ cs) (p ∷ ps) zero e = refl
joined_at (c ∷ cs) (p ∷ ps) (suc k) e = joined_at cs ps k (omega arith)

pub joined-long : (cs ps : List Exercise) → length ps ≡ length cs → length (joined cs ps) ≡ length cs
unfolding joined
joined-long [] ps e = refl
joined-long (c ∷ cs) [] e = absurd (omega arith)
joined-long (c ∷ cs) (p ∷ ps) e = ap suc (joined-long cs ps (omega arith))

-- A call that is dropped or raised has no put above it where it had none.
still_below : (c d p : Exercise) → T (finite c.price) → T (finite p.price) → Thinner Call c d → T (not (put_above (step c p))) → T (not (put_above (step d p)))
unfolding Before
still_below c d p f g t = go c.marked d.marked p.marked (lt c.price p.price) (lt d.price p.price) refl refl t.marked_too t.price
  where
    go : (a b m u v : Bool) → lt c.price p.price ≡ u → lt d.price p.price ≡ v → (b ≡ true → a ≡ true) → (b ≡ true → Before Call c.price d.price) → T (not ((a && m) && u)) → T (not ((b && m) && v))
    go a false m u v w e h k n = tt
    go a true false u v w e h k n = tt
    go a true true u false w e h k n = tt
    go false true true u true w e h k n = absurd (false≢true (h refl))
    go true true true true true w e h k n = n
    go true true true false true w e h k n =
        absurd
        (not_le_of_lt d.price p.price (subst T (sym e) tt)
        (le_trans p.price c.price d.price (le_of_not_lt c.price p.price (number_of-finite c.price f) (number_of-finite p.price g) (subst (λ (b : Bool). T (not b)) (sym w) tt)) (k refl)))

-- So of rows: the 38 that the first list passed, the second passes.
pub rows-below : (cs ds ps : List Exercise) → length ps ≡ length cs → length ds ≡ length cs → ((k : ℕ) → T (finite (get_or cs k none).price)) → ((k : ℕ) → T (finite (get_or ps k none).price)) → ThinnerRow Call cs ds → puts_below (joined cs ps) ≡ Ok tt → puts_below (joined ds ps) ≡ Ok tt
rows-below cs ds ps e g fc fp t h =
    indexed_of_none reason.PutAbove (λ k. put_above (get_or (joined ds ps) k new_step)) (joined ds ps) λ k l.
    subst (λ (s : CallStep). T (not (put_above s))) (sym (joined_at ds ps k (e ∙ sym g)))
    (still_below (get_or cs k none) (get_or ds k none) (get_or ps k none) (fc k) (fp k) (t k)
    (subst (λ (s : CallStep). T (not (put_above s))) (joined_at cs ps k e)
    (indexed-passed reason.PutAbove (λ k. put_above (get_or (joined cs ps) k new_step)) (joined cs ps) h k (omega (arith, joined-long cs ps e, joined-long ds ps (e ∙ sym g))))))
