-- One widening of a bracket whose lower end is to move, told from the end that is tried. Over any objective. Assumes nothing.
use Rattle.std.specs.Prelude.{Ok, Err}
use mathlib.Core.Path.{◌≡◌, ap, ◌∙◌}
use mathlib.Core.Bool.{true, false, cond}
use lib.Ieee.{Float, binary64, sub, neg, lt}
use Rattle.floats.specs.Answers.{Answer, plus_zero, two, not_finite, tested}
use Rattle.floats.specs.Extremes.{max_of}
use Rattle.rounded.specs.Fused.{mul_add_at}
use Rattle.floats.proofs.Laws.{taken, left}
use Rattle.terms.specs.Numbers.{epsilon}
use Rattle.brackets.specs.declared.Bracket.{Bracket}
use Rattle.brackets.specs.declared.NoRoot.{NoRoot}
use Rattle.brackets.specs.declared.Widened.{Widened}
use Rattle.brackets.specs.declared.Widened.TheVariants as widened
use Rattle.brackets.specs.Brackets.{Searched, no_root, counted, try, small, bracketed, step, raised, widen}
use Rattle.brackets.proofs.Laws.{counted-given, counted-refused, tested-given, tested-refused}
use Rattle.floats.specs.declared.Reason.TheVariants as reason

module _ (objective : Float → Answer) (lowest : Float) (b : Bracket) where
  -- What follows once the end to try is known, and once its distance is too.
  abbrev pub far : Float → Float → Searched Widened
  far candidate distance =
      cond (small epsilon distance) (Ok (widened.Last b))
      (try objective candidate b.evaluations no_root λ y n.
      raised objective
      (record { lower = candidate; upper = b.upper; at_lower = y; at_upper = b.at_upper; evaluations = n }))

  abbrev moved : Float → Searched Widened
  moved candidate =
      cond (not_finite (sub binary64 candidate b.lower)) (no_root (record { reason = reason.NotFinite; place = 0 }) b.evaluations)
      (far candidate (sub binary64 candidate b.lower))

  module _ {s : Answer} {w : Searched Float} (not_yet : bracketed b ≡ false) (below : lt b.at_lower plus_zero ≡ true) (e : w ≡ counted s b.evaluations) (h : s ≡ mul_add_at two b.lower (neg step) 0) where
    lowering : {x candidate : Float} {r : Searched Widened} → w ≡ Ok x → candidate ≡ max_of x lowest → r ≡ moved candidate → r ≡ widen objective lowest b
    unfolding widen
    lowering v m p = left _ _ _ not_yet (taken _ _ _ below (counted-given _ _ _ _ e h v (p ∙ ap moved m)))

    module _ {x candidate : Float} (v : w ≡ Ok x) (m : candidate ≡ max_of x lowest) {s2 : Answer} {w2 : Searched Float} (e2 : w2 ≡ counted s2 b.evaluations) (h2 : s2 ≡ tested (sub binary64 candidate b.lower) 0) where
      pub lowering_stops : {q : NoRoot} {r : Searched Widened} → w2 ≡ Err q → r ≡ Err q → r ≡ widen objective lowest b
      lowering_stops u p = lowering v m (tested-refused _ _ _ e2 h2 u p)

      pub lowering_far : {distance : Float} {r : Searched Widened} → w2 ≡ Ok distance → r ≡ far candidate distance → r ≡ widen objective lowest b
      lowering_far u p = lowering v m (tested-given _ _ (far candidate) e2 h2 u p)

  pub lowering_refused : {s : Answer} {w : Searched Float} {q : NoRoot} {r : Searched Widened}
      → bracketed b ≡ false
      → lt b.at_lower plus_zero ≡ true
      → w ≡ counted s b.evaluations
      → s ≡ mul_add_at two b.lower (neg step) 0
      → w ≡ Err q
      → r ≡ Err q
      → r ≡ widen objective lowest b
  unfolding widen
  lowering_refused n t e h v p = left _ _ _ n (taken _ _ _ t (counted-refused _ _ _ e h v p))
