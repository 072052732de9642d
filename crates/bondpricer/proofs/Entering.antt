-- The straight value entry in the shape that `search` wants. Assumes nothing.
use Rattle.std.specs.Prelude.{Ok, Err}
use Prim.Native.Nat.{◌≤◌}
use mathlib.Core.Path.{◌≡◌, sym, ap, ◌∙◌}
use mathlib.Core.List.{List}
use lib.Ieee.{Float}
use lib.ListN.{length}
use Rattle.floats.specs.Refusals.{Refusal}
use Rattle.floats.specs.Answers.{Answer, Check}
use Rattle.terms.specs.declared.Settlement.{Settlement}
use Rattle.terms.specs.declared.Epoch.{Epoch}
use Rattle.terms.specs.Terms.{Leg, Pillars}
use Rattle.terms.specs.Times.{epoch_of}
use Rattle.terms.specs.Curve.{CurveTimes, curve_at, curve_over}
use Rattle.terms.specs.Checks.{on_check}
use Rattle.terms.specs.Entries.{straight_checks}
use Rattle.terms.specs.laws.TermChecks.{leg-counted, pillars-counted}
use Rattle.terms.specs.laws.StraightChecks.{straight-terms}
use Rattle.bondpricer.specs.Straight.{discounted_value, straight_value}

module _ (settlement : Settlement) (leg : Leg) (spread : Float) (pillars : Pillars) {s : Check} (h : s ≡ straight_checks settlement leg spread pillars) where
  -- Checks that passed give as many amounts as days, and no more pillars than the table has room for.
  pub same_count : s ≡ Ok tt → length leg.amounts ≡ length leg.days
  same_count p = (leg-counted leg (straight-terms settlement leg spread pillars (sym h ∙ p)).0.counted).amounts_too

  pub few-pillars : s ≡ Ok tt → length pillars.days ≤ 256
  few-pillars p = (pillars-counted pillars (straight-terms settlement leg spread pillars (sym h ∙ p)).1.counted).few

  pub straight-refused : {q : Refusal} {r : Answer} → s ≡ Err q → r ≡ Err q → r ≡ straight_value settlement leg spread pillars
  unfolding straight_value on_check
  straight-refused v p = p ∙ ap (λ (z : Check). on_check z Err (discounted_value (curve_at settlement pillars) (epoch_of settlement) leg spread)) (sym v ∙ h)

  pub straight-given : {times : List Float} {e : Epoch} {r : Answer} → CurveTimes settlement pillars.days times → e ≡ epoch_of settlement → s ≡ Ok tt → r ≡ discounted_value (curve_over times pillars.factors) e leg spread → r ≡ straight_value settlement leg spread pillars
  unfolding straight_value on_check
  straight-given {times} t d v p = p ∙ ap (λ (e : Epoch). discounted_value (curve_over times pillars.factors) e leg spread) d ∙ ap (λ (times : List Float). discounted_value (curve_over times pillars.factors) (epoch_of settlement) leg spread) (t.timed (few-pillars v)) ∙ ap (λ (z : Check). on_check z Err (discounted_value (curve_at settlement pillars) (epoch_of settlement) leg spread)) (sym v ∙ h)
