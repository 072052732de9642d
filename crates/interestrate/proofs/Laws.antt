-- Laws in the shape that `search` wants: a price taken apart. Assumes nothing.
use Rattle.std.specs.Prelude.{Ok, Err}
use mathlib.Core.Path.{◌≡◌, sym, ap, ◌∙◌}
use lib.Ieee.{Float}
use Rattle.floats.specs.Refusals.{Refusal}
use Rattle.floats.specs.Answers.{Outcome}
use Rattle.floats.proofs.Laws.{answers}
use Rattle.interestrate.specs.declared.YieldPrice.{YieldPrice}
use Rattle.interestrate.specs.Prices.{on_price}

-- A price s that a call gave, which ensures that it is a, taken apart.
pub priced : {A : Type 0} {s : Outcome YieldPrice} (a : Outcome YieldPrice) {v : YieldPrice} {r : A} (f : Refusal → A) (g : Float → Float → A) → s ≡ a → s ≡ Ok v → r ≡ g v.price v.derivative → r ≡ on_price a f g
unfolding on_price
priced a f g e v p = p ∙ ap (λ (z : Outcome YieldPrice). on_price z f g) (sym v ∙ e)

pub no_price : {A : Type 0} {s : Outcome YieldPrice} (a : Outcome YieldPrice) {q : Refusal} {r : A} (f : Refusal → A) (g : Float → Float → A) → s ≡ a → s ≡ Err q → r ≡ f q → r ≡ on_price a f g
unfolding on_price
no_price a f g e v p = p ∙ ap (λ (z : Outcome YieldPrice). on_price z f g) (sym v ∙ e)

pub ruleset prices = (priced, no_price, answers)
