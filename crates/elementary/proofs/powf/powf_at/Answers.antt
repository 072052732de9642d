-- `powf::powf_at` meets its contract. Assumes nothing.
use Rattle.std.specs.Prelude.{◌≡◌, ℕ, Float, Ok, Err}
use Rattle.std.specs.Float.{binary64}
use Rattle.std.specs.Float.Ieee.{mul}
use Rattle.std.proofs.Common.{refl, rules, sym, ◌∙◌}
use Rattle.floats.specs.Refusals.{Refusal}
use Rattle.floats.specs.Answers.{Answer, when_finite}
use Rattle.floats.specs.laws.Propagation.{passed_on, stopped}
use Rattle.elementary.specs.Exponential.{exp_at}
use Rattle.elementary.specs.Logarithm.{ln_at}
use Rattle.elementary.specs.Power.{powf_at}
use Rattle.floats.proofs.Laws.{valued, refused}
use Rattle.elementary.proofs.powf.powf_at.Goals as goal

module _ (b y : Float) (place : ℕ) {a : Answer} where
  log_refused : {r : Refusal} → ln_at b place ≡ Err r → a ≡ Err r → a ≡ powf_at b y place
  unfolding powf_at
  log_refused t h = refused (ln_at b place) _ _ refl t h

  of_log : {l : Float} → ln_at b place ≡ Ok l → a ≡ when_finite (mul binary64 y l) place (λ t. exp_at t place) → a ≡ powf_at b y place
  unfolding powf_at
  of_log t h = valued (ln_at b place) _ _ refl t h

pub returns-in_err-ln_at : goal.returns-in_err-ln_at
returns-in_err-ln_at c = log_refused c.args.b c.args.y c.args.place (sym c.ln_at.ensures ∙ c.in_err-ln_at.was) (search rules)

pub returns-in_err-t : goal.returns-in_err-t
returns-in_err-t c = of_log c.args.b c.args.y c.args.place (sym c.ln_at.ensures ∙ c.in_ok-ln_at.was) (stopped (λ t. exp_at t c.args.place) _ _ (sym c.tested.ensures ∙ c.in_err-t.was) (search rules))

pub returns : goal.returns
returns c = of_log c.args.b c.args.y c.args.place (sym c.ln_at.ensures ∙ c.in_ok-ln_at.was) (passed_on (λ t. exp_at t c.args.place) _ _ (sym c.tested.ensures ∙ c.in_ok-t.was) (λ f. c.exp_at.ensures))
