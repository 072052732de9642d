-- What the codes give, read as a check of the input.
use Rattle.std.specs.Prelude.{◌≡◌, ℕ, Ok, Err}
use Rattle.std.proofs.Common.{ap}
use Rattle.floats.specs.Answers.{Check, Outcome, on_outcome}
use Rattle.interestrate.specs.Rates.{rate_of, rate_check}
use Rattle.interestrate.specs.declared.RateDefinition.{RateDefinition}

abbrev pub found_check : Outcome RateDefinition → Check
found_check a = on_outcome a Err λ r. Ok tt

-- It is the definition's check.
pub found_check_lem : (compounding code : ℕ) (s : Outcome RateDefinition) → s ≡ rate_of compounding code → found_check s ≡ rate_check compounding code
found_check_lem compounding code s e = ap found_check e
