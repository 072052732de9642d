-- `solver::bracketed_root` meets its contract. Assumes nothing.
use mathlib.Core.Path.{◌∙◌}
use native.Mathlib.Omega.{arith}
use Rattle.std.proofs.Common.{rules}
use Rattle.sought.specs.laws.Sought.{still_ready}
use Rattle.bracketedroot.proofs.solver.Rounds.{first_refused_lem, second-refused, both_given}
use Rattle.bracketedroot.proofs.solver.bracketed_root.Goals as goal

pub returns-in_err-at_lower : goal.returns-in_err-at_lower
returns-in_err-at_lower c =
    first_refused_lem _ _ _ _ c.greater-lower.ensures c.objective-tried.ensures c.counted.ensures c.in_err-at_lower.was (search rules)

pub objective-tried-requires-2 : goal.objective-tried-requires-2
objective-tried-requires-2 c = still_ready _ c.requires c.objective-tried.auto.first c.objective-tried.auto.second

pub returns-in_err-at_upper : goal.returns-in_err-at_upper
returns-in_err-at_upper c =
    second-refused _ _ _ _ c.greater-lower.ensures c.objective-tried.ensures c.counted.ensures c.in_ok-at_lower.was
    c.objective-tried-2.ensures c.counted-2.ensures c.in_err-at_upper.was (search rules)

pub widened_to_root-requires : goal.widened_to_root-requires
widened_to_root-requires c =
    record {
      ready = still_ready _ c.requires (c.objective-tried-2.auto.first ∙ c.objective-tried.auto.first) (c.objective-tried-2.auto.second ∙ c.objective-tried.auto.second);
      evaluations_bound = omega arith;
    }

pub returns : goal.returns
returns c =
    both_given _ _ _ _ c.greater-lower.ensures c.objective-tried.ensures c.counted.ensures c.in_ok-at_lower.was
    c.objective-tried-2.ensures c.counted-2.ensures c.in_ok-at_upper.was c.widened_to_root.ensures
