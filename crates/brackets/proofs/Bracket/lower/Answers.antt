-- Moving the lower end meets its contract. Assumes nothing.
use native.Mathlib.Omega.{arith}
use Rattle.std.proofs.Common.{refl, rules}
use Rattle.floats.proofs.Laws.{left_call, taken-call}
use Rattle.sought.specs.laws.Sought.{still_ready}
use Rattle.brackets.proofs.Laws.{counted-given, counted-refused}
use Rattle.brackets.proofs.brackets.Lowering.{lowering_refused, lowering_stops, lowering_far}
use Rattle.brackets.proofs.Bracket.lower.Goals as goal

pub returns-in_err-x : goal.returns-in_err-x
returns-in_err-x c =
    lowering_refused _ _ _ c.requires.self_value c.requires.plus_zero_value c.counted.ensures c.mul_add_at.ensures c.in_err-x.was (search rules)

pub returns-in_err-moved : goal.returns-in_err-moved
returns-in_err-moved c =
    lowering_stops _ _ _ c.requires.self_value c.requires.plus_zero_value c.counted.ensures c.mul_add_at.ensures c.in_ok-x.was c.greater-lower.ensures
    c.counted-2.ensures c.tested.ensures c.in_err-moved.was (search rules)

pub returns-then-is_small : goal.returns-then-is_small
returns-then-is_small c =
    lowering_far _ _ _ c.requires.self_value c.requires.plus_zero_value c.counted.ensures c.mul_add_at.ensures c.in_ok-x.was c.greater-lower.ensures
    c.counted-2.ensures c.tested.ensures c.in_ok-moved.was
    (taken-call _ _ _ c.is_small.ensures c.if-is_small.true refl)

pub returns-in_err-at_lower : goal.returns-in_err-at_lower
returns-in_err-at_lower c =
    lowering_far _ _ _ c.requires.self_value c.requires.plus_zero_value c.counted.ensures c.mul_add_at.ensures c.in_ok-x.was c.greater-lower.ensures
    c.counted-2.ensures c.tested.ensures c.in_ok-moved.was
    (left_call _ _ _ c.is_small.ensures c.if-is_small.false (counted-refused _ _ _ c.counted-3.ensures c.objective-tried.ensures c.in_err-at_lower.was (search rules)))

pub raise-requires : goal.raise-requires
raise-requires c =
    record {
      ready = still_ready _ c.requires.ready c.objective-tried.auto.first c.objective-tried.auto.second;
      evaluations_bound = omega (arith, c.requires.evaluations_bound);
    }

pub returns : goal.returns
returns c =
    lowering_far _ _ _ c.requires.self_value c.requires.plus_zero_value c.counted.ensures c.mul_add_at.ensures c.in_ok-x.was c.greater-lower.ensures
    c.counted-2.ensures c.tested.ensures c.in_ok-moved.was
    (left_call _ _ _ c.is_small.ensures c.if-is_small.false (counted-given _ _ _ _ c.counted-3.ensures c.objective-tried.ensures c.in_ok-at_lower.was c.raise.ensures))
