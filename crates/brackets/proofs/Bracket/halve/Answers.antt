-- One halving meets its contract. Assumes nothing.
use Rattle.std.proofs.Common.{refl, rules}
use Rattle.floats.proofs.Laws.{left_call, taken-call, left, taken}
use Rattle.brackets.specs.Brackets.{halve}
use Rattle.brackets.proofs.Laws.{counted-given, counted-refused}
use Rattle.brackets.proofs.brackets.Halving.{halving_refused, halving_narrows}
use Rattle.brackets.proofs.Bracket.halve.Goals as goal

pub returns-in_err-middle : goal.returns-in_err-middle
unfolding halve
returns-in_err-middle c = counted-refused _ _ _ c.counted.ensures c.midpoint_at.ensures c.in_err-middle.was (search rules)

pub returns-in_err-at_middle : goal.returns-in_err-at_middle
unfolding halve
returns-in_err-at_middle c =
    counted-given _ _ _ _ c.counted.ensures c.midpoint_at.ensures c.in_ok-middle.was
    (counted-refused _ _ _ c.counted-2.ensures c.objective-tried.ensures c.in_err-at_middle.was (search rules))

pub returns-then-is_small : goal.returns-then-is_small
unfolding halve
returns-then-is_small c =
    counted-given _ _ _ _ c.counted.ensures c.midpoint_at.ensures c.in_ok-middle.was
    (counted-given _ _ _ _ c.counted-2.ensures c.objective-tried.ensures c.in_ok-at_middle.was
    (taken-call _ _ _ c.is_small.ensures c.if-is_small.true refl))

pub returns-in_err-width : goal.returns-in_err-width
returns-in_err-width c =
    halving_refused _ _ c.counted.ensures c.midpoint_at.ensures c.in_ok-middle.was
    c.counted-2.ensures c.objective-tried.ensures c.in_ok-at_middle.was
    c.is_small.ensures c.if-is_small.false c.counted-3.ensures c.tested.ensures c.in_err-width.was (search rules)

pub returns-then-is_small-2 : goal.returns-then-is_small-2
returns-then-is_small-2 c =
    halving_narrows _ _ c.counted.ensures c.midpoint_at.ensures c.in_ok-middle.was
    c.counted-2.ensures c.objective-tried.ensures c.in_ok-at_middle.was
    c.is_small.ensures c.if-is_small.false c.counted-3.ensures c.tested.ensures c.in_ok-width.was
    (taken-call _ _ _ c.is_small-2.ensures c.if-is_small-2.true refl)

pub returns-then-at_middle : goal.returns-then-at_middle
returns-then-at_middle c =
    halving_narrows _ _ c.counted.ensures c.midpoint_at.ensures c.in_ok-middle.was
    c.counted-2.ensures c.objective-tried.ensures c.in_ok-at_middle.was
    c.is_small.ensures c.if-is_small.false c.counted-3.ensures c.tested.ensures c.in_ok-width.was
    (left_call _ _ _ c.is_small-2.ensures c.if-is_small-2.false (taken _ _ _ c.if-at_middle.true refl))

pub returns : goal.returns
returns c =
    halving_narrows _ _ c.counted.ensures c.midpoint_at.ensures c.in_ok-middle.was
    c.counted-2.ensures c.objective-tried.ensures c.in_ok-at_middle.was
    c.is_small.ensures c.if-is_small.false c.counted-3.ensures c.tested.ensures c.in_ok-width.was
    (left_call _ _ _ c.is_small-2.ensures c.if-is_small-2.false (left _ _ _ c.if-at_middle.false refl))
