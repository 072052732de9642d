-- Moving the upper end meets its contract. Assumes nothing.
use Rattle.std.proofs.Common.{refl, rules}
use Rattle.floats.proofs.Laws.{taken, left}
use Rattle.brackets.specs.Brackets.{raised}
use Rattle.brackets.proofs.Laws.{counted-given, counted-refused}
use Rattle.brackets.proofs.Bracket.raise.Goals as goal

pub returns-in_err-upper : goal.returns-in_err-upper
unfolding raised
returns-in_err-upper c = taken _ _ _ c.if-self.true (counted-refused _ _ _ c.counted.ensures c.mul_add_at.ensures c.in_err-upper.was (search rules))

pub returns-in_err-at_upper : goal.returns-in_err-at_upper
unfolding raised
returns-in_err-at_upper c =
    taken _ _ _ c.if-self.true
    (counted-given _ _ _ _ c.counted.ensures c.mul_add_at.ensures c.in_ok-upper.was
    (counted-refused _ _ _ c.counted-then-self.ensures c.objective-tried.ensures c.in_err-at_upper.was (search rules)))

pub returns-then-self : goal.returns-then-self
unfolding raised
returns-then-self c =
    taken _ _ _ c.if-self.true
    (counted-given _ _ _ _ c.counted.ensures c.mul_add_at.ensures c.in_ok-upper.was
    (counted-given _ _ _ _ c.counted-then-self.ensures c.objective-tried.ensures c.in_ok-at_upper.was refl))

pub returns : goal.returns
unfolding raised
returns c = left _ _ _ c.if-self.false refl
