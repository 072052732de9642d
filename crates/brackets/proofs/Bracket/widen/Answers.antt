-- One widening meets its contract. Assumes nothing.
use Rattle.brackets.specs.Brackets.{widen}
use Rattle.brackets.proofs.Laws.{called_no}
use Rattle.interestrate.proofs.Laws.{prices}
use Rattle.brackets.proofs.Bracket.widen.Goals as goal

pub returns-then-falls : goal.returns-then-falls
unfolding widen
returns-then-falls c = search prices

pub lower-requires : goal.lower-requires
lower-requires c = record { ready = c.requires.ready; evaluations_bound = c.requires.evaluations_bound; self_value = called_no _ c.falls.ensures c.if-falls.false; plus_zero_value = c.if-self.true }

pub returns-then-self : goal.returns-then-self
unfolding widen
returns-then-self c = search prices

pub returns : goal.returns
unfolding widen
returns c = search prices
