-- `exps::reduce_row` meets its contract. The invariant: of the entries passed, k and r are there, and each is reducible. Assumes nothing.
use mathlib.Core.Path.{refl}
use Rattle.elementary.specs.laws.Steps.{quotient-finite}
use Rattle.elementary.specs.laws.Rows.{parting_more}
use Rattle.elementary.proofs.exps.reduce_row.Goals as goal

pub near-k-requires : goal.near-k-requires
near-k-requires c = quotient-finite _ (c.within.ensures c.if-not-within.false)

pub loop-i-preserved : goal.loop-i-preserved
loop-i-preserved c = parting_more _ _ c.loop-i.invariant c.loop-i-test.true c.requires.0 c.requires.1 (c.within.ensures c.if-not-within.false) c.near-k.ensures refl
