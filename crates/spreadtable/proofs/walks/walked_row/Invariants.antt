-- `walks::walked_row` meets its contract. Assumes nothing.
use Rattle.rollback.specs.Walking.{root_at}
use Rattle.spreadtable.specs.laws.Filling.{Filling}
use Rattle.spreadtable.specs.laws.FittedOnce.{spread_cell}
use Rattle.spreadtable.proofs.Lanes.{SameRows}
use Rattle.spreadtable.proofs.walks.walked_row.Given as goal

abbrev pub invariant-loop-spread : goal.invariant-loop-spread
invariant-loop-spread l = Filling (spread_cell (root_at l.lattice l.events)) l.spreads l.initial.row l.row l.spread-index × SameRows l.initial.first l.initial.second l.first l.second
