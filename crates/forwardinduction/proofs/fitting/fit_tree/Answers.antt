-- `fitting::fit_tree` meets its contract. Assumes nothing.
use native.Mathlib.Omega.{arith}
use Rattle.forwardinduction.specs.laws.LaidFront.{fronted}
use Rattle.forwardinduction.specs.laws.FitLaid.{root-row}
use Rattle.forwardinduction.proofs.fitting.fit_tree.Goals as goal

pub returns : goal.returns
returns c =
    rw (root-row c.args.counts.now c.args.nodes.now c.args.first.now c.args.second.now c.requires.counts_value.0 c.requires.counts_value.1 (omega (arith, (fronted c.requires.laid).first_room, c.requires.counts_value.0))) at c.fit.ensures
