-- `value_over` meets its contract: the fit, then the walk over what stands in the slices (`Valued`). Assumes nothing.
use Rattle.std.proofs.Common.{arith, rules, refl}
use Rattle.lattice.specs.laws.Totals.{laid-total}
use Rattle.forwardinduction.specs.laws.LaidFront.{laid-over}
use Rattle.treebasedbondpricer.specs.laws.FittedIn.{root-count}
use Rattle.treebasedbondpricer.specs.laws.Valued.{standing, value-refused, value_is}
use Rattle.latticevalue.proofs.value.value_over.Goals as goal

pub returns-in_err-dt : goal.returns-in_err-dt
returns-in_err-dt c = value-refused _ c.fitted_tree.ensures c.in_err-dt.was (search rules)

pub root_value-requires : goal.root_value-requires
root_value-requires c =
    let s = standing c.fitted_tree.ensures c.in_ok-dt.was in
    let kept = c.fitted_tree.auto in
    let d = kept.shifts in
    let e = kept.spacings in
    let p = c.requires in
    record { laid = laid-over kept.first kept.second s.fitted.stands.laid; root = (root-count s.fitted.stands, s.fitted.stands.first_layer); steps = (omega arith, omega arith, omega arith); calls = (omega arith, omega arith) }

pub returns-in_err-value : goal.returns-in_err-value
returns-in_err-value c = value_is (standing c.fitted_tree.ensures c.in_ok-dt.was) _ _ _ c.root_value.ensures refl (rw c.in_err-value.was (search rules))

pub node_count-requires : goal.node_count-requires
node_count-requires c =
    let s = standing c.fitted_tree.ensures c.in_ok-dt.was in
    omega (arith, laid-total s.fitted.stands.laid, c.well_formed)

pub returns : goal.returns
returns c = value_is (standing c.fitted_tree.ensures c.in_ok-dt.was) _ _ _ c.root_value.ensures c.node_count.ensures (rw c.in_ok-value.was refl)
