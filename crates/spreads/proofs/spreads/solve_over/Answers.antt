-- `solve_over` meets its contract: the fit once, then the root over what stands in the slices (`SpreadSolved`). Assumes nothing.
use mathlib.Core.Path.{◌∙◌}
use native.Mathlib.Omega.{arith}
use Rattle.forwardinduction.specs.laws.LaidFront.{laid-over}
use Rattle.treebasedbondpricer.specs.laws.FittedIn.{root-count}
use Rattle.treebasedbondpricer.specs.laws.Valued.{standing}
use Rattle.sought.specs.laws.Sought.{Ready}
use Rattle.std.proofs.Common.{rules}
use Rattle.brackets.proofs.Laws.{was_given, was_refused, refused_after}
use Rattle.spreads.specs.laws.SpreadSolved.{root-refused, root_is}
use Rattle.spreads.proofs.spreads.solve_over.Goals as goal

pub fitted_tree-fitted-requires : goal.fitted_tree-fitted-requires
fitted_tree-fitted-requires c = let p = c.requires in record { steps_nonzero = (p.steps_nonzero.0, p.steps_nonzero.1); counts_len = p.counts_len }

pub returns-in_err-dt : goal.returns-in_err-dt
returns-in_err-dt c =
    root-refused _ _ _ c.fitted_tree-fitted.ensures (was_refused _ c.counted.ensures c.in_err-dt.was) (refused_after _ _ c.counted.ensures c.in_err-dt.was (search rules))

pub bracketed_root-requires : goal.bracketed_root-requires
unfolding Ready
bracketed_root-requires c =
    let s = standing c.fitted_tree-fitted.ensures (was_given _ c.counted.ensures c.in_ok-dt.was) in
    let d = c.fitted_tree-fitted.auto.shifts in
    let e = c.fitted_tree-fitted.auto.spacings in
    let p = c.requires in
    record {
      laid = laid-over c.fitted_tree-fitted.auto.first c.fitted_tree-fitted.auto.second s.fitted.stands.laid;
      root = (root-count s.fitted.stands, s.fitted.stands.first_layer);
      steps = (omega arith, omega arith, omega arith);
      calls = (omega arith, omega arith);
    }

pub shape_of-first : goal.shape_of-first
shape_of-first c = c.bracketed_root.auto.first ∙ c.fitted_tree-fitted.auto.first

pub shape_of-second : goal.shape_of-second
shape_of-second c = c.bracketed_root.auto.second ∙ c.fitted_tree-fitted.auto.second

pub returns : goal.returns
returns c = root_is _ _ _ (standing c.fitted_tree-fitted.ensures (was_given _ c.counted.ensures c.in_ok-dt.was)) c.bracketed_root.ensures
