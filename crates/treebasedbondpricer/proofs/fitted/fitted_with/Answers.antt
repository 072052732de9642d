-- `fitted_with` meets its contract: transitions, then the fit (`FittedIn`). Assumes nothing.
use Rattle.std.specs.Prelude.{Ok}
use Rattle.std.proofs.Common.{arith, rules}
use Rattle.treebasedbondpricer.specs.laws.FittedIn.{refused_as, tree-refused, laid-tree, root-count, fit_refused, fit-fits}
use Rattle.treebasedbondpricer.proofs.fitted.fitted_with.Goals as goal

pub returns-in_err-lattice_transitions : goal.returns-in_err-lattice_transitions
returns-in_err-lattice_transitions c = refused_as (search rules) (tree-refused _ _ _ _ _ c.lattice_transitions.ensures c.in_err-lattice_transitions.was)

pub fit_tree-requires : goal.fit_tree-requires
fit_tree-requires c =
    let l = laid-tree (λ t place. Ok t) _ _ _ _ c.lattice_transitions.ensures (search rules) c.all_flat-flat.ensures in
    record { laid = l.laid; shifts_len = (omega arith, omega arith); counts_value = (root-count l, l.first_layer) }

pub returns-in_err-fit_tree : goal.returns-in_err-fit_tree
returns-in_err-fit_tree c = refused_as (search rules) (fit_refused _ _ _ _ _ c.lattice_transitions.ensures (search rules) c.all_flat-flat.ensures c.fit_tree.ensures c.in_err-fit_tree.was)

pub returns : goal.returns
returns c = fit-fits _ _ _ _ _ c.lattice_transitions.ensures (search rules) c.all_flat-flat.ensures c.fit_tree.ensures (search rules)
