-- `worth::of_calls` meets its contract. Assumes nothing.
use mathlib.Core.Path.{◌∙◌}
use Rattle.filevalue.proofs.Replying.{worth}
use Rattle.filevalue.proofs.worth.of_calls.Goals as goal

pub shape_of-nodes : goal.shape_of-nodes
shape_of-nodes c = c.tree_value-uncalled.auto.nodes ∙ c.tree_value-called.auto.nodes

pub shape_of-probabilities : goal.shape_of-probabilities
shape_of-probabilities c = c.tree_value-uncalled.auto.probabilities ∙ c.tree_value-called.auto.probabilities

pub shape_of-first : goal.shape_of-first
shape_of-first c = c.tree_value-uncalled.auto.first_row ∙ c.tree_value-called.auto.first_row

pub shape_of-second : goal.shape_of-second
shape_of-second c = c.tree_value-uncalled.auto.second_row ∙ c.tree_value-called.auto.second_row

pub returns : goal.returns
returns c = worth c.tree_value-called.ensures c.tree_value-uncalled.ensures c.worth_of_calls.ensures
