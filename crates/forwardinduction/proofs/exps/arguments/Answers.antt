-- `exps::arguments` meets its contract. Assumes nothing.
use Rattle.std.proofs.Common.{rules, ap, ◌∙◌}
use mir.Syntax.{w32}
use mir.Facts.{to_z-of_z}
use Rattle.elementary.specs.laws.Rows.{filled_more}
use Rattle.lattice.specs.Layers.{node_float}
use Rattle.forwardinduction.proofs.exps.arguments.Goals as goal

pub loop-k-preserved : goal.loop-k-preserved
loop-k-preserved g c =
    let number = to_z-of_z {w = w32} (record { sfits = c.node-1.given }) in
    (search rules, λ f says. filled_more _ _ _ _ _ (c.loop-k.invariant.1 f says) (search rules) (says _ _ c.argument.ensures ∙ ap (λ z. f (node_float z)) number))
