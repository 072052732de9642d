-- `flat_layers` meets its contract: no room, the last layer, or one layer in front of the others. Assumes nothing.
use mathlib.Core.Path.{sym, ◌∙◌}
use Rattle.lattice.specs.laws.FlatLaid.{lays-refused, lays_last, lays_more}
use Rattle.latticetransitions.proofs.flat.+flat_layers.Goals as goal

pub returns-then-not-has_room : goal.returns-then-not-has_room
returns-then-not-has_room t c =
    let a = c.args in
    lays-refused a.nodes.now a.probabilities.now a.rows.first a.rows.second a.step _ (sym c.has_room.ensures ∙ c.if-not-has_room.true)

pub returns-then-spacings-eq0 : goal.returns-then-spacings-eq0
returns-then-spacings-eq0 t c =
    let a = c.args in
    lays_last a.nodes.now a.probabilities.now a.rows.first a.rows.second a.step a.counts.now a.spacings.now (sym c.has_room.ensures ∙ c.if-not-has_room.false) c.requires.0 c.if-spacings-eq0.true c.lay_node.ensures

pub returns : goal.returns
returns t c =
    let a = c.args in
    lays_more a.nodes.now a.probabilities.now a.rows.first a.rows.second a.step a.spacings.now a.counts.now (sym c.has_room.ensures ∙ c.if-not-has_room.false) c.if-spacings-eq0.false c.lay_node.ensures c.lay_still.ensures c.flat_layers.ensures
