-- `transition_of` meets its contract: the middle, then error and probabilities. Assumes nothing.
use Rattle.std.proofs.Common.{rules, ◌∙◌}
use mir.Facts.{to_z-of_z}
use Rattle.lattice.specs.laws.Middles.{made-within, made-transition, made-refused}
use Rattle.lattice.proofs.node.transition_of.Goals as goal

pub returns-in_err-m : goal.returns-in_err-m
returns-in_err-m c =
    let a = c.args in
    let e = made-refused a.step.now a.node _ (rw (to_z-of_z c.ranges.node) at c.middle_of.ensures) _ c.in_err-m.was in
    search rules

pub centred-requires : goal.centred-requires
centred-requires c =
    let a = c.args in
    made-within a.step.now a.node _ (rw (to_z-of_z c.ranges.node) at c.middle_of.ensures) _ c.in_ok-m.was

pub returns : goal.returns
returns c =
    let a = c.args in
    c.centred.ensures ∙ made-transition a.step.now a.node _ (rw (to_z-of_z c.ranges.node) at c.middle_of.ensures) _ c.in_ok-m.was
