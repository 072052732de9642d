-- `middle_of` meets its contract: the quotient's test stands for those before it; the quotient rounds to a whole number. Assumes nothing.
use Rattle.std.proofs.Common.{rules, sym, ◌∙◌}
use mir.Facts.{to_z-of_z}
use Rattle.floats.specs.Answers.{plus_zero}
use Rattle.floats.specs.laws.Propagation.{passed_test}
use Rattle.floats.specs.laws.Whole.{rounded-whole}
use Rattle.lattice.specs.laws.Making.{step_from, quotient_of}
use Rattle.lattice.proofs.Fused.{quotient_refused, quotient-passed}
use Rattle.lattice.proofs.node.middle_of.Goals as goal

pub returns-in_err-quotient : goal.returns-in_err-quotient
returns-in_err-quotient c =
    let a = c.args in
    let s = step_from a.spacing a.decay a.new_spacing plus_zero plus_zero a.place in
    quotient_refused s a.node (sym (rw (c.from.ensures, to_z-of_z c.ranges.node) at c.tested.ensures) ∙ c.in_err-quotient.was) (search rules)

pub held-requires : goal.held-requires
held-requires c =
    let a = c.args in
    let s = step_from a.spacing a.decay a.new_spacing plus_zero plus_zero a.place in
    let q = passed_test (quotient_of s a.node) a.place (sym (rw (c.from.ensures, to_z-of_z c.ranges.node) at c.tested.ensures) ∙ c.in_ok-quotient.was) in
    rw (c.near.ensures, q.0) (rounded-whole (quotient_of s a.node) (search rules) q.1)

pub returns : goal.returns
returns c =
    let a = c.args in
    let s = step_from a.spacing a.decay a.new_spacing plus_zero plus_zero a.place in
    let q = passed_test (quotient_of s a.node) a.place (sym (rw (c.from.ensures, to_z-of_z c.ranges.node) at c.tested.ensures) ∙ c.in_ok-quotient.was) in
    quotient-passed s a.node (search rules) q.1 (rw (c.near.ensures, q.0, c.from.ensures, to_z-of_z c.ranges.node) at c.held.ensures)
