-- `layers` meets its contract: the invariant is that the layers from the i-th on, with the sums so far, give the whole. Assumes nothing.
use Rattle.std.specs.Prelude.{◌≡◌, Err}
use Rattle.std.proofs.Common.{rules}
use Rattle.widths.specs.laws.Summing.{summing_begun}
use Rattle.widths.proofs.laws.Summing.{summing_one, summing_stopped, summing_all}
use Rattle.widths.proofs.tree.layers.Goals as goal

pub loop-i-init : goal.loop-i-init
loop-i-init c = let a = c.args in let p = c.requires in summing_begun a.decay a.first a.variances.now a.nodes.now p.0 p.1 p.3 p.4

pub returns-in_err-layer : goal.returns-in_err-layer
returns-in_err-layer c =
    let a = c.args in
    let l = c.loop-i in
    let x : c.from_residual.result ≡ Err c.in_err-layer.field-0.0 = search rules in
    rw x
    (summing_stopped a.decay a.first a.variances.now a.nodes.now l.nodes l.layer.spacing l.layer.count l.total l.widest l.i l.invariant c.loop-i-test.true (rw c.in_err-layer.was at c.widen.ensures))

pub loop-i-preserved : goal.loop-i-preserved
loop-i-preserved c =
    let a = c.args in
    let l = c.loop-i in
    rw c.max-widest.ensures
    (summing_one a.decay a.first a.variances.now a.nodes.now l.nodes l.layer.spacing l.layer.count l.total l.widest l.i l.invariant c.loop-i-test.true (rw c.in_ok-layer.was at c.widen.ensures))

pub returns : goal.returns
returns c =
    let a = c.args in
    let l = c.loop-i in
    rw c.max.ensures
    (summing_all a.decay a.first a.variances.now a.nodes.now l.nodes l.layer.spacing l.layer.count l.total l.widest l.i l.invariant c.loop-i-test.false)
