-- `layers` meets its contract: the layer in front is grown, and the call of itself lays the rest in the parts behind it. Assumes nothing.
use Rattle.std.specs.Prelude.{◌≡◌, Err}
use Rattle.std.proofs.Common.{rules}
use Prim.Native.Nat.{◌<◌}
use native.Mathlib.Omega.{arith}
use lib.ListN.{length, set}
use Rattle.lattice.specs.laws.Layering.{layers_last}
use Rattle.lattice.specs.laws.Parts.{part_length, rest-length}
use Rattle.layers.specs.laws.Behind.{untouched}
use Rattle.latticetransitions.proofs.curved.Layering.{refused-here, front-part, before-part, rows-room, laid-behind}
use Rattle.latticetransitions.proofs.curved.+layers.Goals as goal

pub returns-then-variances-eq0 : goal.returns-then-variances-eq0
returns-then-variances-eq0 t c =
    let a = c.args in
    let p = c.requires in
    let s = p.variances_bound in
    let tree = layers_last p.front s.1 s.2 _ a.step a.variances.now a.counts.now a.spacings.now c.if-variances-eq0.true p.counts_len.0 p.counts_len.1 in
    record { lays = tree; behind = untouched a.before.count a.nodes.now a.probabilities.now }

pub returns-in_err-next : goal.returns-in_err-next
returns-in_err-next t c =
    let a = c.args in
    let g = c.grow in
    let counts = set a.counts.now 0 a.layer.count in
    let spacings = set a.spacings.now 0 a.layer.spacing in
    let e = c.in_err-next.was in
    let x : c.from_residual.result ≡ Err c.in_err-next.field-0.0 = search rules in
    rw x (refused-here a.before.count a.rows.first a.rows.second a.layer.count a.step a.decay a.layer.spacing a.variances.now a.nodes.now g.new.nodes a.probabilities.now g.new.probabilities g.result c.requires.front c.if-variances-eq0.false g.ensures _ counts spacings e)

pub layers-requires : goal.layers-requires
layers-requires t c =
    let a = c.args in
    let p = c.requires in
    let g = c.grow in
    let nodes = g.new.nodes in
    let probabilities = g.new.probabilities in
    let some = c.if-variances-eq0.false in
    let vs = part_length 1 a.variances.now in
    let cs = rest-length a.counts.now a.layer.count in
    let ss = rest-length a.spacings.now a.layer.spacing in
    let s = c.in_ok-next.next.spacing in
    let n = c.in_ok-next.next.count in
    let e = c.in_ok-next.was in
    let front = front-part a.before.count a.rows.first a.rows.second a.layer.count a.step a.decay a.layer.spacing a.variances.now a.nodes.now nodes a.probabilities.now probabilities g.result p.front some g.ensures s n e in
    let before = before-part a.before.count a.rows.first a.rows.second a.layer.count a.step a.decay a.layer.spacing a.variances.now a.nodes.now nodes a.probabilities.now probabilities g.result p.front some g.ensures s n e in
    let rows = rows-room a.before.count a.rows.first a.rows.second a.layer.count a.step a.decay a.layer.spacing a.variances.now a.nodes.now nodes a.probabilities.now probabilities g.result p.front some g.ensures s n e in (
      omega (arith, c.decreases, some),
      (
        front,
        (
          (omega (arith, p.counts_len.0, some), omega (arith, p.counts_len.1, some)),
          ((omega (arith, p.variances_bound.0, some), rows.0, rows.1), before),
        ),
      ),
    )

pub returns : goal.returns
returns t c =
    let a = c.args in
    let p = c.requires in
    let g = c.grow in
    let some = c.if-variances-eq0.false in
    let l = c.layers in
    let some-counts : 0 < length a.counts.now = omega (arith, p.counts_len.0) in
    let some-spacings : 0 < length a.spacings.now = omega (arith, p.counts_len.1, some) in
    laid-behind a.before.count a.rows.first a.rows.second a.layer.count a.step a.decay a.layer.spacing a.variances.now a.nodes.now g.new.nodes a.probabilities.now g.new.probabilities g.result p.front some g.ensures c.in_ok-next.next.spacing c.in_ok-next.next.count c.in_ok-next.was a.counts.now l.new.counts a.spacings.now l.new.spacings l.new.nodes l.new.probabilities l.result some-counts some-spacings p.variances_bound.1 p.variances_bound.2 l.ensures
