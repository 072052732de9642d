-- `fill` meets its contract: the invariant is that the first i middles are there and the rest gives the whole. Assumes nothing.
use Rattle.std.specs.Prelude.{◌≡◌, Err}
use native.Mathlib.Omega.{arith}
use borrow.Author.Rules.{rules}
use mir.Syntax.{w32}
use mir.Facts.{to_z-of_z}
use Rattle.lattice.specs.laws.Bounds.{within-numbered}
use Rattle.lattice.proofs.Signed.{back-numbered}
use Rattle.widths.specs.laws.InPlace.{in_place_begun, in_place_stopped, in_place_held, in_place_one, in_place_all}
use Rattle.widths.proofs.layer.fill.Goals as goal

pub loop-i-init : goal.loop-i-init
loop-i-init c = let a = c.args in record { filling = in_place_begun a.spacing a.decay a.new_spacing a.place a.count a.nodes.now c.requires; room = c.requires }

pub returns-in_err-nodes : goal.returns-in_err-nodes
returns-in_err-nodes c =
    let a = c.args in
    let l = c.loop-i in
    let x : c.from_residual.result ≡ Err c.in_err-nodes.field-0.0 = search rules in
    rw x
    (in_place_stopped a.spacing a.decay a.new_spacing a.place a.count a.nodes.now l.nodes l.i l.invariant.filling c.middle_of.result c.loop-i-test.true
    (rw (to_z-of_z {w = w32} (record { sfits = c.node-1.given })) at c.middle_of.ensures)
    c.in_err-nodes.was)

pub loop-i-preserved : goal.loop-i-preserved
loop-i-preserved c =
    let a = c.args in
    let l = c.loop-i in
    let e = rw (to_z-of_z {w = w32} (record { sfits = c.node-1.given })) at c.middle_of.ensures in
    let m = c.middle_of.result in
    let z = c.in_ok-nodes.field-0 in
    let w = in_place_held a.spacing a.decay a.new_spacing a.place a.count a.nodes.now l.nodes l.i l.invariant.filling m z e c.in_ok-nodes.was in
    let g = in_place_one a.spacing a.decay a.new_spacing a.place a.count a.nodes.now l.nodes l.i l.invariant.filling m z c.loop-i-test.true e c.in_ok-nodes.was in
    rw (back-numbered (within-numbered w)) (record { filling = g; room = omega (arith, g.room, g.kept) })

pub returns : goal.returns
returns c =
    let a = c.args in
    in_place_all a.spacing a.decay a.new_spacing a.place a.count a.nodes.now c.loop-i.nodes c.loop-i.i c.loop-i.invariant.filling c.loop-i-test.false
