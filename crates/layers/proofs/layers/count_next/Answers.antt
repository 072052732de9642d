-- `count_next` meets its contract: the invariant is that the middles from node i on, replayed, give the whole reach. Assumes nothing.
use native.Mathlib.Omega.{arith}
use Rattle.lattice.specs.laws.Bounds.{within-numbered}
use Rattle.lattice.specs.laws.Counting.{counting-begun, counting_one, counting_all, middle-held, first_held}
use Rattle.lattice.proofs.Signed.{back-numbered}
use Rattle.layers.proofs.layers.count_next.Goals as goal

pub nothing_below-r-requires : goal.nothing_below-r-requires
nothing_below-r-requires c = rw (back-numbered (within-numbered (first_held c.args.nodes.now c.args.count c.requires.0 c.requires.3))) (first_held c.args.nodes.now c.args.count c.requires.0 c.requires.3)

pub loop-i-init : goal.loop-i-init
loop-i-init c =
    let b = counting-begun c.args.nodes.now c.args.count c.requires.3 in
    rw (c.nothing_below-r.ensures, back-numbered (within-numbered (first_held c.args.nodes.now c.args.count c.requires.0 c.requires.3))) (record { counting = b; few = b.few })

pub reached-r-requires : goal.reached-r-requires
reached-r-requires c =
    let l = c.loop-i in
    let w = middle-held c.args.nodes.now c.args.count l.r l.i l.invariant.counting c.loop-i-test.true in
    (omega (arith, l.invariant.few, c.requires.2, c.loop-i-test.true), rw (back-numbered (within-numbered w)) w)

pub loop-i-preserved : goal.loop-i-preserved
loop-i-preserved c =
    let l = c.loop-i in
    let w = middle-held c.args.nodes.now c.args.count l.r l.i l.invariant.counting c.loop-i-test.true in
    let b = counting_one c.args.nodes.now c.args.count l.r l.i l.invariant.counting c.loop-i-test.true in
    rw (c.reached-r.ensures, back-numbered (within-numbered w)) (record { counting = b; few = b.few })

pub returns : goal.returns
returns c = counting_all c.args.nodes.now c.args.count c.loop-i.r c.loop-i.i c.loop-i.invariant.counting c.loop-i-test.false
