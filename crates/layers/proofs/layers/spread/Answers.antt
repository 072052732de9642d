-- `spread` meets its contract: middle by middle, with the layer in front as it was. Assumes nothing.
use Rattle.lattice.specs.laws.Bounds.{within-numbered}
use Rattle.lattice.specs.laws.Counting.{first_held}
use Rattle.lattice.specs.laws.Spreading.{spreading_begun, spread-held, spread-pairs, spread-room, spreading_one, spreading_all}
use Rattle.lattice.proofs.Signed.{back-numbered}
use Rattle.layers.proofs.layers.spread.Goals as goal

pub nothing_below-r-requires : goal.nothing_below-r-requires
nothing_below-r-requires c =
    let w = first_held c.args.nodes.now c.args.count c.requires.0 c.requires.2 in
    rw (back-numbered (within-numbered w)) w

pub loop-i-init : goal.loop-i-init
loop-i-init c =
    let a = c.args in
    let w = first_held a.nodes.now a.count c.requires.0 c.requires.2 in
    let b = spreading_begun a.nodes.now a.count c.requires.2 c.requires.1 in
    rw (c.nothing_below-r.ensures, back-numbered (within-numbered w)) (record { spreading = b; pairs = spread-pairs a.nodes.now a.count _ 0 a.nodes.now b })

pub push_three-r-requires : goal.push_three-r-requires
push_three-r-requires c =
    let l = c.loop-i in
    let t = c.loop-i-test.true in
    let w = spread-held c.args.nodes.now c.args.count l.r l.i l.nodes l.invariant.spreading t in
    rw (back-numbered (within-numbered w)) (spread-room c.args.nodes.now c.args.count l.r l.i l.nodes l.invariant.spreading t, w)

pub loop-i-preserved : goal.loop-i-preserved
loop-i-preserved c =
    let a = c.args in
    let l = c.loop-i in
    let t = c.loop-i-test.true in
    let w = spread-held a.nodes.now a.count l.r l.i l.nodes l.invariant.spreading t in
    let b = spreading_one a.nodes.now a.count l.r l.i l.nodes l.invariant.spreading t in
    rw (c.push_three-r.ensures.reach, c.push_three-r.ensures.slice, back-numbered (within-numbered w)) (record { spreading = b; pairs = spread-pairs a.nodes.now a.count _ _ _ b })

pub shape_of-nodes : goal.shape_of-nodes
shape_of-nodes c = c.loop-i.invariant.spreading.long

pub returns : goal.returns
returns c = spreading_all c.args.nodes.now c.args.count c.loop-i.r c.loop-i.i c.loop-i.nodes c.loop-i.invariant.spreading c.loop-i-test.false
