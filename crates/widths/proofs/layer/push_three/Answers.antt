-- `push_three` meets its contract: each of the three in turn, with the room that the last one has. Assumes nothing.
use Rattle.lattice.specs.laws.Bounds.{within-numbered, numbered-suc, numbered_pred}
use Rattle.widths.specs.laws.Spreading.{first_room, second-room, third-room, three_placed}
use Rattle.lattice.proofs.Signed.{back-numbered, less_fits, less_is, more_fits, more_is}
use Rattle.widths.proofs.layer.push_three.Goals as goal

pub overflow_sub-middle : goal.overflow_sub-middle
overflow_sub-middle c = less_fits c.args.middle c.requires.1

pub push-low-requires : goal.push-low-requires
push-low-requires c =
    let a = c.args in
    let w = c.requires.1 in
    let p = less_is a.middle w in
    (first_room a.from a.r a.middle a.nodes.now c.requires.0 p, rw p (numbered_pred w))

pub push-mid-requires : goal.push-mid-requires
push-mid-requires c =
    let a = c.args in
    let w = c.requires.1 in
    let p = less_is a.middle w in
    let q = back-numbered (within-numbered w) in
    (second-room a.from a.r a.middle a.nodes.now c.requires.0 p c.push-low.ensures q, rw q (within-numbered w))

pub overflow_add-middle : goal.overflow_add-middle
overflow_add-middle c = more_fits c.args.middle c.requires.1

pub push-requires : goal.push-requires
push-requires c =
    let a = c.args in
    let w = c.requires.1 in
    let p = less_is a.middle w in
    let q = back-numbered (within-numbered w) in
    let z = more_is a.middle w in
    (third-room a.from a.r a.middle a.nodes.now c.requires.0 p c.push-low.ensures q c.push-mid.ensures z, rw z (numbered-suc w))

pub returns : goal.returns
returns c =
    let a = c.args in
    let w = c.requires.1 in
    let p = less_is a.middle w in
    let q = back-numbered (within-numbered w) in
    let z = more_is a.middle w in
    three_placed a.from a.r a.middle a.nodes.now c.requires.0 p c.push-low.ensures q c.push-mid.ensures z c.push.ensures
