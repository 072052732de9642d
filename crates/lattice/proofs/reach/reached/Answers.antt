-- `reached` meets its contract: the three destinations one after the other. Assumes nothing.
use native.Mathlib.Omega.{arith}
use lib.IntN.{pos, ◌-ℤ◌}
use Rattle.lattice.specs.laws.Reaching.{reach, reach_one, reach_one-count}
use Rattle.lattice.proofs.Signed.{less_fits, less_is, more_fits, more_is, back-numbered, back}
use Rattle.lattice.specs.laws.Bounds.{within-numbered}
use Rattle.lattice.proofs.reach.reached.Goals as goal

pub overflow_sub-middle : goal.overflow_sub-middle
overflow_sub-middle c = less_fits c.args.middle c.requires.1

pub reached_one-mid-requires : goal.reached_one-mid-requires
reached_one-mid-requires c = rw c.reached_one-low.ensures (omega (arith, (reach_one-count c.args.r (back (back c.args.middle -ℤ pos 1))).1))

pub overflow_add-middle : goal.overflow_add-middle
overflow_add-middle c = more_fits c.args.middle c.requires.1

pub reached_one-requires : goal.reached_one-requires
reached_one-requires c =
    rw (c.reached_one-mid.ensures, c.reached_one-low.ensures)
    (let m = c.args.middle in
    let r = c.args.r in
    let low = back (back m -ℤ pos 1) in omega (arith, (reach_one-count r low).1, (reach_one-count (reach_one r low) (back m)).1))

pub returns : goal.returns
unfolding reach
returns c =
    let w = c.requires.1 in
    let m = c.args.middle in
    rw (c.reached_one.ensures, c.reached_one-mid.ensures, c.reached_one-low.ensures, less_is m w, more_is m w, back-numbered (within-numbered w))
