-- `known_at` meets its contract: a middle's two neighbours fit. Assumes nothing.
use Prim.Native.Nat.{◌+◌, ◌*◌}
use lib.ListN.{get_or}
use lib.IntN.{pos}
use Rattle.lattice.specs.laws.Bounds.{within-numbered}
use Rattle.lattice.proofs.Signed.{less_fits, less_is, more_fits, more_is, back-numbered}
use Rattle.layers.proofs.layers.known_at.Goals as goal

pub overflow_sub-result : goal.overflow_sub-result
overflow_sub-result c = let a = c.args in less_fits (get_or a.nodes.now (2 * a.j + 1) (pos 0)) c.requires.2

pub overflow_add-result : goal.overflow_add-result
overflow_add-result c = let a = c.args in more_fits (get_or a.nodes.now (2 * a.j + 1) (pos 0)) c.requires.2

pub returns : goal.returns
returns c =
    let a = c.args in
    let m = get_or a.nodes.now (2 * a.j + 1) (pos 0) in
    let w = c.requires.2 in
    rw (less_is m w, more_is m w, back-numbered (within-numbered w))
