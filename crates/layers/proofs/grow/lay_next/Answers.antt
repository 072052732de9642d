-- `lay_next` meets its contract: by the test of the room. Assumes nothing.
use native.Mathlib.Omega.{arith}
use mathlib.Core.Path.{sym, ap, ◌∙◌}
use lib.ListN.{length, get_or}
use lib.IntN.{pos}
use Rattle.lattice.specs.declared.reach.Reach.{Reach}
use Rattle.lattice.specs.laws.Reaching.{nothing_below}
use Rattle.lattice.specs.laws.LaidBehind.{reach_few}
use Rattle.lattice.specs.laws.RoomTest.{fitting}
use Rattle.lattice.specs.laws.NextLaid.{room_of, laid_next, no_room}
use Rattle.layers.proofs.grow.lay_next.Goals as goal

pub has_room-requires : goal.has_room-requires
has_room-requires c =
    let l = c.args.nodes.now in
    let n = ap (λ (r : Reach). r.count) c.count_next-reached.ensures in
    let f = reach_few (nothing_below (get_or l 1 (pos 0))) l 0 c.args.count in
    omega (arith, c.requires.1, c.well_formed)

pub spread-requires : goal.spread-requires
spread-requires c =
    let a = c.args in
    let n = ap (λ (r : Reach). r.count) c.count_next-reached.ensures in
    let h = (fitting (room_of (length a.nodes.now) a.probabilities a.rows.first a.rows.second) _ _ (sym c.has_room.ensures ∙ c.if-has_room.true)).pairs in
    (c.requires.0, omega arith, c.requires.2)

pub returns-then-has_room : goal.returns-then-has_room
returns-then-has_room c =
    let a = c.args in
    let n = ap (λ (r : Reach). r.count) c.count_next-reached.ensures in
    laid_next (room_of (length a.nodes.now) a.probabilities a.rows.first a.rows.second) a.spacing a.step a.count a.nodes.now n c.has_room.ensures c.if-has_room.true c.spread.ensures

pub returns : goal.returns
returns c =
    let a = c.args in
    let n = ap (λ (r : Reach). r.count) c.count_next-reached.ensures in
    no_room (room_of (length a.nodes.now) a.probabilities a.rows.first a.rows.second) a.spacing a.step a.count a.nodes.now n c.has_room.ensures c.if-has_room.false
