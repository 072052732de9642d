-- `curved::rooted` meets its contract. Assumes nothing.
use native.Mathlib.Omega.{arith}
use mathlib.Core.Path.{refl, sym, ◌∙◌}
use Rattle.lattice.specs.laws.Growing.{room_left}
use Rattle.lattice.specs.laws.RoomTest.{fitting}
use Rattle.lattice.specs.laws.Rooted.{root-front, root-refused, root-laid, lays-nothing}
use Rattle.layers.specs.laws.Known.{before-none}
use Rattle.latticetransitions.proofs.curved.rooted.Goals as goal

pub layers-requires : goal.layers-requires
layers-requires c =
    let f = fitting (room_left c.args.nodes.now c.args.probabilities.now c.args.rows.first c.args.rows.second) 1 1 (sym c.has_room.ensures ∙ c.if-has_room.true) in
    record {
      front = root-front c.args.decay c.args.spacing c.args.nodes.now c.args.probabilities.now f.pairs f.threes c.requires.t.0 c.requires.t.1;
      counts_len = c.requires.counts_len;
      variances_bound = (omega (arith, c.requires.t.2), f.first, f.second);
      before = before-none _ _ _ _ _;
    }

pub returns-then-has_room : goal.returns-then-has_room
returns-then-has_room c = root-laid c.args.rows.first c.args.rows.second c.args.decay c.args.spacing c.args.nodes.now c.args.probabilities.now c.args.variances.now (sym c.has_room.ensures ∙ c.if-has_room.true) c.layers.ensures.lays

pub returns : goal.returns
returns c = lays-nothing (root-refused c.args.rows.first c.args.rows.second c.args.decay c.args.spacing c.args.nodes.now c.args.probabilities.now c.args.variances.now (sym c.has_room.ensures ∙ c.if-has_room.false)) refl
