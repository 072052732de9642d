-- `transitions::lattice_transitions` meets its contract. Assumes nothing.
use mathlib.Core.Path.{◌≡◌, sym, ◌∙◌}
use mathlib.Core.Bool.{true, false}
use mathlib.Core.List.{List}
use lib.ListN.{length}
use lib.Ieee.{Float}
use Rattle.lattice.specs.Layers.{Room}
use Rattle.lattice.specs.Lattice.{all_flat, flat, curved, lattice}
use Rattle.lattice.specs.laws.Growing.{room_left}
use Rattle.latticetransitions.proofs.transitions.lattice_transitions.Goals as goal

lattice-flat : (room : Room) (alpha dt : Float) (variances : List Float) → all_flat variances ≡ true → lattice room alpha dt variances ≡ flat room 0 (length variances)
unfolding lattice
lattice-flat room alpha dt variances e = rw e

lattice-curved : (room : Room) (alpha dt : Float) (variances : List Float) → all_flat variances ≡ false → lattice room alpha dt variances ≡ curved room alpha dt variances
unfolding lattice
lattice-curved room alpha dt variances e = rw e

pub returns-then-all_flat : goal.returns-then-all_flat
returns-then-all_flat c =
    let a = c.args in
    let e = sym c.all_flat.ensures ∙ c.if-all_flat.true in
    rw (lattice-flat (room_left a.nodes.now a.probabilities.now a.rows.first a.rows.second) a.alpha a.dt a.variances.now e, e, ← c.requires.counts_len.1) c.flat_tree.ensures

pub returns : goal.returns
returns c =
    let a = c.args in
    let e = sym c.all_flat.ensures ∙ c.if-all_flat.false in
    rw (lattice-curved (room_left a.nodes.now a.probabilities.now a.rows.first a.rows.second) a.alpha a.dt a.variances.now e, e) c.curved_tree.ensures
