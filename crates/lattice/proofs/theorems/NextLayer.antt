-- The next layer of a rising layer: its middles rise, so its nodes are laid by appending, they rise, and each node's destinations are found by replaying. Assumes nothing.
use Rattle.std.specs.Prelude.{List, ◌∷◌, ℤ}
use Rattle.std.proofs.Math.Path.{refl}
use Rattle.lattice.specs.declared.Transition.{Transition}
use Rattle.lattice.specs.Transitions.{Step}
use Rattle.lattice.specs.laws.RisingMiddles.{Climbs, above}
use Rattle.lattice.proofs.theorems.RisingMiddles.{around-climbs}
use Rattle.lattice.proofs.theorems.Replaying.{replayed}
use Rattle.lattice.specs.laws.Middles.{Along, one_node, Upright, middles_of, destinations-around, rising-along}
use Rattle.lattice.specs.laws.NextLayer.{NextLayer}

pub next_layer : {s : Step} {t : ℤ} {n : ℤ} {ns : List ℤ} {ts : List Transition} → Upright s → Climbs t (n ∷ ns) → Along s (n ∷ ns) ts → NextLayer ts
unfolding middles_of
next_layer u (above h c) (one_node {t = t} {ts = ts} f a) =
    let r = rising-along u f c a in
    let e = destinations-around (one_node f a) in
    record {
      first = t.middle;
      others = middles_of ts;
      middles = refl;
      rising = r;
      around_them = e;
      climbs = rw e (around-climbs t.middle (middles_of ts) r);
      replays = rw e (replayed t.middle (middles_of ts) r);
    }
