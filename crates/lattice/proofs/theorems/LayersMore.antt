-- A layer that was grown, in front of the tree laid behind it: the parts read back, and the tree with this layer in front. Assumes nothing.
use Rattle.std.specs.Prelude.{ℕ, ◌*◌, List, length, drop, ℤ, Float}
use Rattle.std.proofs.Common.{arith, length-drop}
use Rattle.std.proofs.Math.IntN.{pred_ℤ}
use Rattle.lattice.specs.laws.Growing.{Grew, Front}
use Rattle.lattice.proofs.theorems.GrownFront.{next_some}
use Rattle.lattice.specs.laws.LayersMore.{GrownBy, counted, next_numbers, next_of}

module _ {c one two : ℕ} {decay spacing : Float} {g : Grew} {before after : List ℤ} {beforeP afterP : List Float} (w : GrownBy c one two decay spacing g before after beforeP afterP) where
  -- the next layer can grow in its turn
  pub next_front : Front (length (next_of g)) g.spacing decay (drop (c * 2) after) (drop (c * 3) afterP)
  next_front =
      let k = counted w in
      let h = w.next.fit.pairs in
      let i = w.next.fit.threes in
      record {
        pairs = rw (length-drop (c * 2) after, w.kept) (omega arith);
        threes = rw (length-drop (c * 3) afterP, w.kept_too) (omega arith);
        some-node = next_some w.next.next;
        low = pred_ℤ (pred_ℤ w.next.next.first);
        climbs = rw (next_numbers w) w.next.next.climbs;
        spacing-above = w.next.new.not_below_lem;
        decay-above = w.front.decay-above;
      }
