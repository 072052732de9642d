-- The layer in front once it is filled: its transitions and middles, and what is known of the next layer. Assumes nothing.
use Rattle.std.specs.Prelude.{ℕ, ◌*◌, ◌<◌, ◌≡◌, List, ◌++◌, length, drop, ℤ, Float, Ok}
use Rattle.std.proofs.Common.{arith, sym, ◌∙◌}
use Rattle.terms.specs.laws.Outcomes.{given_of}
use Rattle.lattice.specs.declared.Transition.{Transition}
use Rattle.lattice.specs.Transitions.{Step}
use Rattle.lattice.specs.Lattice.{transitions_of}
use Rattle.lattice.specs.laws.Stored.{numbers_in, pairs_of}
use Rattle.lattice.specs.laws.RisingMiddles.{Climbs}
use Rattle.lattice.specs.laws.Counting.{middles_from}
use Rattle.lattice.specs.laws.Middles.{Along, no_node, one_node, Upright, middles_of, transitions-along}
use Rattle.lattice.specs.laws.NextLayer.{NextLayer}
use Rattle.lattice.proofs.theorems.NextLayer.{next_layer}
use Rattle.lattice.specs.laws.FilledLayer.{FilledLayer, numbers_from, numbers-count}
use Rattle.lattice.specs.laws.FrontReads.{numbers-front, filled-middles}
use Rattle.lattice.specs.laws.Laid.{front_nodes}
use Rattle.lattice.specs.laws.Growing.{Front}
use Rattle.lattice.specs.laws.FilledFront.{FilledFront, along-count, along-within, passed-given}

next_of : {s : Step} {t : ℤ} {ns : List ℤ} {ts : List Transition} → 0 < length ns → Upright s → Climbs t ns → Along s ns ts → NextLayer ts
next_of h u c no_node = absurd (omega arith)
next_of h u c (one_node f a) = next_layer u c (one_node f a)

front_with : {s : Step} {c : ℕ} {spacing decay : Float} {before mid : List ℤ} {beforeP midP : List Float} (ts : List Transition) → Front c spacing decay before beforeP → Upright s → FilledLayer s c (Ok tt) before mid beforeP midP → transitions_of s (numbers_from before 0 c) ≡ Ok ts → FilledFront s c before mid beforeP midP
front_with {s} {c} {spacing} {decay} {before} {mid} {beforeP} {midP} ts front u f g =
    let ns = numbers_in (front_nodes c before) in
    let p = front.pairs in
    let q = front.some-node in
    let l = f.kept in
    let e : numbers_from before 0 c ≡ ns = numbers-front before c p in
    let m : transitions_of s ns ≡ Ok ts = rw e at g in
    let a : Along s ns ts = given_of (transitions-along s ns) m in
    let n : length ns ≡ c = rw e at (numbers-count before 0 c) in
    let k : length ts ≡ c = sym (along-count a) ∙ n in
    let two : 2 * c ≡ c * 2 = omega arith in
    let three : 3 * c ≡ c * 3 = omega arith in
    let w : mid ≡ pairs_of ns ts ++ drop (c * 2) before = f.nodes ts g ∙ (rw (e, two)) in
    let ms : middles_from mid 0 c ≡ middles_of ts = rw w (filled-middles ns ts (drop (c * 2) before) c n k) in
    record {
      made = ts;
      is_made = m;
      numbers-many = n;
      many = k;
      some-node = q;
      next = next_of (rw n q) u front.climbs a;
      slice = w;
      threes = f.probabilities ts g ∙ (rw three);
      middles = ms;
      within = rw ms (along-within a);
      pairs = omega arith;
      kept = l;
      kept_too = f.kept_too;
    }

pub filled-front : {s : Step} {c : ℕ} {spacing decay : Float} {before mid : List ℤ} {beforeP midP : List Float} → Front c spacing decay before beforeP → Upright s → FilledLayer s c (Ok tt) before mid beforeP midP → FilledFront s c before mid beforeP midP
filled-front {s} {c} {before = before} front u f =
    let g = passed-given (transitions_of s (numbers_from before 0 c)) f.outcome in
    front_with g.0 front u f g.1
