-- A layer that was grown, in front of the tree laid behind it: the parts read back, and the tree with this layer in front. Assumes nothing.
use Rattle.std.specs.Prelude.{ℕ, ◌+◌, ◌*◌, ◌≤◌, ◌≡◌, refl, false, List, ◌∷◌, ◌++◌, length, get_or, take, drop, ℤ, pos, Float}
use Rattle.std.proofs.Common.{arith, sym, length-append, length-take-le, take_at, drop_at}
use Rattle.std.proofs.Math.IntN.{pred_ℤ}
use Rattle.lattice.specs.declared.Transition.{Transition}
use Rattle.lattice.specs.Transitions.{Step}
use Rattle.lattice.specs.Lattice.{Lattice, destinations}
use Rattle.lattice.specs.laws.Stored.{numbers_in, middles_in, pairs_of, last_pairs, threes_of}
use Rattle.lattice.specs.laws.Middles.{Along, no_node, one_node, middles_of}
use Rattle.lattice.specs.laws.FilledLayer.{pairs-count, threes-count}
use Rattle.lattice.specs.laws.Replayed.{placed-curved}
use Rattle.lattice.specs.laws.Positions.{start_of}
use Rattle.lattice.specs.laws.Spots.{Placed}
use Rattle.lattice.specs.laws.Laid.{front_nodes, layers_in, final_in, Stepped, more_laid}
use Rattle.lattice.specs.laws.LaidTree.{LaidTree}
use Rattle.lattice.specs.laws.Growing.{Grew, Front, room_left}
use Rattle.lattice.specs.laws.ReadBack.{numbers-counted, along-counted, along-within, numbers-back, middles-back, transitions-back, last_numbers, last_counted}
use Rattle.lattice.specs.laws.GrownPart.{in_front}
use Rattle.lattice.specs.laws.GrownFront.{Next}

abbrev pub numbers_of : ℕ → List ℤ → List ℤ
numbers_of c nodes = numbers_in (front_nodes c nodes)

abbrev pub next_of : Grew → List ℤ
next_of g = destinations g.transitions

pub numbers-there : {c : ℕ} {spacing decay : Float} {nodes : List ℤ} {probabilities : List Float} → Front c spacing decay nodes probabilities → length (numbers_of c nodes) ≡ c
numbers-there {c} {nodes = nodes} f = numbers-counted c (front_nodes c nodes) (length-take-le (c * 2) nodes f.pairs)

-- A front that grew by g: what the slices have afterwards.
pub record GrownBy (c one two : ℕ) (decay spacing : Float) (g : Grew) (before after : List ℤ) (beforeP afterP : List Float) : Type 0 where
  pub front : Front c spacing decay before beforeP
  pub next : Next (room_left before beforeP one two) (numbers_of c before) g
  pub nodes : after ≡ pairs_of (numbers_of c before) g.transitions ++ (last_pairs (next_of g) ++ drop ((c + length (next_of g)) * 2) before)
  pub probabilities : afterP ≡ threes_of g.transitions ++ drop (c * 3) beforeP
  pub kept : length after ≡ length before
  pub kept_too : length afterP ≡ length beforeP

first_middle : {s : Step} {ns : List ℤ} {ts : List Transition} {m : ℤ} {ms : List ℤ} → Along s ns ts → middles_of ts ≡ m ∷ ms → get_or (pairs_of ns ts) 1 (pos 0) ≡ m
unfolding middles_of pairs_of
first_middle no_node e = absurd (let z : ◌≡◌ {A = ℕ} 0 1 = cc in omega arith)
first_middle (one_node f a) e = cc

module _ {c one two : ℕ} {decay spacing : Float} {g : Grew} {before after : List ℤ} {beforeP afterP : List Float} (w : GrownBy c one two decay spacing g before after beforeP afterP) where
  pub counted : length (numbers_of c before) ≡ c
  counted = numbers-there w.front

  pairs-long : length (pairs_of (numbers_of c before) g.transitions) ≡ c * 2
  pairs-long =
      let e = along-counted w.next.along in
      let n = counted in
      omega (arith, pairs-count (numbers_of c before) g.transitions e)

  threes-long : length (threes_of g.transitions) ≡ c * 3
  threes-long =
      let e = along-counted w.next.along in
      let n = counted in
      omega (arith, threes-count g.transitions)

  front-after : take (c * 2) after ≡ pairs_of (numbers_of c before) g.transitions
  front-after = rw w.nodes (take_at (pairs_of (numbers_of c before) g.transitions) _ (c * 2) pairs-long)

  threes-after : take (c * 3) afterP ≡ threes_of g.transitions
  threes-after = rw w.probabilities (take_at (threes_of g.transitions) _ (c * 3) threes-long)

  -- the next layer's numbers
  pub next_numbers : numbers_of (length (next_of g)) (drop (c * 2) after) ≡ next_of g
  next_numbers =
      rw (w.nodes, drop_at (pairs_of (numbers_of c before) g.transitions) (last_pairs (next_of g) ++ drop ((c + length (next_of g)) * 2) before) (c * 2) pairs-long, take_at (last_pairs (next_of g)) (drop ((c + length (next_of g)) * 2) before) (length (next_of g) * 2) (last_counted (next_of g)))
      (last_numbers (next_of g))

  module _ (left : List ℤ) (left_p : List Float) where
    front_now : take (c * 2) (take (c * 2) after ++ left) ≡ pairs_of (numbers_of c before) g.transitions
    front_now = rw front-after (take_at (pairs_of (numbers_of c before) g.transitions) left (c * 2) pairs-long)

    threes_now : take (c * 3) (take (c * 3) afterP ++ left_p) ≡ threes_of g.transitions
    threes_now = rw threes-after (take_at (threes_of g.transitions) left_p (c * 3) threes-long)

    rest_now : drop (c * 2) (take (c * 2) after ++ left) ≡ left
    rest_now = rw front-after (drop_at (pairs_of (numbers_of c before) g.transitions) left (c * 2) pairs-long)

    rest-threes : drop (c * 3) (take (c * 3) afterP ++ left_p) ≡ left_p
    rest-threes = rw threes-after (drop_at (threes_of g.transitions) left_p (c * 3) threes-long)

    placed_now : Placed (next_of g) false (start_of (pairs_of (numbers_of c before) g.transitions)) 0 (middles_in (pairs_of (numbers_of c before) g.transitions))
    placed_now =
        let x = w.next.next in
        rw (middles-back w.next.along, first_middle w.next.along x.middles, x.middles) (placed-curved x.replays)

    stepped : c ≤ one → c ≤ two → numbers_of (length (next_of g)) left ≡ next_of g → Stepped false one two c (length (next_of g)) (take (c * 2) after ++ left) (take (c * 3) afterP ++ left_p)
    stepped h i e =
        record {
          pairs = rw (length-append (take (c * 2) after) left, front-after, pairs-long) (omega arith);
          threes = rw (length-append (take (c * 3) afterP) left_p, threes-after, threes-long) (omega arith);
          some-node = w.front.some-node;
          first_room = h;
          second-room = i;
          next_first = w.next.fit.first;
          next_second = w.next.fit.second;
          numbers = next_of g;
          are_next = rw rest_now (sym e);
          counted = refl;
          low = pred_ℤ (pred_ℤ w.next.next.first);
          climbs = w.next.next.climbs;
          placed = rw front_now placed_now;
          within = rw (front_now, middles-back w.next.along) (along-within w.next.along);
        }

    -- this layer in front of a tree laid behind it
    pub layer_more : {t : Lattice} {counts : List ℕ} {spacings : List Float} → c ≤ one → c ≤ two → LaidTree false one two (length (next_of g)) (next_of g) t counts spacings left left_p
        → LaidTree false one two c (numbers_of c before) (in_front (numbers_of c before) g.transitions spacing t) (c ∷ counts) (spacing ∷ spacings) (take (c * 2) after ++ left) (take (c * 3) afterP ++ left_p)
    unfolding layers_in final_in
    layer_more {t} {counts} {spacings} h i l =
        record {
          others = counts;
          counted = refl;
          first_layer = rw (front_now) (numbers-back w.next.along);
          layers = rw (front_now, threes_now, rest_now, rest-threes, l.layers, numbers-back w.next.along, transitions-back w.next.along);
          final = rw rest_now l.final;
          laid = rw l.counted (more_laid {counts = l.others} {spacings = spacings} (stepped h i l.first_layer) (rw (rest_now, rest-threes, ← l.counted) l.laid));
        }
