-- A flat layer laid in front of the others: the flat tree from a layer on stands in the slices. Assumes nothing.
use Rattle.std.specs.Prelude.{ℕ, suc, ◌+◌, ◌≤◌, ◌≡◌, refl, true, false, length, ℤ, pos, negsuc, Float, Ok, Err}
use Rattle.std.proofs.Common.{add-one, arith, sym, ap, ◌∙◌, length-drop}
use mathlib.Core.List.{List, [], ◌∷◌}
use Rattle.std.proofs.Math.ListN.{drop, drop_of_length-le}
use Rattle.floats.specs.Answers.{plus_zero, one, Check, Outcome, follow, on_outcome}
use Rattle.terms.specs.laws.Outcomes.{Gives, gives, nothing, given_of, same_given, given_or_refused}
use Rattle.hullwhite.specs.laws.Filled.{check_of}
use Rattle.lattice.specs.Layers.{Room, fits}
use Rattle.lattice.specs.Lattice.{Lattice, Layer, root_layer, flat_layer}
use Rattle.lattice.specs.laws.Bounds.{one_middle, no_middle}
use Rattle.lattice.specs.laws.RisingMiddles.{above, none}
use Rattle.lattice.specs.laws.Replayed.{placed-flat}
use Rattle.lattice.specs.laws.Stored.{numbers_in, middles_in, transitions_in, made_of}
use Rattle.lattice.specs.laws.Laid.{front_nodes, layers_in, final_in, Stepped, last_laid, more_laid}
use Rattle.lattice.specs.laws.LaidTree.{LaidTree, LaysTree}
use Rattle.lattice.specs.laws.Growing.{room_left}
use Rattle.lattice.specs.laws.Parts.{part_from, part_from_lem, with_part, with_part_lem}
use Rattle.lattice.specs.laws.RoomTest.{fitting, room_behind}
use Rattle.lattice.specs.laws.FlatLeft.{with_flat, flat_left, flat-refused, flat_last, flat_next}
use Rattle.floats.specs.declared.Reason.TheVariants as reason

-- ---- the layers

last_tree : (a b : ℕ) (nodes : List ℤ) (probabilities : List Float) → 1 ≤ a → 1 ≤ b
    → LaidTree true a b 1 root_layer (record { layers = []; final = root_layer }) (1 ∷ []) [] (pos 0 ∷ pos 0 ∷ nodes) probabilities
unfolding numbers_in layers_in final_in
last_tree a b nodes probabilities h k =
    record { others = []; counted = refl; first_layer = refl; layers = refl; final = refl; laid = last_laid {c = 1} {nodes = pos 0 ∷ pos 0 ∷ nodes} (omega arith) h k }

one_step : (a b : ℕ) (nodes : List ℤ) (probabilities : List Float) → 1 ≤ a → 1 ≤ b → numbers_in (front_nodes 1 nodes) ≡ root_layer
    → Stepped true a b 1 1 (pos 0 ∷ pos 0 ∷ nodes) (plus_zero ∷ one ∷ plus_zero ∷ probabilities)
unfolding numbers_in middles_in
one_step a b nodes probabilities h k e =
    record {
      pairs = omega arith;
      threes = omega arith;
      some-node = omega arith;
      first_room = h;
      second-room = k;
      next_first = h;
      next_second = k;
      numbers = root_layer;
      are_next = sym e;
      counted = refl;
      low = negsuc 0;
      climbs = above tt none;
      placed = placed-flat;
      within = one_middle {m = pos 0} (record { within = omega arith }) no_middle;
    }

more_tree : (a b : ℕ) (t : Lattice) (counts : List ℕ) (spacings : List Float) (nodes : List ℤ) (probabilities : List Float) → 1 ≤ a → 1 ≤ b → LaidTree true a b 1 root_layer t counts spacings nodes probabilities
    → LaidTree true a b 1 root_layer (with_flat t) (1 ∷ counts) (plus_zero ∷ spacings) (pos 0 ∷ pos 0 ∷ nodes) (plus_zero ∷ one ∷ plus_zero ∷ probabilities)
unfolding numbers_in layers_in final_in transitions_in made_of
more_tree a b t counts spacings nodes probabilities h k l =
    record {
      others = counts;
      counted = refl;
      first_layer = refl;
      layers = ap (λ (ls : List Layer). flat_layer ∷ ls) l.layers;
      final = l.final;
      laid = rw l.counted (more_laid (one_step a b nodes probabilities h k l.first_layer) (rw l.counted at l.laid));
    }

-- ---- the whole

check_flat : (o : Outcome Lattice) → check_of (follow o λ t. Ok (with_flat t)) ≡ check_of o
unfolding check_of on_outcome
check_flat (Ok t) = refl
check_flat (Err q) = refl

front-known : {a b : ℕ} {counts : List ℕ} {spacings : List Float} {nodes : List ℤ} {probabilities : List Float} (o : Outcome Lattice) → 1 ≤ a → 1 ≤ b
    → ((t : Lattice) → o ≡ Ok t → LaidTree true a b 1 root_layer t counts spacings nodes probabilities)
    → Gives (λ t. LaidTree true a b 1 root_layer t (1 ∷ counts) (plus_zero ∷ spacings) (pos 0 ∷ pos 0 ∷ nodes) (plus_zero ∷ one ∷ plus_zero ∷ probabilities)) (follow o λ t. Ok (with_flat t))
unfolding on_outcome
front-known {a} {b} {counts} {spacings} {nodes} {probabilities} (Ok t) h k l = gives (more_tree a b t counts spacings nodes probabilities h k (l t refl))
front-known (Err q) h k l = nothing

module _ (nodes : List ℤ) (probabilities : List Float) (a b : ℕ) where
  abbrev here : Room
  here = room_left nodes probabilities a b

  -- No room for the layer.
  pub lays-refused : (step left : ℕ) {counts : List ℕ} {spacings : List Float} {after : List ℤ} {afterP : List Float} → fits here 1 1 ≡ false
      → LaysTree true a b 1 root_layer (flat_left here step left) (Err (record { reason = reason.NoRoom; place = step })) counts spacings after afterP
  unfolding check_of
  lays-refused step left e =
      let q = flat-refused here step left e in
      record { outcome = rw q; tree = λ t g. absurd (given_or_refused g q) }

  -- The last layer.
  pub lays_last : (step : ℕ) (counts : List ℕ) (spacings : List Float) {counted : List ℕ} {after : List ℤ} {afterP : List Float} → fits here 1 1 ≡ true → length counts ≡ length spacings + 1 → length spacings ≡ 0
      → (counted ≡ 1 ∷ drop 1 counts) × (after ≡ pos 0 ∷ pos 0 ∷ drop 2 nodes)
      → LaysTree true a b 1 root_layer (flat_left here step (length spacings)) (Ok tt) counted spacings after afterP
  unfolding check_of
  lays_last step counts [] {counted} {after} {afterP} e n z l =
      let f = fitting here 1 1 e in
      let q = flat_last here step e in
      let d : drop 1 counts ≡ [] = drop_of_length-le counts {i = 1} (omega arith) in
      rw (l.0, l.1, d)
      (record { outcome = rw q; tree = λ t g. rw (← same_given (sym q ∙ g)) (last_tree a b (drop 2 nodes) afterP f.first f.second) })
  lays_last step counts (s ∷ spacings) e n z l = absurd (omega arith)

  -- A layer in front of the others.
  lays-front : (step left : ℕ) {r : Check} {counts : List ℕ} {spacings : List Float} {after : List ℤ} {afterP : List Float} → fits here 1 1 ≡ true
      → LaysTree true a b 1 root_layer (flat_left (room_behind here 1) (suc step) left) r counts spacings after afterP
      → LaysTree true a b 1 root_layer (flat_left here step (suc left)) r (1 ∷ counts) (plus_zero ∷ spacings) (pos 0 ∷ pos 0 ∷ after) (plus_zero ∷ one ∷ plus_zero ∷ afterP)
  lays-front step left e l =
      let f = fitting here 1 1 e in
      let q = flat_next here step left e in
      let o = flat_left (room_behind here 1) (suc step) left in
      record {
        outcome = l.outcome ∙ sym (check_flat o) ∙ ap check_of (sym q);
        tree = λ t g. given_of (front-known o f.first f.second l.tree) (sym q ∙ g);
      }

  -- The same by the parts that the others are laid in.
  pub lays_more : (step : ℕ) (spacings : List Float) (counts : List ℕ) {r : Check} {counted counts' : List ℕ} {spaced spacings' : List Float} {before after : List ℤ} {beforeP afterP : List Float} → fits here 1 1 ≡ true → (length spacings ≡ 0 → ⊥)
      → (counted ≡ 1 ∷ drop 1 counts) × (before ≡ pos 0 ∷ pos 0 ∷ drop 2 nodes)
      → (spaced ≡ plus_zero ∷ drop 1 spacings) × (beforeP ≡ plus_zero ∷ one ∷ plus_zero ∷ drop 3 probabilities)
      → LaysTree true a b 1 root_layer (flat_left (room_left (part_from 2 before) (part_from 3 beforeP) a b) (step + 1) (length (part_from 1 spaced))) r counts' spacings' after afterP
      → LaysTree true a b 1 root_layer (flat_left here step (length spacings)) r (with_part 1 counted counts') (with_part 1 spaced spacings') (with_part 2 before after) (with_part 3 beforeP afterP)
  lays_more step [] counts e h m n l = absurd (h refl)
  lays_more step (s ∷ spacings) counts {r} {counted} {counts'} {spaced} {spacings'} {before} {after} {beforeP} {afterP} e h m n l =
      let k : LaysTree true a b 1 root_layer (flat_left (room_left (drop 2 nodes) (drop 3 probabilities) a b) (suc step) (length spacings)) r counts' spacings' after afterP =
      rw (part_from_lem 2 before, part_from_lem 3 beforeP, part_from_lem 1 spaced, m.1, n.0, n.1, add-one step) at l in
      rw (with_part_lem 1 counted counts', with_part_lem 1 spaced spacings', with_part_lem 2 before after, with_part_lem 3 beforeP afterP, m.0, m.1, n.0, n.1)
      (lays-front step (length spacings) e (rw (length-drop 2 nodes, length-drop 3 probabilities) at k))
