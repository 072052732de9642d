-- The layers of a tree laid in parts of the lent slices: what a recursive call asks, and what the whole slices have once their parts are back. Assumes nothing.
use Rattle.std.specs.Prelude.{Ok, Err}
use Prim.Native.Nat.{ℕ, ◌+◌, ◌*◌, ◌≤◌, ◌<◌}
use native.Mathlib.Omega.{arith}
use mathlib.Core.Path.{◌≡◌, refl, sym, ap, ◌∙◌}
use mathlib.Core.Bool.{false}
use mathlib.Core.List.{List, [], ◌∷◌, ◌++◌}
use lib.ListN.{length, get_or, take, drop, set, take-append-drop}
use lib.IntN.{ℤ}
use lib.Ieee.{Float, nan}
use Rattle.floats.specs.Refusals.{Refusal}
use Rattle.floats.specs.Answers.{Check, Outcome}
use Rattle.lattice.specs.declared.NextLayer.{NextLayer}
use Rattle.lattice.specs.Lattice.{grown}
use Rattle.lattice.specs.laws.Parts.{part_from, part_from_lem, with_part, with_rest}
use Rattle.lattice.specs.laws.LaidTree.{LaysTree}
use Rattle.lattice.specs.laws.Growing.{Front, GrownLayer, grown_next, room_left}
use Rattle.lattice.specs.laws.LayersMore.{numbers_of}
use Rattle.lattice.proofs.theorems.Layering.{grows, by, front-behind, layers_more, layers-refused}
use Rattle.layers.specs.laws.Known.{Before, before-grown}
use Rattle.layers.specs.laws.Behind.{GrownBehind, LaysBehind, front-room, part-back, part-front, part-kept}

module _ (one two c step : ℕ) (decay spacing : Float) (before after : List ℤ) (beforeP afterP : List Float) (f : Front c spacing decay before beforeP) where
  abbrev Grows : Outcome NextLayer → List Float → Type 0
  Grows r vs = GrownLayer (grown_next (room_left before beforeP one two) decay spacing (numbers_of c before) step (get_or vs 0 nan)) c r before after beforeP afterP

  abbrev Lays : List Float → Check → List ℕ → List Float → List ℤ → List Float → Type 0
  Lays vs r counts spacings nodes probabilities = LaysTree false one two c (numbers_of c before) (grown (room_left before beforeP one two) decay spacing 0 (numbers_of c before) step vs) r counts spacings nodes probabilities

  refused_tree_lem : (q : Refusal) (counts : List ℕ) (spacings : List Float) (vs : List Float) → (length vs ≡ 0 → ⊥) → Grows (Err q) vs → Lays vs (Err q) counts spacings after afterP
  refused_tree_lem q counts spacings [] some l = absurd (some refl)
  refused_tree_lem q counts spacings (v ∷ vs) some l = layers-refused one two c step decay spacing v before after beforeP afterP f q l vs counts spacings

  more_tree : (s : Float) (n : ℕ) (r : Check) (counts : List ℕ) (spacings : List Float) (left : List ℤ) (left_p : List Float) → c ≤ one → c ≤ two → (vs : List Float) → (length vs ≡ 0 → ⊥) → Grows (Ok (record { spacing = s; count = n })) vs
      → LaysTree false one two n (numbers_of n (drop (c * 2) after)) (grown (room_left (drop (c * 2) after) (drop (c * 3) afterP) one two) decay s 0 (numbers_of n (drop (c * 2) after)) (step + 1) (drop 1 vs)) r counts spacings left left_p
      → Lays vs r (c ∷ counts) (spacing ∷ spacings) (take (c * 2) after ++ left) (take (c * 3) afterP ++ left_p)
  more_tree s n r counts spacings left left_p h i [] some l x = absurd (some refl)
  more_tree s n r counts spacings left left_p h i (v ∷ vs) some l x = layers_more one two c step decay spacing v before after beforeP afterP f s n l vs r counts spacings left left_p h i x

-- A first part that is as it was, and what is behind it.
whole_again : {A : Type 0} (a : ℕ) (xs ys : List A) → take a ys ≡ take a xs → take a xs ++ drop a ys ≡ ys
whole_again {A} a xs ys e = ap (λ (z : List A). z ++ drop a ys) (sym e) ∙ take-append-drop a ys

-- The layer of c nodes grows behind b nodes.
module _ (b one two c step : ℕ) (decay spacing : Float) (variances : List Float) (before after : List ℤ) (beforeP afterP : List Float) (result : Outcome NextLayer)
    (f : Front c spacing decay (drop (b * 2) before) (drop (b * 3) beforeP)) (some : length variances ≡ 0 → ⊥)
    (l : GrownBehind (grown_next (room_left (drop (b * 2) before) (drop (b * 3) beforeP) one two) decay spacing (numbers_of c (drop (b * 2) before)) step (get_or variances 0 nan)) b c result before after beforeP afterP) where
  abbrev LaysHere : Check → List ℕ → List Float → List ℤ → List Float → Type 0
  LaysHere r counts spacings nodes probabilities = LaysBehind b one two c (numbers_of c (drop (b * 2) before)) (grown (room_left (drop (b * 2) before) (drop (b * 3) beforeP) one two) decay spacing 0 (numbers_of c (drop (b * 2) before)) step variances) r counts spacings before nodes beforeP probabilities

  -- a refusal is handed up
  pub refused-here : (q : Refusal) (counts : List ℕ) (spacings : List Float) → result ≡ Err q → LaysHere (Err q) counts spacings after afterP
  refused-here q counts spacings e =
      record {
        lays = refused_tree_lem one two c step decay spacing (drop (b * 2) before) (drop (b * 2) after) (drop (b * 3) beforeP) (drop (b * 3) afterP) f q counts spacings variances some (rw e at l.grown);
        behind = l.behind;
      }

  -- both parts behind b nodes are there
  pub pairs-room : b * 2 ≤ length after
  pairs-room = omega (arith, (front-room b before beforeP f).0, l.behind.kept)

  pub threes-room : b * 3 ≤ length afterP
  threes-room = omega (arith, (front-room b before beforeP f).1, l.behind.kept_too)

  module _ (s : Float) (n : ℕ) (e : result ≡ Ok (record { spacing = s; count = n })) where
    laid_so : GrownLayer (grown_next (room_left (drop (b * 2) before) (drop (b * 3) beforeP) one two) decay spacing (numbers_of c (drop (b * 2) before)) step (get_or variances 0 nan)) c (Ok (record { spacing = s; count = n })) (drop (b * 2) before) (drop (b * 2) after) (drop (b * 3) beforeP) (drop (b * 3) afterP)
    laid_so = rw e at l.grown

    -- what the rest asks of the parts
    pub front-part : Front n s decay (drop (c * 2) (part_from (b * 2) after)) (drop (c * 3) (part_from (b * 3) afterP))
    front-part =
        rw (part_from_lem (b * 2) after, part_from_lem (b * 3) afterP)
        (front-behind one two c step decay spacing (get_or variances 0 nan) (drop (b * 2) before) (drop (b * 2) after) (drop (b * 3) beforeP) (drop (b * 3) afterP) f s n laid_so)

    pub before-part : Before decay spacing (get_or variances 0 nan) c (part_from (b * 2) after) (part_from (b * 3) afterP)
    before-part =
        rw (part_from_lem (b * 2) after, part_from_lem (b * 3) afterP)
        (before-grown one two c step decay spacing (get_or variances 0 nan) (drop (b * 2) before) (drop (b * 2) after) (drop (b * 3) beforeP) (drop (b * 3) afterP) f s n laid_so)

    pub rows-room : (n ≤ one) × (n ≤ two)
    rows-room =
        let g = grows one two c step decay spacing (get_or variances 0 nan) (drop (b * 2) before) (drop (b * 2) after) (drop (b * 3) beforeP) (drop (b * 3) afterP) f s n laid_so in
        let w = by one two c step decay spacing (get_or variances 0 nan) (drop (b * 2) before) (drop (b * 2) after) (drop (b * 3) beforeP) (drop (b * 3) afterP) f s n laid_so in
        (omega (arith, w.next.fit.first, g.new-count), omega (arith, w.next.fit.second, g.new-count))

    -- the whole slices, once the parts are back
    pub laid-behind : (counts others : List ℕ) (spacings others-too : List Float) (left : List ℤ) (left_p : List Float) (r : Check) → 0 < length counts → 0 < length spacings → c ≤ one → c ≤ two
        → LaysBehind c one two n (numbers_of n (drop (c * 2) (part_from (b * 2) after))) (grown (room_left (drop (c * 2) (part_from (b * 2) after)) (drop (c * 3) (part_from (b * 3) afterP)) one two) decay s 0 (numbers_of n (drop (c * 2) (part_from (b * 2) after))) (step + 1) (part_from 1 variances)) r others others-too (part_from (b * 2) after) left (part_from (b * 3) afterP) left_p
        → LaysHere r (with_part 1 (set counts 0 c) others) (with_part 1 (set spacings 0 spacing) others-too) (with_part (b * 2) after left) (with_part (b * 3) afterP left_p)
    laid-behind counts others spacings others-too left left_p r g h i j x = go (rw (part_from_lem (b * 2) after, part_from_lem (b * 3) afterP, part_from_lem 1 variances) at x)
      where
        go : LaysBehind c one two n (numbers_of n (drop (c * 2) (drop (b * 2) after))) (grown (room_left (drop (c * 2) (drop (b * 2) after)) (drop (c * 3) (drop (b * 3) afterP)) one two) decay s 0 (numbers_of n (drop (c * 2) (drop (b * 2) after))) (step + 1) (drop 1 variances)) r others others-too (drop (b * 2) after) left (drop (b * 3) afterP) left_p
            → LaysHere r (with_part 1 (set counts 0 c) others) (with_part 1 (set spacings 0 spacing) others-too) (with_part (b * 2) after left) (with_part (b * 3) afterP left_p)
        go y =
            let t = more_tree one two c step decay spacing (drop (b * 2) before) (drop (b * 2) after) (drop (b * 3) beforeP) (drop (b * 3) afterP) f s n r others others-too (drop (c * 2) left) (drop (c * 3) left_p) i j variances some laid_so y.lays in
            record {
              lays =
                  rw (with_rest counts c others g, with_rest spacings spacing others-too h, part-back (b * 2) after left pairs-room, part-back (b * 3) afterP left_p threes-room)
                  (rw (whole_again (c * 2) (drop (b * 2) after) left y.behind.front, whole_again (c * 3) (drop (b * 3) afterP) left_p y.behind.front_too) at t);
              behind =
                  record {
                    front = part-front (b * 2) after left pairs-room ∙ l.behind.front;
                    front_too = part-front (b * 3) afterP left_p threes-room ∙ l.behind.front_too;
                    kept = part-kept (b * 2) after left pairs-room y.behind.kept ∙ l.behind.kept;
                    kept_too = part-kept (b * 3) afterP left_p threes-room y.behind.kept_too ∙ l.behind.kept_too;
                  };
            }
