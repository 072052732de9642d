-- What the layers of a tree leave in the slices, from the last one back to the front: no step left, a step refused, and a step grown before the rest. Assumes nothing.
use Rattle.std.specs.Prelude.{ℕ, ◌+◌, ◌-◌, ◌*◌, ◌≤◌, ◌≡◌, refl, false, length, take, drop, ℤ, Float, Ok, Err}
use Rattle.std.proofs.Common.{arith, add-one, sym, ap, ◌∙◌, length-drop}
use mathlib.Core.List.{List, ◌∷◌, ◌++◌}
use Rattle.floats.specs.Refusals.{Refusal}
use Rattle.floats.specs.Answers.{Check, Outcome, follow, on_outcome}
use Rattle.terms.specs.laws.Outcomes.{same_given, given_or_refused, follow-given, follow-refused, of_given, given_of}
use Rattle.hullwhite.specs.laws.Filled.{check_of}
use Rattle.lattice.specs.Layers.{Room}
use Rattle.lattice.specs.Lattice.{Lattice, grown}
use Rattle.lattice.specs.laws.LaidTree.{LaysTree}
use Rattle.lattice.specs.laws.Growing.{Grew, Size, size_of, Front, GrownLayer, grown_next, next_outcome, room_left}
use Rattle.lattice.specs.laws.GrownPart.{Used, in_front, grown_more}
use Rattle.lattice.specs.laws.RoomTest.{room_behind}
use Rattle.lattice.proofs.theorems.GrownFront.{grown_next_lem}
use Rattle.lattice.specs.laws.LayersMore.{numbers_of, next_of, numbers-there, GrownBy, next_numbers, layer_more}
use Rattle.lattice.proofs.theorems.LayersMore.{next_front}

-- A step that was laid: what it grew by.
pub record Grows (o : Outcome Grew) (spacing : Float) (count : ℕ) : Type 0 where
  pub grew : Grew
  pub is : o ≡ Ok grew
  pub new_spacing_lem : grew.spacing ≡ spacing
  pub new-count : length (next_of grew) ≡ count

grows_of : (o : Outcome Grew) (s : Float) (n : ℕ) → Ok (record { spacing = s; count = n }) ≡ follow o (λ g. Ok (size_of g)) → Grows o s n
unfolding on_outcome
grows_of (Ok g) s n e =
    let same : size_of g ≡ record { spacing = s; count = n } = same_given (sym e) in
    record { grew = g; is = refl; new_spacing_lem = ap (λ (z : Size). z.spacing) same; new-count = ap (λ (z : Size). z.count) same }
grows_of (Err r) s n e = absurd (given_or_refused (sym e) refl)

stops_of : (o : Outcome Grew) (q : Refusal) → Err q ≡ follow o (λ g. Ok (size_of g)) → o ≡ Err q
unfolding on_outcome
stops_of (Ok g) q e = absurd (given_or_refused e refl)
stops_of (Err r) q e = let z : r ≡ q = cc in ap Err z

check_mapped : {A B : Type 0} (o : Outcome A) (k : A → B) → check_of (follow o λ x. Ok (k x)) ≡ check_of o
unfolding on_outcome check_of
check_mapped (Ok x) k = refl
check_mapped (Err r) k = refl

module _ (one two c step : ℕ) (decay spacing v : Float) (before after : List ℤ) (beforeP afterP : List Float) where
  abbrev whole : Room
  whole = room_left before beforeP one two

  abbrev grew_by : Outcome Grew
  grew_by = grown_next whole decay spacing (numbers_of c before) step v

  used : Front c spacing decay before beforeP → length (numbers_of c before) ≡ c → Used whole (length (numbers_of c before))
  used f e =
      let p = f.pairs in
      let q = f.threes in
      record { pairs = omega arith; threes = omega arith }

  module _ (f : Front c spacing decay before beforeP) (s : Float) (n : ℕ) (l : GrownLayer grew_by c (Ok (record { spacing = s; count = n })) before after beforeP afterP) where
    numbers-long : length (numbers_of c before) ≡ c
    numbers-long = numbers-there f

    pub grows : Grows grew_by s n
    unfolding next_outcome
    grows = grows_of grew_by s n l.outcome

    pub by : GrownBy c one two decay spacing grows.grew before after beforeP afterP
    by =
        record {
          front = f;
          next = given_of (grown_next_lem whole decay spacing f.low (numbers_of c before) step v (omega (arith, f.some-node, numbers-long)) f.climbs f.spacing-above f.decay-above) grows.is;
          nodes = l.nodes grows.grew grows.is;
          probabilities = l.probabilities grows.grew grows.is;
          kept = l.kept;
          kept_too = l.kept_too;
        }

    -- the rest can go on behind
    pub front-behind : Front n s decay (drop (c * 2) after) (drop (c * 3) afterP)
    front-behind = rw (grows.new_spacing_lem, grows.new-count) at (next_front by)

    -- the room behind is what is left of the slices
    same_room : room_behind whole (length (numbers_of c before)) ≡ room_left (drop (c * 2) after) (drop (c * 3) afterP) one two
    same_room =
        let a : length before - 2 * length (numbers_of c before) ≡ length (drop (c * 2) after) = rw (length-drop (c * 2) after, l.kept, numbers-long) (ap (λ (z : ℕ). length before - z) (omega arith)) in
        let b : length beforeP - 3 * length (numbers_of c before) ≡ length (drop (c * 3) afterP) = rw (length-drop (c * 3) afterP, l.kept_too, numbers-long) (ap (λ (z : ℕ). length beforeP - z) (omega arith)) in
        rw (a, b)

    abbrev rest : List Float → Outcome Lattice
    rest vs = grown (room_left (drop (c * 2) after) (drop (c * 3) afterP) one two) decay s 0 (numbers_of n (drop (c * 2) after)) (step + 1) vs

    all_grown : (vs : List Float) → grown whole decay spacing 0 (numbers_of c before) step (v ∷ vs) ≡ follow (rest vs) λ t. Ok (in_front (numbers_of c before) grows.grew.transitions spacing t)
    all_grown vs =
        grown_more whole decay spacing (numbers_of c before) step v vs (used f numbers-long)
        ∙ follow-given grew_by _ grows.is
        ∙ rw (same_room, ← next_numbers by, grows.new_spacing_lem, grows.new-count, add-one step)

    pub layers_more : (vs : List Float) (r : Check) (counts : List ℕ) (spacings : List Float) (left : List ℤ) (left_p : List Float) → c ≤ one → c ≤ two
        → LaysTree false one two n (numbers_of n (drop (c * 2) after)) (rest vs) r counts spacings left left_p
        → LaysTree false one two c (numbers_of c before) (grown whole decay spacing 0 (numbers_of c before) step (v ∷ vs)) r (c ∷ counts) (spacing ∷ spacings) (take (c * 2) after ++ left) (take (c * 3) afterP ++ left_p)
    layers_more vs r counts spacings left left_p h i x =
        let k : Lattice → Outcome Lattice = λ t. Ok (in_front (numbers_of c before) grows.grew.transitions spacing t) in
        record {
          outcome = rw (all_grown vs) (x.outcome ∙ sym (check_mapped (rest vs) (in_front (numbers_of c before) grows.grew.transitions spacing)));
          tree = λ t e.
              let p = of_given (rest vs) k (sym (all_grown vs) ∙ e) in
              rw (← same_given p.2) (layer_more by left left_p h i (rw (grows.new-count, ← next_numbers by, grows.new-count) (x.tree p.0 p.1)));
        }

  -- a step that was refused
  pub layers-refused : Front c spacing decay before beforeP → (q : Refusal) → GrownLayer grew_by c (Err q) before after beforeP afterP
      → (vs : List Float) (counts : List ℕ) (spacings : List Float) → LaysTree false one two c (numbers_of c before) (grown whole decay spacing 0 (numbers_of c before) step (v ∷ vs)) (Err q) counts spacings after afterP
  unfolding next_outcome check_of
  layers-refused f q l vs counts spacings =
      let e : grown whole decay spacing 0 (numbers_of c before) step (v ∷ vs) ≡ Err q = grown_more whole decay spacing (numbers_of c before) step v vs (used f (numbers-there f)) ∙ follow-refused grew_by _ (stops_of grew_by q l.outcome) in
      record { outcome = rw e; tree = λ t g. absurd (given_or_refused g e) }
