-- Layers one after the other in the lent slices, each in front of what is left, and what a tree laid so promises. Assumes nothing.
use Rattle.std.specs.Prelude.{ℕ, ◌*◌, ◌≤◌, ◌<◌, ◌≡◌, Bool, List, [], ◌∷◌, length, take, drop, ℤ, Float}
use Rattle.lattice.specs.Lattice.{Layer}
use Rattle.lattice.specs.laws.Stored.{numbers_in, middles_in, transitions_in}
use Rattle.lattice.specs.laws.RisingMiddles.{Climbs}
use Rattle.lattice.specs.laws.Positions.{start_of}
use Rattle.lattice.specs.laws.Spots.{Placed}
use Rattle.lattice.specs.laws.Bounds.{AllWithin}

-- The layer that stands in front, of c nodes.
abbrev pub front_nodes : ℕ → List ℤ → List ℤ
front_nodes c nodes = take (c * 2) nodes

abbrev pub front_layer : Bool → ℕ → Float → List ℤ → List Float → Layer
front_layer flat c spacing nodes probabilities =
    record {
      nodes = numbers_in (front_nodes c nodes);
      transitions = transitions_in flat (front_nodes c nodes) (take (c * 3) probabilities);
      spacing = spacing;
    }

-- All layers but the last, by their counts and spacings.
unfoldable pub layers_in : Bool → List ℕ → List Float → List ℤ → List Float → List Layer
unfolding numbers_in transitions_in
layers_in flat (c ∷ counts) (s ∷ spacings) nodes probabilities =
    front_layer flat c s nodes probabilities ∷ layers_in flat counts spacings (drop (c * 2) nodes) (drop (c * 3) probabilities)
layers_in flat (c ∷ counts) [] nodes probabilities = []
layers_in flat [] spacings nodes probabilities = []

-- The last layer's numbers.
unfoldable pub final_in : List ℕ → List Float → List ℤ → List ℤ
unfolding numbers_in
final_in (c ∷ counts) (s ∷ spacings) nodes = final_in counts spacings (drop (c * 2) nodes)
final_in (c ∷ counts) [] nodes = numbers_in (front_nodes c nodes)
final_in [] spacings nodes = []

-- One layer before another of n nodes: its parts are there, it fits both rows, and its destinations are the next layer's nodes, at the places that the replay finds.
pub record Stepped (flat : Bool) (one two c n : ℕ) (nodes : List ℤ) (probabilities : List Float) : Type 0 where
  pub pairs : c * 2 ≤ length nodes
  pub threes : c * 3 ≤ length probabilities
  pub some-node : 0 < c
  pub first_room : c ≤ one
  pub second-room : c ≤ two
  pub next_first : n ≤ one
  pub next_second : n ≤ two
  pub numbers : List ℤ
  pub are_next : numbers ≡ numbers_in (front_nodes n (drop (c * 2) nodes))
  pub counted : length numbers ≡ n
  pub low : ℤ
  pub climbs : Climbs low numbers
  pub placed : Placed numbers flat (start_of (front_nodes c nodes)) 0 (middles_in (front_nodes c nodes))
  pub within : AllWithin (middles_in (front_nodes c nodes))

-- A tree laid in the slices, with room in both rows.
pub data Laid (flat : Bool) (one two : ℕ) : List ℕ → List Float → List ℤ → List Float → Type 0 where
  last_laid : {c : ℕ} {nodes : List ℤ} {probabilities : List Float} → c * 2 ≤ length nodes → c ≤ one → c ≤ two → Laid flat one two (c ∷ []) [] nodes probabilities
  more_laid : {c n : ℕ} {counts : List ℕ} {s : Float} {spacings : List Float} {nodes : List ℤ} {probabilities : List Float} → Stepped flat one two c n nodes probabilities → Laid flat one two (n ∷ counts) spacings (drop (c * 2) nodes) (drop (c * 3) probabilities) → Laid flat one two (c ∷ n ∷ counts) (s ∷ spacings) nodes probabilities
