-- One layer more in the slices: the layer in front gets its middles and probabilities, and the next layer's nodes are laid behind it. Assumes nothing.
use Rattle.std.specs.Prelude.{ℕ, suc, ◌+◌, ◌*◌, ◌≤◌, ◌<◌, ◌≡◌, List, ◌++◌, T, length, drop, ℤ, Float, Ok, Err}
use Rattle.std.specs.Float.Ieee.{le}
use Rattle.floats.specs.Answers.{plus_zero, Outcome, follow}
use Rattle.lattice.specs.declared.Transition.{Transition}
use Rattle.lattice.specs.declared.NextLayer.{NextLayer}
use Rattle.lattice.specs.Layers.{Room}
use Rattle.lattice.specs.Lattice.{step_of, transitions_of, destinations, with_room}
use Rattle.lattice.specs.laws.Stored.{numbers_in, pairs_of, last_pairs, threes_of}
use Rattle.lattice.specs.laws.RisingMiddles.{Climbs}
use Rattle.lattice.specs.laws.Laid.{front_nodes}

-- What is left of the room from a layer on, with the rows' lengths.
abbrev pub room_left : List ℤ → List Float → ℕ → ℕ → Room
room_left nodes probabilities one two = record { nodes = length nodes; probabilities = length probabilities; first = one; second = two }

-- A step's transitions, and the spacing of the layer that they reach.
pub record Grew : Type 0 where
  pub spacing : Float
  pub transitions : List Transition

-- Layer k's transitions, where layer k + 1 fits the room that is left from layer k on.
unfoldable pub grown_next : Room → Float → Float → List ℤ → ℕ → Float → Outcome Grew
unfolding step_of transitions_of destinations
grown_next room decay spacing nodes k v =
    follow (step_of spacing decay v k) λ s.
    follow (transitions_of s nodes) λ ts.
    with_room room (length nodes) (destinations ts) (suc k) (Ok (record { spacing = s.new_spacing; transitions = ts }))

-- The next layer's spacing and node count.
pub record Size : Type 0 where
  pub spacing : Float
  pub count : ℕ

abbrev pub size_of : Grew → Size
size_of g = record { spacing = g.spacing; count = length (destinations g.transitions) }

unfoldable pub next_outcome : Outcome NextLayer → Outcome Size
next_outcome (Ok v) = Ok (record { spacing = v.spacing; count = v.count })
next_outcome (Err r) = Err r

-- A layer in front that can grow: its parts are there, its numbers rise, and neither spacing nor decay is below 0.
pub record Front (c : ℕ) (spacing decay : Float) (nodes : List ℤ) (probabilities : List Float) : Type 0 where
  pub pairs : c * 2 ≤ length nodes
  pub threes : c * 3 ≤ length probabilities
  pub some-node : 0 < c
  pub low : ℤ
  pub climbs : Climbs low (numbers_in (front_nodes c nodes))
  pub spacing-above : T (le plus_zero spacing)
  pub decay-above : T (le plus_zero decay)

-- What growing promises.
pub record GrownLayer (o : Outcome Grew) (c : ℕ) (r : Outcome NextLayer) (before after : List ℤ) (beforeP afterP : List Float) : Type 0 where
  pub outcome : next_outcome r ≡ follow o λ g. Ok (size_of g)
  pub nodes : (g : Grew) → o ≡ Ok g
      → after ≡ pairs_of (numbers_in (front_nodes c before)) g.transitions ++ (last_pairs (destinations g.transitions) ++ drop ((c + length (destinations g.transitions)) * 2) before)
  pub probabilities : (g : Grew) → o ≡ Ok g → afterP ≡ threes_of g.transitions ++ drop (c * 3) beforeP
  pub kept : length after ≡ length before
  pub kept_too : length afterP ≡ length beforeP
