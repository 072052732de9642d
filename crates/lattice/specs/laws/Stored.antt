-- How the tree lies in the lent slices. A layer of n nodes is 2n entries of the node slice (each node's number, then its middle) and 3n of the probability slice (down, middle, up of each node).
-- Layers follow one another from the front; the last one has middles 0 and no probabilities. Assumes nothing.
use Rattle.std.specs.Prelude.{ℕ, Bool, true, false, List, [], ◌∷◌, ◌++◌, length, ℤ, pos, Float}
use Rattle.std.proofs.Math.IntN.{pred_ℤ, suc_ℤ}
use Rattle.lattice.specs.declared.Transition.{Transition}
use Rattle.lattice.specs.Layers.{At}
use Rattle.lattice.specs.Lattice.{Layer}

-- ---- what a layer's parts say

-- The node numbers of a layer's part of the node slice.
unfoldable pub numbers_in : List ℤ → List ℤ
numbers_in [] = []
numbers_in (n ∷ []) = []
numbers_in (n ∷ m ∷ rest) = n ∷ numbers_in rest

-- The middles beside them.
unfoldable pub middles_in : List ℤ → List ℤ
middles_in [] = []
middles_in (n ∷ []) = []
middles_in (n ∷ m ∷ rest) = m ∷ middles_in rest

-- A transition from its middle and three probabilities. In a flat tree all three destinations are the middle itself.
unfoldable pub made_of : Bool → ℤ → Float → Float → Float → Transition
made_of true m d p u = record { down = m; middle = m; up = m; probability_down = d; probability_middle = p; probability_up = u }
made_of false m d p u =
    record {
      down = pred_ℤ m;
      middle = m;
      up = suc_ℤ m;
      probability_down = d;
      probability_middle = p;
      probability_up = u;
    }

-- The transitions of a layer's two parts.
unfoldable pub transitions_in : Bool → List ℤ → List Float → List Transition
unfolding made_of
transitions_in flat (n ∷ m ∷ rest) (d ∷ p ∷ u ∷ more) = made_of flat m d p u ∷ transitions_in flat rest more
transitions_in flat (n ∷ m ∷ rest) (d ∷ p ∷ []) = []
transitions_in flat (n ∷ m ∷ rest) (d ∷ []) = []
transitions_in flat (n ∷ m ∷ rest) [] = []
transitions_in flat (n ∷ []) ps = []
transitions_in flat [] ps = []

-- Numbers and a row's values side by side, as long as the shorter of the two.
unfoldable pub row_of : List ℤ → List Float → List At
row_of (n ∷ ns) (x ∷ xs) = record { node = n; value = x } ∷ row_of ns xs
row_of (n ∷ ns) [] = []
row_of [] xs = []

-- ---- what a tree leaves in the slices

-- A layer's numbers and middles.
unfoldable pub pairs_of : List ℤ → List Transition → List ℤ
pairs_of (n ∷ ns) (t ∷ ts) = n ∷ t.middle ∷ pairs_of ns ts
pairs_of (n ∷ ns) [] = []
pairs_of [] ts = []

-- The last layer's numbers, with 0 for middles.
unfoldable pub last_pairs : List ℤ → List ℤ
last_pairs [] = []
last_pairs (n ∷ ns) = n ∷ pos 0 ∷ last_pairs ns

-- A layer's probabilities.
unfoldable pub threes_of : List Transition → List Float
threes_of [] = []
threes_of (t ∷ ts) = t.probability_down ∷ t.probability_middle ∷ t.probability_up ∷ threes_of ts

unfoldable pub stored_nodes : List Layer → List ℤ → List ℤ
unfolding pairs_of last_pairs
stored_nodes [] final = last_pairs final
stored_nodes (l ∷ layers) final = pairs_of l.nodes l.transitions ++ stored_nodes layers final

unfoldable pub stored_probabilities : List Layer → List Float
unfolding threes_of
stored_probabilities [] = []
stored_probabilities (l ∷ layers) = threes_of l.transitions ++ stored_probabilities layers

-- ---- what is kept beside the slices

-- How many nodes each layer has, the last one included.
unfoldable pub stored_counts : List Layer → List ℤ → List ℕ
stored_counts [] final = length final ∷ []
stored_counts (l ∷ layers) final = length l.nodes ∷ stored_counts layers final

-- The spacing of each layer but the last.
unfoldable pub stored_spacings : List Layer → List Float
stored_spacings [] = []
stored_spacings (l ∷ layers) = l.spacing ∷ stored_spacings layers
