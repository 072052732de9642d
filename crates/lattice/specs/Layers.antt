-- Definitions only. Layers of nodes as sorted sets, and what is written beside each node.
use Rattle.std.specs.Prelude.{ℕ, ◌*◌, Bool, cond, ◌&&◌, ◌||◌, List, [], ◌∷◌, ltb, leb, ℤ, pos, negsuc, Float}
use Rattle.std.specs.Float.{binary64}
use Rattle.std.specs.Float.Ieee.{of_int}
use Rattle.floats.specs.Answers.{plus_zero}

-- The order of node numbers.
abbrev pub below : ℤ → ℤ → Bool
below (pos a) (pos b) = ltb a b
below (pos a) (negsuc b) = ltb 1 0
below (negsuc a) (pos b) = ltb 0 1
below (negsuc a) (negsuc b) = ltb b a

-- A node into a sorted set.
unfoldable pub insert : ℤ → List ℤ → List ℤ
insert n [] = n ∷ []
insert n (m ∷ ms) = cond (below n m) (n ∷ m ∷ ms) (cond (below m n) (m ∷ insert n ms) (m ∷ ms))

-- A node's value in a row: numbers and values side by side, rising.
pub record At : Type 0 where
  pub node : ℤ
  pub value : Float

-- The value at a node.
unfoldable pub value_at : ℤ → List At → Float
value_at n [] = plus_zero
value_at n (a ∷ row) = cond (below a.node n || below n a.node) (value_at n row) a.value

abbrev pub node_float : ℤ → Float
node_float n = of_int binary64 n

-- ---- room

-- The lengths of the four lent slices: nodes, probabilities, two rows.
pub record Room : Type 0 where
  pub nodes : ℕ
  pub probabilities : ℕ
  pub first : ℕ
  pub second : ℕ

-- Layer k fits if the nodes of layers 0 to k, doubled, fit the node slice, tripled the probability slice, and layer k alone each row.
abbrev pub fits : Room → ℕ → ℕ → Bool
fits room all layer =
    (leb (2 * all) room.nodes && leb (3 * all) room.probabilities) && (leb layer room.first && leb layer room.second)
