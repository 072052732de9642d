-- Definitions only. The fit pairs a layer's transitions with state prices by position, where the Rust looks a price up by its node. The two agree: at every step the row has the layer's nodes, in the layer's order.
use Rattle.std.specs.Prelude.{ℕ, suc, ◌≡◌, List, [], ◌∷◌, map, length, ℤ, pos, Float, Ok}
use Rattle.floats.specs.Answers.{one}
use Rattle.lattice.specs.Layers.{At, Room}
use Rattle.lattice.specs.Lattice.{Layer, Lattice, lattice}
use Rattle.forwardinduction.specs.Fit.{onward}

abbrev pub nodes_in : List At → List ℤ
nodes_in row = map (λ (a : At). a.node) row

-- From step k on: the row's nodes are the layer's, with a transition for each; whatever the shift, so it is with the row that the step's contributions make. After the last step they are the last layer's.
pub data ByNode (dt : Float) (final : List ℤ) : ℕ → List Layer → List At → Type 0 where
  last : {k : ℕ} {row : List At} → nodes_in row ≡ final → ByNode dt final k [] row
  step : {k : ℕ} {l : Layer} {layers : List Layer} {row : List At}
      → nodes_in row ≡ l.nodes
      → length l.transitions ≡ length l.nodes
      → ((shift : Float) (next : List At) → onward l.spacing dt shift k l.transitions row [] ≡ Ok next → ByNode dt final (suc k) layers next)
      → ByNode dt final k (l ∷ layers) row

-- From the root's state price on, in every tree.
abbrev pub FitByNode : Type 0
FitByNode =
    (room : Room) (alpha dt : Float) (variances : List Float) (t : Lattice)
    → lattice room alpha dt variances ≡ Ok t
    → ByNode dt t.final 0 t.layers (record { node = pos 0; value = one } ∷ [])
