-- Definitions only. How wide the layers of the tree are: from variances and middle nodes alone.
use Rattle.std.specs.Prelude.{ℕ, zero, suc, ◌+◌, max, cond, List, [], ◌∷◌, leb, length, ℤ, Float, Ok}
use Rattle.std.specs.Float.Ieee.{mul, le}
use Rattle.terms.specs.Numbers.{epsilon}
use Rattle.floats.specs.Answers.{Outcome, follow, refusal}
use Rattle.lattice.specs.Transitions.{middle_of}
use Rattle.lattice.specs.Lattice.{root_layer, spacing_of, decay_of, all_flat}
use Rattle.lattice.specs.laws.RisingMiddles.{around}
use Rattle.floats.specs.declared.Reason.TheVariants as reason

-- The middles of a layer's nodes, nodes rising: state, expectation and its quotient, 23.
unfoldable pub middle_nodes : Float → Float → Float → ℕ → List ℤ → Outcome (List ℤ)
unfolding middle_of
middle_nodes spacing decay new place [] = Ok []
middle_nodes spacing decay new place (n ∷ ns) =
    follow (middle_of spacing decay new place n) λ m. follow (middle_nodes spacing decay new place ns) λ ms. Ok (m.node ∷ ms)

-- 22 is tried, then the new spacing.
unfoldable pub new_spacing : Float → ℕ → Outcome Float
unfolding mul le
new_spacing variance k = cond (le variance epsilon) (refusal reason.NoVariance k) (spacing_of variance k)

-- The widths of the layers from k on, layer k being tried already. 21: two neighbouring layers don't fit together.
unfoldable pub widths_from : ℕ → Float → Float → List ℤ → ℕ → List Float → Outcome (List ℕ)
unfolding new_spacing middle_nodes around
widths_from room decay spacing nodes k [] = Ok (length nodes ∷ [])
widths_from room decay spacing nodes k (v ∷ vs) =
    follow (new_spacing v k) λ new.
    follow (middle_nodes spacing decay new k nodes) λ ms.
    cond
    (leb (length nodes + length (around ms)) room)
    (follow (widths_from room decay new (around ms) (suc k) vs) λ ws. Ok (length nodes ∷ ws))
    (refusal reason.NoRoom (suc k))

-- A flat tree has one node per layer.
unfoldable pub flat_widths : ℕ → ℕ → ℕ → Outcome (List ℕ)
flat_widths room k zero = Ok (1 ∷ [])
flat_widths room k (suc left) = cond (leb 2 room) (follow (flat_widths room (suc k) left) λ ws. Ok (1 ∷ ws)) (refusal reason.NoRoom (suc k))

-- Layer 0 is tried after decay and spacing 0.
unfoldable pub curved_widths : ℕ → Float → Float → List Float → Outcome (List ℕ)
unfolding widths_from
curved_widths room alpha dt [] = Ok (1 ∷ [])
curved_widths room alpha dt (v ∷ vs) =
    follow (decay_of alpha dt) λ decay.
    follow (spacing_of v 0) λ spacing. cond (leb 1 room) (widths_from room decay spacing root_layer 0 (v ∷ vs)) (refusal reason.NoRoom 0)

unfoldable pub widths : ℕ → Float → Float → List Float → Outcome (List ℕ)
unfolding flat_widths curved_widths all_flat
widths room alpha dt variances =
    cond (all_flat variances) (cond (leb 1 room) (flat_widths room 0 (length variances)) (refusal reason.NoRoom 0)) (curved_widths room alpha dt variances)

unfoldable pub total : List ℕ → ℕ
total [] = 0
total (w ∷ ws) = w + total ws

unfoldable pub widest : List ℕ → ℕ
widest [] = 0
widest (w ∷ ws) = max w (widest ws)
