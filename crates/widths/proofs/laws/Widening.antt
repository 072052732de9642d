-- One layer more in the node slice: the next layer's nodes stand in front, where both layers fit together. Assumes nothing.
use Rattle.std.specs.Prelude.{ℕ, suc, ◌+◌, Bool, Float, Ok, Err}
use Rattle.std.proofs.Math.Path.{◌≡◌, refl}
use Rattle.std.proofs.Math.Bool.{true, false, cond}
use mathlib.Core.List.{List, ◌∷◌}
use Rattle.std.proofs.Math.Dec.{leb}
use Rattle.std.proofs.Math.ListN.{length}
use Rattle.std.proofs.Math.IntN.{ℤ}
use Rattle.floats.specs.Answers.{Outcome, follow, on_outcome, refusal}
use Rattle.lattice.specs.laws.RisingMiddles.{around}
use Rattle.widths.specs.Widths.{middle_nodes, new_spacing, widths_from}
use Rattle.widths.specs.laws.Widening.{next_wide, wide, wide_from}
use Rattle.floats.specs.declared.Reason.TheVariants as reason

-- The widths go on from the next layer.
pub widths_next : (room : ℕ) (decay spacing : Float) (nodes : List ℤ) (k : ℕ) (v : Float) (vs : List Float)
    → widths_from room decay spacing nodes k (v ∷ vs) ≡ follow (next_wide room decay spacing nodes k v) λ w. follow (widths_from room decay w.spacing w.nodes (suc k) vs) λ ws. Ok (length nodes ∷ ws)
unfolding widths_from next_wide wide_from on_outcome
widths_next room decay spacing nodes k v vs = go (new_spacing v k)
  where
    rest : Float → List ℤ → Outcome (List ℕ)
    rest new ns = follow (widths_from room decay new ns (suc k) vs) λ ws. Ok (length nodes ∷ ws)

    fitting : (new : Float) (ms : List ℤ) (b : Bool) → cond b (rest new (around ms)) (refusal reason.NoRoom (suc k)) ≡ follow (cond b (Ok (wide new (around ms))) (refusal reason.NoRoom (suc k))) λ w. rest w.spacing w.nodes
    fitting new ms true = refl
    fitting new ms false = refl

    middling : (new : Float) (o : Outcome (List ℤ))
        → follow o (λ ms. cond (leb (length nodes + length (around ms)) room) (rest new (around ms)) (refusal reason.NoRoom (suc k)))
        ≡ follow (follow o λ ms. cond (leb (length nodes + length (around ms)) room) (Ok (wide new (around ms))) (refusal reason.NoRoom (suc k))) λ w. rest w.spacing w.nodes
    middling new (Ok ms) = fitting new ms (leb (length nodes + length (around ms)) room)
    middling new (Err r) = refl

    go : (o : Outcome Float)
        → follow o (λ new. follow (middle_nodes spacing decay new k nodes) λ ms. cond (leb (length nodes + length (around ms)) room) (rest new (around ms)) (refusal reason.NoRoom (suc k)))
        ≡ follow (follow o λ new. follow (middle_nodes spacing decay new k nodes) λ ms. cond (leb (length nodes + length (around ms)) room) (Ok (wide new (around ms))) (refusal reason.NoRoom (suc k))) λ w. rest w.spacing w.nodes
    go (Ok new) = middling new (middle_nodes spacing decay new k nodes)
    go (Err r) = refl
