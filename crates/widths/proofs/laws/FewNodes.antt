-- A layer has at most 2,000,004 nodes, so that all of them can be counted. Assumes nothing.
use Rattle.std.specs.Prelude.{ℕ, suc, ◌+◌, ◌*◌, ◌≤◌, ◌<◌, ◌≡◌, Bool, true, false, cond, List, [], ◌∷◌, T, leb, length, ℤ, negsuc, Float, Ok}
use Rattle.std.proofs.Common.{arith, sym, ◌∙◌}
use Rattle.std.specs.Float.Ieee.{le}
use Rattle.floats.specs.Answers.{plus_zero, follow, refusal}
use Rattle.terms.specs.laws.Outcomes.{same_given, of_given}
use Rattle.lattice.specs.Lattice.{root_layer, spacing_of, decay_of, all_flat}
use Rattle.lattice.specs.laws.NextLayer.{spacing_bounds}
use Rattle.lattice.specs.laws.Rooted.{decay-above}
use Rattle.lattice.specs.laws.RisingMiddles.{Climbs, none, above}
use Rattle.widths.specs.Widths.{widths_from, flat_widths, curved_widths, widths, total}
use Rattle.widths.specs.laws.Widening.{next_wide}
use Rattle.widths.proofs.laws.Widening.{widths_next}
use Rattle.widths.specs.laws.Summing.{nodes-known}
use Rattle.widths.specs.laws.FewNodes.{cond-given, few-flat, few_last}
use Rattle.floats.specs.declared.Reason.TheVariants as reason

few_from : (room : ℕ) (decay spacing : Float) (ns : List ℤ) (k : ℕ) (vs : List Float) (ws : List ℕ) {t : ℤ} → 0 < length ns → Climbs t ns → T (le plus_zero spacing) → T (le plus_zero decay) → length ns ≤ 2000004
    → widths_from room decay spacing ns k vs ≡ Ok ws → total ws ≤ 2000004 * (length vs + 1)
unfolding total
few_from room decay spacing ns k [] ws h c a b f e = few_last room decay spacing ns k ws f e
few_from room decay spacing ns k (v ∷ vs) ws h c a b f e =
    let (w, p, q) = of_given (next_wide room decay spacing ns k v) (λ w. follow (widths_from room decay w.spacing w.nodes (suc k) vs) λ ws. Ok (length ns ∷ ws)) (sym (widths_next room decay spacing ns k v vs) ∙ e) in
    let (rest, x, y) = of_given (widths_from room decay w.spacing w.nodes (suc k) vs) (λ ws. Ok (length ns ∷ ws)) q in
    let n = nodes-known room decay spacing ns k v h c a b p in
    let r = few_from room decay w.spacing w.nodes (suc k) vs rest n.some-node n.climbs n.spacing-above b n.few x in
    rw (← same_given y) (omega arith)

few-curved : (room : ℕ) (alpha dt : Float) (vs : List Float) (ws : List ℕ) → curved_widths room alpha dt vs ≡ Ok ws → total ws ≤ 2000004 * (length vs + 1)
unfolding curved_widths
few-curved room alpha dt [] ws e = rw (← same_given e) (unfold total in omega arith)
few-curved room alpha dt (v ∷ vs) ws e =
    let (decay, p, q) = of_given (decay_of alpha dt) (λ decay. follow (spacing_of v 0) λ spacing. cond (leb 1 room) (widths_from room decay spacing root_layer 0 (v ∷ vs)) (refusal reason.NoRoom 0)) e in
    let (spacing, x, y) = of_given (spacing_of v 0) (λ spacing. cond (leb 1 room) (widths_from room decay spacing root_layer 0 (v ∷ vs)) (refusal reason.NoRoom 0)) q in
    let s = (spacing_bounds v 0 spacing x).not_below_lem in
    few_from room decay spacing root_layer 0 (v ∷ vs) ws {t = negsuc 0} (omega arith) (above tt none) s (decay-above alpha dt decay p) (omega arith) (cond-given (leb 1 room) _ reason.NoRoom 0 y)

pub few-nodes : (room : ℕ) (alpha dt : Float) (vs : List Float) (ws : List ℕ) → widths room alpha dt vs ≡ Ok ws → total ws ≤ 2000004 * (length vs + 1)
unfolding widths
few-nodes room alpha dt vs ws e = go (all_flat vs) e
  where
    go : (b : Bool) → cond b (cond (leb 1 room) (flat_widths room 0 (length vs)) (refusal reason.NoRoom 0)) (curved_widths room alpha dt vs) ≡ Ok ws → total ws ≤ 2000004 * (length vs + 1)
    go true e = let h = few-flat room 0 (length vs) ws (cond-given (leb 1 room) _ reason.NoRoom 0 e) in omega arith
    go false e = few-curved room alpha dt vs ws e
