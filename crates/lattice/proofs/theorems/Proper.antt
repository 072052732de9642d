-- The probabilities of a tree: finite and between 0 and 1, whatever the terms. Assumes nothing.
use Rattle.std.specs.Prelude.{ℕ, zero, suc, ◌+◌, ◌≡◌, refl, ◌||◌, List, [], ◌∷◌, length, T, ℤ, Float, Ok}
use Rattle.std.proofs.Common.{ap}
use Rattle.std.specs.Float.{binary64}
use Rattle.std.specs.Float.Ieee.{add, sub, mul, div, le, of_bits, fits}
use Rattle.std.specs.Float.Ieee.Bits.{of_bits-fits}
use Rattle.std.specs.Float.Ieee.Fits.{add-fits, sub-fits}
use Rattle.std.specs.Float.Ieee.Scale.{finite}
use Rattle.floats.specs.laws.Order.{number_of-finite, le_trans}
use Rattle.floats.specs.laws.Signs.{div-above}
use Rattle.floats.specs.laws.Extremes.{max-keeps, max-finite, le_max_right}
use Rattle.floats.specs.Extremes.{max_of}
use Rattle.floats.specs.Answers.{plus_zero, one, two}
use Rattle.floats.specs.laws.Finite.{positive_of-div}
use Rattle.elementary.specs.laws.Values.{Above}
use Rattle.terms.specs.laws.Outcomes.{Gives, gives, nothing, given_of, gives-follow, gives-valued, gives-finite, gives-cond, gives-known}
use Rattle.lattice.specs.declared.Middle.{Middle}
use Rattle.lattice.specs.Layers.{Room}
use Rattle.lattice.specs.Layers as layers
use Rattle.lattice.specs.Transitions.{Step, sixth, two_thirds, too_low, clamped, probabilities, middle_of, from_middle, transition_of}
use Rattle.lattice.specs.Lattice.{Layer, Lattice, transitions_of, destinations, spacing_of, step_of, grown, root_layer, all_flat, flat_layer, flat, decay_of, curved, lattice}
use Rattle.lattice.specs.laws.Shares.{Amount, sum_amount, left_part, right_part, share_at_most_one}
use Rattle.lattice.specs.laws.Proper.{Each, Proper, Weighted, more, none}

clamp_amount : (x : Float) → T (finite x) → T (fits binary64 x) → Amount (max_of x plus_zero)
unfolding of_bits
clamp_amount x f h =
    record {
      weight = record { is_finite = max-finite x plus_zero f tt; above = le_max_right x plus_zero (number_of-finite x f) tt };
      held = max-keeps (λ (y : Float). T (fits binary64 y)) x plus_zero h (of_bits-fits binary64 0);
    }

share-weight : (x y : Float) → Above x → Above y → T (finite (div binary64 x y)) → Above (div binary64 x y)
share-weight x y p q h =
    record {
      is_finite = h;
      above =
          div-above binary64 x y p.is_finite q.is_finite p.above
          (positive_of-div binary64 x y q.is_finite q.above h);
    }

clamped-weighted : (n : ℤ) (down mid up : Float) (place : ℕ) → T (finite down) → T (finite mid) → T (finite up) → T (fits binary64 down) → T (fits binary64 mid) → T (fits binary64 up) → Gives Weighted (clamped n down mid up place)
unfolding clamped
clamped-weighted n down mid up place f g h f' g' h' =
    let d = max_of down plus_zero in
    let m = max_of mid plus_zero in
    let u = max_of up plus_zero in
    let D = clamp_amount down f f' in
    let M = clamp_amount mid g g' in
    let U = clamp_amount up h h' in
    let part = add binary64 d m in
    let w = add binary64 part u in
    gives-finite part _ _ λ fp.
    gives-finite w _ _ λ fw.
    let P = sum_amount d m D M fp in
    let W = (sum_amount part u P U fw).weight in
    let pw = left_part part u P U in
    gives-finite (div binary64 d w) _ _ λ pd.
    gives-finite (div binary64 m w) _ _ λ pm.
    gives-finite (div binary64 u w) _ _ λ pu.
    gives
    (record {
      down = share-weight d w D.weight W pd;
      middle = share-weight m w M.weight W pm;
      up = share-weight u w U.weight W pu;
      down_most = share_at_most_one d w D.weight W (le_trans d part w (left_part d m D M) pw) pd;
      middle-most = share_at_most_one m w M.weight W (le_trans m part w (right_part d m D M) pw) pm;
      up_most = share_at_most_one u w U.weight W (right_part part u P U) pu;
    })

probabilities-weighted : (s : Step) (n : ℤ) (error : Float) → Gives Weighted (probabilities s n error)
unfolding probabilities
probabilities-weighted s n error =
    let term = div binary64 (mul binary64 error error) s.denominator in
    let a = add binary64 sixth term in
    let skew = div binary64 error s.scale in
    let down = sub binary64 a skew in
    let mid = sub binary64 two_thirds (mul binary64 term two) in
    let up = add binary64 a skew in
    gives-finite (mul binary64 error error) _ _ λ _.
    gives-finite term _ _ λ _.
    gives-finite a _ _ λ _.
    gives-finite skew _ _ λ _.
    gives-finite down _ _ λ f.
    gives-finite (mul binary64 term two) _ _ λ _.
    gives-finite mid _ _ λ g.
    gives-finite up _ _ λ h.
    gives-cond (too_low down || (too_low mid || too_low up)) _ _ nothing
    (clamped-weighted n down mid up s.place f g h (sub-fits binary64 a skew) (sub-fits binary64 two_thirds (mul binary64 term two)) (add-fits binary64 a skew))

from_middle-weighted : (s : Step) (m : Middle) → Gives Weighted (from_middle s m)
unfolding from_middle
from_middle-weighted s m =
    let centre = mul binary64 s.new_spacing m.middle in
    let error = sub binary64 m.expectation centre in
    gives-finite centre _ _ λ _.
    gives-finite error _ _ λ _. probabilities-weighted s m.node error

transition-weighted : (s : Step) (n : ℤ) → Gives Weighted (transition_of s n)
unfolding transition_of
transition-weighted s n = gives-known (middle_of s.spacing s.decay s.new_spacing s.place n) _ λ m _. from_middle-weighted s m

transitions-weighted : (s : Step) (nodes : List ℤ) → Gives (Each Weighted) (transitions_of s nodes)
unfolding transitions_of
transitions-weighted s [] = gives none
transitions-weighted s (n ∷ nodes) =
    gives-follow _ _ (transition-weighted s n) λ t w.
    gives-follow _ _ (transitions-weighted s nodes) λ ts ws. gives (more w ws)

-- A proper tree of so many layers before the last.
record ProperTree (steps : ℕ) (t : Lattice) : Type 0 where
  proper : Proper t.layers
  layer_count : length t.layers ≡ steps

no_layers : (final : List ℤ) → ProperTree 0 (record { layers = []; final = final })
no_layers final = record { proper = none; layer_count = refl }

one_layer_more : (l : Layer) {steps : ℕ} (rest : Lattice) → Each Weighted l.transitions → ProperTree steps rest → ProperTree (suc steps) (record { layers = l ∷ rest.layers; final = rest.final })
one_layer_more l rest w p = record { proper = more w p.proper; layer_count = ap suc p.layer_count }

grown-proper : (room : Room) (decay spacing : Float) (before : ℕ) (nodes : List ℤ) (k : ℕ) (variances : List Float) → Gives (ProperTree (length variances)) (grown room decay spacing before nodes k variances)
unfolding grown
grown-proper room decay spacing before nodes k [] = gives (no_layers nodes)
grown-proper room decay spacing before nodes k (v ∷ vs) =
    gives-known (step_of spacing decay v k) _ λ s _.
    gives-follow _ _ (transitions-weighted s nodes) λ ts w.
    gives-cond (layers.fits room (before + length nodes + length (destinations ts)) (length (destinations ts))) _ _
    (gives-follow _ _ (grown-proper room decay s.new_spacing (before + length nodes) (destinations ts) (suc k) vs) λ rest p. gives (one_layer_more _ rest w p))
    nothing

flat-weighted : Each Weighted flat_layer.transitions
unfolding of_bits le
flat-weighted = more (record { down = zero-weight; middle = one_weight; up = zero-weight; down_most = tt; middle-most = tt; up_most = tt }) none
  where
    zero-weight : Above plus_zero
    zero-weight = record { is_finite = tt; above = tt }

    one_weight : Above one
    one_weight = record { is_finite = tt; above = tt }

flat-proper : (room : Room) (k left : ℕ) → Gives (ProperTree left) (flat room k left)
unfolding flat
flat-proper room k zero = gives-cond (layers.fits room (k + 1) 1) _ _ (gives (no_layers root_layer)) nothing
flat-proper room k (suc left) =
    gives-cond (layers.fits room (k + 1) 1) _ _ (gives-follow _ _ (flat-proper room (suc k) left) λ rest p. gives (one_layer_more flat_layer rest flat-weighted p)) nothing

curved-proper : (room : Room) (alpha dt : Float) (variances : List Float) → Gives (ProperTree (length variances)) (curved room alpha dt variances)
unfolding curved
curved-proper room alpha dt [] = gives (no_layers root_layer)
curved-proper room alpha dt (v ∷ vs) =
    gives-valued (decay_of alpha dt) _ λ decay.
    gives-valued (spacing_of v 0) _ λ spacing.
    gives-cond (layers.fits room 1 1) _ _ (grown-proper room decay spacing 0 root_layer 0 (v ∷ vs)) nothing

lattice-proper : (room : Room) (alpha dt : Float) (variances : List Float) → Gives (ProperTree (length variances)) (lattice room alpha dt variances)
unfolding lattice
lattice-proper room alpha dt variances =
    gives-cond (all_flat variances) _ _ (flat-proper room 0 (length variances)) (curved-proper room alpha dt variances)

-- Whatever tree the variances give, every probability in it is finite and between 0 and 1.
pub proper_of_lattice : (room : Room) (alpha dt : Float) (variances : List Float) (t : Lattice) → lattice room alpha dt variances ≡ Ok t → Proper t.layers
proper_of_lattice room alpha dt variances t e = (given_of (lattice-proper room alpha dt variances) e).proper

-- It has as many layers before the last as there are variances.
pub layers_of_lattice : (room : Room) (alpha dt : Float) (variances : List Float) (t : Lattice) → lattice room alpha dt variances ≡ Ok t → length t.layers ≡ length variances
layers_of_lattice room alpha dt variances t e = (given_of (lattice-proper room alpha dt variances) e).layer_count
