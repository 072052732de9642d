-- Definitions only. lattice_transitions: layers, transitions and spacings, or 21 to 24, 26, 27.
use Rattle.std.specs.Prelude.{ℕ, zero, suc, ◌+◌, Bool, true, cond, ◌&&◌, List, [], ◌∷◌, length, ℤ, pos, Float, Ok}
use Rattle.std.specs.Float.{binary64}
use Rattle.std.specs.Float.Ieee.{mul, neg, le}
use Rattle.floats.specs.Answers.{Answer, plus_zero, one, two, when_finite, Outcome, follow, refusal}
use Rattle.elementary.specs.Exponential.{exp_at}
use Rattle.rounded.specs.Root.{sqrt_at}
use Rattle.terms.specs.Numbers.{float, epsilon}
use Rattle.lattice.specs.declared.Transition.{Transition}
use Rattle.lattice.specs.Layers.{insert, Room, fits}
use Rattle.lattice.specs.Transitions.{Step, transition_of}
use Rattle.floats.specs.declared.Reason.TheVariants as reason

-- One step of the tree: its nodes rising, a transition for each, and the spacing of its states.
pub record Layer : Type 0 where
  pub nodes : List ℤ
  pub transitions : List Transition
  pub spacing : Float

-- The layers of steps 0 to steps−1, and the nodes of the last layer.
pub record Lattice : Type 0 where
  pub layers : List Layer
  pub final : List ℤ

-- Transitions with nodes rising.
unfoldable pub transitions_of : Step → List ℤ → Outcome (List Transition)
unfolding transition_of
transitions_of s [] = Ok []
transitions_of s (n ∷ ns) = follow (transition_of s n) λ t. follow (transitions_of s ns) λ ts. Ok (t ∷ ts)

-- The next layer is the sorted set of destinations, gaps allowed.
unfoldable pub destinations : List Transition → List ℤ
unfolding insert
destinations [] = []
destinations (t ∷ ts) = insert t.down (insert t.middle (insert t.up (destinations ts)))

-- 21: layer k doesn't fit. `before` counts the nodes of the layers below it.
abbrev pub with_room : {A : Type 0} → Room → ℕ → List ℤ → ℕ → Outcome A → Outcome A
with_room room before layer k next = cond (fits room (before + length layer) (length layer)) next (refusal reason.NoRoom k)

-- sqrt(variance × 3).
abbrev pub spacing_of : Float → ℕ → Answer
spacing_of variance place = when_finite (mul binary64 variance (float 3)) place λ x. sqrt_at x place

-- Per step 22 is tried, then the new spacing and the two divisors.
unfoldable pub step_of : Float → Float → Float → ℕ → Outcome Step
unfolding mul le
step_of spacing decay variance k =
    cond (le variance epsilon) (refusal reason.NoVariance k)
    (follow (spacing_of variance k) λ new.
    when_finite (mul binary64 variance (float 6)) k λ denominator.
    when_finite (mul binary64 new two) k λ scale.
    Ok (record { spacing = spacing; decay = decay; new_spacing = new; denominator = denominator; scale = scale; place = k }))

-- The steps from k on, layer k being tried already.
unfoldable pub grown : Room → Float → Float → ℕ → List ℤ → ℕ → List Float → Outcome Lattice
unfolding step_of transitions_of destinations
grown room decay spacing before nodes k [] = Ok (record { layers = []; final = nodes })
grown room decay spacing before nodes k (v ∷ vs) =
    follow (step_of spacing decay v k) λ s.
    follow (transitions_of s nodes) λ ts.
    with_room room (before + length nodes) (destinations ts) (suc k)
    (follow (grown room decay s.new_spacing (before + length nodes) (destinations ts) (suc k) vs) λ rest.
    Ok (record { layers = record { nodes = nodes; transitions = ts; spacing = spacing } ∷ rest.layers; final = rest.final }))

abbrev pub root_layer : List ℤ
root_layer = pos 0 ∷ []

-- All variances at or below 2^−52: one node 0 per layer, probabilities 0, 1, 0, spacings 0.
unfoldable pub all_flat : List Float → Bool
unfolding le
all_flat [] = true
all_flat (v ∷ vs) = le v epsilon && all_flat vs

abbrev pub flat_layer : Layer
flat_layer =
    record {
      nodes = root_layer;
      transitions =
          record {
            down = pos 0;
            middle = pos 0;
            up = pos 0;
            probability_down = plus_zero;
            probability_middle = one;
            probability_up = plus_zero;
          }
          ∷ [];
      spacing = plus_zero;
    }

-- A flat tree tries 21 for layers 0 to steps too.
unfoldable pub flat : Room → ℕ → ℕ → Outcome Lattice
flat room k zero = with_room room k root_layer k (Ok (record { layers = []; final = root_layer }))
flat room k (suc left) =
    with_room room k root_layer k
    (follow (flat room (suc k) left) λ rest. Ok (record { layers = flat_layer ∷ rest.layers; final = rest.final }))

-- decay: exp(−alpha × time_step), place 0.
abbrev pub decay_of : Float → Float → Answer
decay_of alpha dt = when_finite (mul binary64 (neg alpha) dt) 0 λ x. exp_at x 0

-- Spacing 0 and 1 both come from variance 0. Layer 0 is tried after decay and spacing 0.
unfoldable pub curved : Room → Float → Float → List Float → Outcome Lattice
unfolding grown mul neg
curved room alpha dt [] = Ok (record { layers = []; final = root_layer })
curved room alpha dt (v ∷ vs) =
    follow (decay_of alpha dt) λ decay.
    follow (spacing_of v 0) λ spacing. with_room room 0 root_layer 0 (grown room decay spacing 0 root_layer 0 (v ∷ vs))

unfoldable pub lattice : Room → Float → Float → List Float → Outcome Lattice
unfolding flat curved all_flat
lattice room alpha dt variances = cond (all_flat variances) (flat room 0 (length variances)) (curved room alpha dt variances)

-- The answer's node count is the nodes of layers 0 to steps.
unfoldable pub count_of : List Layer → ℕ
count_of [] = 0
count_of (l ∷ layers) = length l.nodes + count_of layers

abbrev pub node_count : Lattice → ℕ
node_count t = count_of t.layers + length t.final
