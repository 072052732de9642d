-- The next layer of a rising layer: its middles rise, so its nodes are laid by appending, they rise, and each node's destinations are found by replaying. Assumes nothing.
use Rattle.std.specs.Prelude.{ℕ, ◌≡◌, Bool, true, false, cond, List, ◌∷◌, T, ℤ, Float, Ok, Err}
use Rattle.std.proofs.Math.Path.{refl}
use Rattle.std.proofs.Common.{arith}
use Rattle.std.proofs.Math.IntN.{pred_ℤ}
use Rattle.std.specs.Float.{binary64}
use Rattle.std.specs.Float.Ieee.{mul, le}
use Rattle.floats.specs.Answers.{Answer, plus_zero, two, on_outcome, not_finite, refusal, Outcome, follow}
use Rattle.rounded.specs.Root.{sqrt_at}
use Rattle.rounded.specs.laws.RootBounds.{NotBelow, sqrt_at_bounds}
use Rattle.terms.specs.Numbers.{float, epsilon}
use Rattle.lattice.specs.declared.Transition.{Transition}
use Rattle.lattice.specs.Transitions.{Step}
use Rattle.lattice.specs.Lattice.{destinations, spacing_of, step_of}
use Rattle.terms.specs.laws.Outcomes.{Gives, gives, nothing, gives-finite, gives-cond}
use Rattle.lattice.specs.laws.Reaching.{nothing_below}
use Rattle.lattice.specs.laws.RisingMiddles.{Rising, Climbs, around}
use Rattle.lattice.specs.laws.Replaying.{Replays}
use Rattle.lattice.specs.laws.Middles.{Upright, middles_of}
use Rattle.floats.specs.declared.Reason.TheVariants as reason

-- What is known of the next layer.
pub record NextLayer (ts : List Transition) : Type 0 where
  pub first : ℤ
  pub others : List ℤ
  pub middles : middles_of ts ≡ first ∷ others
  pub rising : Rising first others
  pub around_them : destinations ts ≡ around (first ∷ others)
  pub climbs : Climbs (pred_ℤ (pred_ℤ first)) (destinations ts)
  pub replays : Replays (destinations ts) (nothing_below first) (first ∷ others)

-- ---- the steps of a tree

-- A step made from a spacing and a decay that are not below 0 is upright, and so is its new spacing.
pub record SoundStep (spacing decay : Float) (s : Step) : Type 0 where
  pub same_spacing : s.spacing ≡ spacing
  pub same_decay : s.decay ≡ decay
  pub new : NotBelow s.new_spacing

module _ {B : Type 0} {Q : B → Type 0} where
  gives-answer : (a : Answer) (k : Float → Outcome B) → ((x : Float) → a ≡ Ok x → Gives Q (k x)) → Gives Q (follow a k)
  unfolding on_outcome
  gives-answer (Ok x) k h = h x refl
  gives-answer (Err r) k h = nothing

pub spacing_bounds : (v : Float) (k : ℕ) (y : Float) → spacing_of v k ≡ Ok y → NotBelow y
spacing_bounds v k y e = go (not_finite (mul binary64 v (float 3))) e
  where
    go : (b : Bool) → cond b (refusal reason.NotFinite k) (sqrt_at (mul binary64 v (float 3)) k) ≡ Ok y → NotBelow y
    go true e = absurd (let z : ◌≡◌ {A = ℕ} 0 1 = cc in omega arith)
    go false e = sqrt_at_bounds (mul binary64 v (float 3)) k y e

pub step-sound : (spacing decay v : Float) (k : ℕ) → Gives (SoundStep spacing decay) (step_of spacing decay v k)
unfolding step_of
step-sound spacing decay v k =
    gives-cond (le v epsilon) _ _ nothing
    (gives-answer (spacing_of v k) _ λ new e.
    gives-finite (mul binary64 v (float 6)) _ _ λ _.
    gives-finite (mul binary64 new two) _ _ λ _. gives (record { same_spacing = refl; same_decay = refl; new = spacing_bounds v k new e }))

pub upright : {spacing decay : Float} {s : Step} → SoundStep spacing decay s → T (le plus_zero spacing) → T (le plus_zero decay) → Upright s
upright p a b =
    record {
      spacing-above = rw p.same_spacing a;
      decay-above = rw p.same_decay b;
      new-finite = p.new.is_finite;
      new-above = p.new.not_below_lem;
    }
