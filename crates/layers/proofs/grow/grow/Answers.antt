-- `grow` meets its contract: by the case of the step, which is upright where it is made, and knows the transitions of the layer before where that was made alike. Assumes nothing.
use Rattle.std.specs.Prelude.{◌≡◌, ℕ, ◌+◌, ◌<◌, ◌^◌, List, ℤ, Float, Ok, Err}
use Rattle.std.proofs.Common.{rules}
use Prim.Native.Nat.{◌*◌}
use mathlib.Core.Path.{refl, sym, ◌∙◌}
use lib.ListN.{drop}
use Rattle.std.proofs.Math.Path.{subst}
use Rattle.std.specs.Float.{binary64}
use Rattle.std.specs.Float.Ieee.{mul, le}
use Rattle.floats.specs.Answers.{two}
use Rattle.terms.specs.Numbers.{float, epsilon}
use Rattle.terms.specs.laws.Outcomes.{Gives, gives, nothing, gives-cond, gives-valued, gives-finite, given_of}
use Rattle.lattice.specs.Transitions.{Step}
use Rattle.lattice.specs.Lattice.{spacing_of, step_of}
use Rattle.lattice.specs.laws.Stored.{numbers_in}
use Rattle.lattice.specs.laws.Laid.{front_nodes}
use Rattle.lattice.specs.laws.Middles.{Upright}
use Rattle.lattice.specs.laws.NextLayer.{SoundStep, step-sound, upright}
use Rattle.lattice.specs.Layers.{Room}
use Rattle.lattice.specs.laws.Growing.{Front, room_left, grown_next}
use Rattle.lattice.specs.laws.Grown.{grown_from, grown-refused, next_given, next_refused}
use Rattle.layers.specs.laws.Known.{known_of, known-few}
use Rattle.layers.specs.laws.Behind.{untouched}
use Rattle.layers.proofs.grow.grow.Goals as goal

-- A step has the place that it is made for.
placed : (spacing decay v : Float) (k : ℕ) → Gives (λ (s : Step). s.place ≡ k) (step_of spacing decay v k)
unfolding step_of
placed spacing decay v k =
    gives-cond (le v epsilon) _ _ nothing
    (gives-valued (spacing_of v k) _ λ new.
    gives-finite (mul binary64 v (float 6)) _ _ λ _.
    gives-finite (mul binary64 new two) _ _ λ _. gives refl)

-- What growing by it asks.
asked : {c k : ℕ} {spacing decay : Float} {nodes : List ℤ} {probabilities : List Float} (s : Step) → SoundStep spacing decay s → s.place ≡ k → Front c spacing decay nodes probabilities → k + 1 < 2 ^ 32
    → Front c s.spacing s.decay nodes probabilities × Upright s × (s.place + 1 < 2 ^ 32)
asked s m e f h = (rw (m.same_spacing, m.same_decay) f, upright m f.spacing-above f.decay-above, rw e h)

-- Growing by it is growing by the variance.
next_made : {k : ℕ} (room : Room) (decay spacing : Float) (nodes : List ℤ) (v : Float) (s : Step) → step_of spacing decay v k ≡ Ok s → s.place ≡ k → grown_next room decay spacing nodes k v ≡ grown_from room s nodes
next_made room decay spacing nodes v s m e =
    subst (λ (j : ℕ). step_of spacing decay v j ≡ Ok s → grown_next room decay spacing nodes j v ≡ grown_from room s nodes) e (λ h. next_given {s = s} room decay spacing nodes v h) m

pub returns-in_err-made : goal.returns-in_err-made
returns-in_err-made c =
    let a = c.args in
    let m = sym c.step_of.ensures ∙ c.in_err-made.was in
    let d = drop (a.before.count * 2) a.nodes.now in
    let q = drop (a.before.count * 3) a.probabilities.now in
    let room = room_left d q a.rows.first a.rows.second in
    let n = next_refused room a.decay a.layer.spacing (numbers_in (front_nodes a.layer.count d)) a.step a.variance m in
    let x : c.from_residual.result ≡ Err c.in_err-made.field-0.0 = search rules in
    rw x (record { grown = grown-refused _ a.layer.count d d q q n refl refl; behind = untouched a.before.count a.nodes.now a.probabilities.now })

pub grow_by-requires : goal.grow_by-requires
grow_by-requires c =
    let a = c.args in
    let p = c.requires in
    let m = sym c.step_of.ensures ∙ c.in_ok-made.was in
    let k = c.known_count-known.ensures in
    record {
      front = asked c.in_ok-made.made (given_of (step-sound a.layer.spacing a.decay a.variance a.step) m) (given_of (placed a.layer.spacing a.decay a.variance a.step) m) p.front.0 p.front.1;
      known_le_before = (known-few k, known_of k p.before a.step m);
    }

pub returns : goal.returns
returns c =
    let a = c.args in
    let m = sym c.step_of.ensures ∙ c.in_ok-made.was in
    let e = given_of (placed a.layer.spacing a.decay a.variance a.step) m in
    let d = drop (a.before.count * 2) a.nodes.now in
    let q = drop (a.before.count * 3) a.probabilities.now in
    let room = room_left d q a.rows.first a.rows.second in
    let next = next_made room a.decay a.layer.spacing (numbers_in (front_nodes a.layer.count d)) a.variance c.in_ok-made.made m e in
    rw next c.grow_by.ensures
