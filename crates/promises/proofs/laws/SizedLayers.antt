-- The widths that sizing finds are the tree's: in any room it has these layers and they fit, or one of them doesn't fit and it is 21, or it is refused for another cause. Assumes nothing.
use Rattle.floats.specs.Reasons.{reason_number}
use Rattle.std.specs.Prelude.{ℕ, zero, suc, ◌+◌, ◌*◌, ◌≤◌, max, ◌≡◌, Bool, true, false, leb, ℤ, Float, Ok, Err}
use Rattle.std.proofs.Common.{arith, sym, ap, subst, ◌∙◌, le-leb}
use Rattle.std.proofs.Math.Path.{refl}
use Rattle.std.proofs.Math.Bool.{cond}
use Rattle.std.proofs.lemmas.Bool.{false≢true}
use mathlib.Core.List.{List, [], ◌∷◌}
use Rattle.std.proofs.Math.ListN.{length}
use Rattle.std.proofs.Math.IntN.{pred_ℤ, suc_ℤ}
use Rattle.std.specs.Float.{binary64}
use Rattle.std.specs.Float.Ieee.{mul, le}
use Rattle.floats.specs.Refusals.{Refusal}
use Rattle.floats.specs.Answers.{Answer, two, on_outcome, Outcome, follow, when_finite, refusal}
use Rattle.terms.specs.Numbers.{float, epsilon}
use Rattle.terms.specs.laws.Outcomes.{same_given, given_or_refused, of_given, valued-value}
use Rattle.lattice.specs.declared.Middle.{Middle}
use Rattle.lattice.specs.declared.Transition.{Transition}
use Rattle.lattice.specs.Layers.{Room, fits}
use Rattle.lattice.specs.Transitions.{Step, clamped, probabilities, middle_of, from_middle, transition_of}
use Rattle.lattice.specs.Lattice.{Layer, Lattice, transitions_of, destinations, spacing_of, step_of, grown, root_layer, flat_layer, flat, decay_of, curved, all_flat, lattice}
use Rattle.lattice.specs.laws.RisingMiddles.{around}
use Rattle.lattice.specs.laws.Middles.{Spread}
use Rattle.lattice.specs.laws.RoomTest.{Fitting, fitting}
use Rattle.std.proofs.Math.Nat.{le-max_left, le-max_right, max-le}
use Rattle.widths.specs.Widths.{middle_nodes, new_spacing, widths_from, flat_widths, curved_widths, widths, total, widest}
use Rattle.floats.specs.declared.Reason.TheVariants as reason

-- ---- given with a property, or refused with another number than 21

pub data Only {A : Type 0} (P : A → Type 0) : Outcome A → Type 0 where
  it : {x : A} → P x → Only P (Ok x)
  other : {r : Refusal} → (reason_number r.reason ≡ 21 → ⊥) → Only P (Err r)

not_27 : ◌≡◌ {A = ℕ} 27 21 → ⊥
not_27 e = omega (arith, e)

not_24 : ◌≡◌ {A = ℕ} 24 21 → ⊥
not_24 e = omega (arith, e)

-- ---- what is made of a middle, in the shape that `search` wants

record Sure {A : Type 0} (P : A → Type 0) (o : Outcome A) : Type 0 where
  sure : Only P o

module _ {A : Type 0} {P : A → Type 0} where
  sure-cond : (b : Bool) (o p : Outcome A) → Sure P o → Sure P p → Sure P (cond b o p)
  sure-cond true o p h k = h
  sure-cond false o p h k = k

  sure-given : (x : A) → P x → Sure P (Ok x)
  sure-given x h = record { sure = it h }

  sure_27 : (place : ℕ) → Sure P (refusal reason.NotFinite place)
  sure_27 place = record { sure = other not_27 }

  sure_24 : (place : ℕ) → Sure P (refusal reason.Probability place)
  sure_24 place = record { sure = other not_24 }

spread_of : (m : ℤ) (pd pm pu : Float) → Spread m (record { down = pred_ℤ m; middle = m; up = suc_ℤ m; probability_down = pd; probability_middle = pm; probability_up = pu })
spread_of m pd pm pu = record { down = refl; middle = refl; up = refl }

ruleset sures = (sure-cond, sure-given, sure_27, sure_24, spread_of)

clamped-only : (m : ℤ) (down mid up : Float) (place : ℕ) → Sure (Spread m) (clamped m down mid up place)
unfolding clamped
clamped-only m down mid up place = search sures depth 24

probabilities-only : (s : Step) (m : ℤ) (error : Float) → Sure (Spread m) (probabilities s m error)
unfolding probabilities
probabilities-only s m error = search (clamped-only, sures) depth 24

rest-only : (s : Step) (m : Middle) → Sure (Spread m.node) (from_middle s m)
unfolding from_middle
rest-only s m = search (probabilities-only, sures) depth 24

-- ---- a layer

only-follow : {A B : Type 0} {P : A → Type 0} {Q : B → Type 0} {o : Outcome A} (k : A → Outcome B) → Only P o → ((x : A) → P x → Only Q (k x)) → Only Q (follow o k)
unfolding on_outcome
only-follow k (it {x = x} p) h = h x p
only-follow k (other ne) h = other ne

transition-only : (s : Step) (n : ℤ) (m : Middle) → middle_of s.spacing s.decay s.new_spacing s.place n ≡ Ok m → Only (Spread m.node) (transition_of s n)
unfolding transition_of on_outcome
transition-only s n m e = subst (λ (o : Outcome Middle). Only (Spread m.node) (follow o λ k. from_middle s k)) (sym e) (rest-only s m).sure

-- The next layer goes by the middles.
Reaches : List ℤ → List Transition → Type 0
Reaches ms ts = destinations ts ≡ around ms

transitions-only : (s : Step) (nodes ms : List ℤ) → middle_nodes s.spacing s.decay s.new_spacing s.place nodes ≡ Ok ms → Only (Reaches ms) (transitions_of s nodes)
unfolding transitions_of middle_nodes Reaches destinations around
transitions-only s [] ms e = it (ap around (same_given e))
transitions-only s (n ∷ ns) ms e =
    let (m, p, q) = of_given (middle_of s.spacing s.decay s.new_spacing s.place n) (λ m. follow (middle_nodes s.spacing s.decay s.new_spacing s.place ns) λ ms. Ok (m.node ∷ ms)) e in
    let (rest, u, v) = of_given (middle_nodes s.spacing s.decay s.new_spacing s.place ns) (λ ms. Ok (m.node ∷ ms)) q in
    only-follow (λ t. follow (transitions_of s ns) λ ts. Ok (t ∷ ts)) (transition-only s n m p) λ t h.
    only-follow (λ ts. Ok (t ∷ ts)) (transitions-only s ns rest u) λ ts g.
    it (rw (h.down, h.middle, h.up, g) (ap around (same_given v)))

-- ---- a step

abbrev divisors_of : Float → Float → Float → ℕ → Float → Outcome Step
divisors_of spacing decay variance k new =
    when_finite (mul binary64 variance (float 6)) k λ denominator.
    when_finite (mul binary64 new two) k λ scale.
    Ok (record { spacing = spacing; decay = decay; new_spacing = new; denominator = denominator; scale = scale; place = k })

step_is : (spacing decay variance : Float) (k : ℕ) → step_of spacing decay variance k ≡ follow (new_spacing variance k) (divisors_of spacing decay variance k)
unfolding step_of new_spacing on_outcome
step_is spacing decay variance k = go (le variance epsilon) (spacing_of variance k)
  where
    go : (b : Bool) (a : Answer) → cond b (refusal reason.NoVariance k) (follow a (divisors_of spacing decay variance k)) ≡ follow (cond b (refusal reason.NoVariance k) a) (divisors_of spacing decay variance k)
    go true a = refl
    go false (Ok x) = refl
    go false (Err r) = refl

record StepWith (spacing decay new : Float) (k : ℕ) (s : Step) : Type 0 where
  its_spacing : s.spacing ≡ spacing
  its_decay : s.decay ≡ decay
  its_new : s.new_spacing ≡ new
  its_place : s.place ≡ k

step_with_lem : (spacing decay new denominator scale : Float) (k : ℕ) → StepWith spacing decay new k (record { spacing = spacing; decay = decay; new_spacing = new; denominator = denominator; scale = scale; place = k })
step_with_lem spacing decay new denominator scale k = record { its_spacing = refl; its_decay = refl; its_new = refl; its_place = refl }

divisors-only : (spacing decay variance : Float) (k : ℕ) (new : Float) → Sure (StepWith spacing decay new k) (divisors_of spacing decay variance k new)
divisors-only spacing decay variance k new = search (step_with_lem, sures) depth 24

step-only : (spacing decay variance : Float) (k : ℕ) (new : Float) → new_spacing variance k ≡ Ok new → Only (StepWith spacing decay new k) (step_of spacing decay variance k)
unfolding on_outcome
step-only spacing decay variance k new e = subst (Only (StepWith spacing decay new k)) (sym (step_is spacing decay variance k ∙ ap (λ (o : Outcome Float). follow o (divisors_of spacing decay variance k)) e)) (divisors-only spacing decay variance k new).sure

-- ---- all layers

unfoldable pub widths_of : List Layer → List ℤ → List ℕ
widths_of [] final = length final ∷ []
widths_of (l ∷ layers) final = length l.nodes ∷ widths_of layers final

-- Every layer behind the first fits; so many nodes stand before the first.
pub data AllFit (room : Room) : ℕ → List ℕ → Type 0 where
  last_fits : {before w : ℕ} → AllFit room before (w ∷ [])
  more_fit : {before w x : ℕ} {ws : List ℕ} → fits room (before + w + x) x ≡ true → AllFit room (before + w) (x ∷ ws) → AllFit room before (w ∷ x ∷ ws)

fit_first : {room : Room} {before w x : ℕ} {ws : List ℕ} → AllFit room before (w ∷ x ∷ ws) → fits room (before + w + x) x ≡ true
fit_first (more_fit e a) = e

fit-rest : {room : Room} {before w x : ℕ} {ws : List ℕ} → AllFit room before (w ∷ x ∷ ws) → AllFit room (before + w) (x ∷ ws)
fit-rest (more_fit e a) = a

-- The layers have these widths and fit; or one of them doesn't, and it is 21; or another cause stops it.
pub data Grows (room : Room) (before : ℕ) (ws : List ℕ) : Outcome Lattice → Type 0 where
  laid : {t : Lattice} → widths_of t.layers t.final ≡ ws → AllFit room before ws → Grows room before ws (Ok t)
  short : {k : ℕ} → (AllFit room before ws → ⊥) → Grows room before ws (refusal reason.NoRoom k)
  stopped : {r : Refusal} → (reason_number r.reason ≡ 21 → ⊥) → Grows room before ws (Err r)

grows-follow : {A : Type 0} {P : A → Type 0} {room : Room} {before : ℕ} {ws : List ℕ} {o : Outcome A} (k : A → Outcome Lattice) → Only P o → ((x : A) → P x → Grows room before ws (k x)) → Grows room before ws (follow o k)
unfolding on_outcome
grows-follow k (it {x = x} p) h = h x p
grows-follow k (other ne) h = stopped ne

cond-given : {A : Type 0} (b : Bool) (o : Outcome A) (k : ℕ) {x : A} → cond b o (refusal reason.NoRoom k) ≡ Ok x → o ≡ Ok x
cond-given true o k e = e
cond-given false o k e = absurd (given_or_refused (sym (sym e)) refl)

abbrev in_front : List ℤ → List Transition → Float → Lattice → Outcome Lattice
in_front nodes ts spacing rest = Ok (record { layers = record { nodes = nodes; transitions = ts; spacing = spacing } ∷ rest.layers; final = rest.final })

one_more : {room : Room} {before x : ℕ} {ws : List ℕ} {o : Outcome Lattice} (nodes : List ℤ) (ts : List Transition) (spacing : Float) (k : ℕ) (b : Bool) → fits room (before + length nodes + x) x ≡ b → Grows room (before + length nodes) (x ∷ ws) o → Grows room before (length nodes ∷ x ∷ ws) (cond b (follow o (in_front nodes ts spacing)) (refusal reason.NoRoom k))
unfolding on_outcome widths_of
one_more nodes ts spacing k true e (laid p a) = laid (ap (λ (z : List ℕ). length nodes ∷ z) p) (more_fit e a)
one_more nodes ts spacing k true e (short ne) = short λ a. ne (fit-rest a)
one_more nodes ts spacing k true e (stopped ne) = stopped ne
one_more nodes ts spacing k false e g = short λ a. false≢true (sym e ∙ fit_first a)

-- The first width is that of the layer in front.
record Headed (n : ℕ) (ws : List ℕ) : Type 0 where
  tail : List ℕ
  is : ws ≡ n ∷ tail

headed : (slice : ℕ) (decay spacing : Float) (nodes : List ℤ) (k : ℕ) (vs : List Float) (ws : List ℕ) → widths_from slice decay spacing nodes k vs ≡ Ok ws → Headed (length nodes) ws
unfolding widths_from
headed slice decay spacing nodes k [] ws e = record { tail = []; is = sym (same_given e) }
headed slice decay spacing nodes k (v ∷ vs) ws e =
    let (new, p, q) = of_given (new_spacing v k) (λ new. follow (middle_nodes spacing decay new k nodes) λ ms. cond (leb (length nodes + length (around ms)) slice) (follow (widths_from slice decay new (around ms) (suc k) vs) λ ws. Ok (length nodes ∷ ws)) (refusal reason.NoRoom (suc k))) e in
    let (ms, u, w) = of_given (middle_nodes spacing decay new k nodes) (λ ms. cond (leb (length nodes + length (around ms)) slice) (follow (widths_from slice decay new (around ms) (suc k) vs) λ ws. Ok (length nodes ∷ ws)) (refusal reason.NoRoom (suc k))) q in
    let (rest, x, y) = of_given (widths_from slice decay new (around ms) (suc k) vs) (λ ws. Ok (length nodes ∷ ws)) (cond-given (leb (length nodes + length (around ms)) slice) _ (suc k) w) in
    record { tail = rest; is = sym (same_given y) }

module _ (slice : ℕ) (room : Room) (decay : Float) where
  pub grows : (spacing : Float) (before : ℕ) (nodes : List ℤ) (k : ℕ) (vs : List Float) (ws : List ℕ) → widths_from slice decay spacing nodes k vs ≡ Ok ws → Grows room before ws (grown room decay spacing before nodes k vs)
  unfolding widths_from grown widths_of Reaches
  grows spacing before nodes k [] ws e = rw (← same_given e) (laid refl last_fits)
  grows spacing before nodes k (v ∷ vs) ws e =
      let (new, p, q) = of_given (new_spacing v k) (λ new. follow (middle_nodes spacing decay new k nodes) λ ms. cond (leb (length nodes + length (around ms)) slice) (follow (widths_from slice decay new (around ms) (suc k) vs) λ ws. Ok (length nodes ∷ ws)) (refusal reason.NoRoom (suc k))) e in
      let (ms, u, w) = of_given (middle_nodes spacing decay new k nodes) (λ ms. cond (leb (length nodes + length (around ms)) slice) (follow (widths_from slice decay new (around ms) (suc k) vs) λ ws. Ok (length nodes ∷ ws)) (refusal reason.NoRoom (suc k))) q in
      let (rest, x, y) = of_given (widths_from slice decay new (around ms) (suc k) vs) (λ ws. Ok (length nodes ∷ ws)) (cond-given (leb (length nodes + length (around ms)) slice) _ (suc k) w) in
      let h = headed slice decay new (around ms) (suc k) vs rest x in
      grows-follow _ (step-only spacing decay v k new p) λ s g.
      grows-follow _ (transitions-only s nodes ms (rw (g.its_spacing, g.its_decay, g.its_new, g.its_place) u)) λ ts r.
      rw (← same_given y, h.is, r, g.its_new)
      (one_more nodes ts spacing (suc k) (fits room (before + length nodes + length (around ms)) (length (around ms))) refl (rw h.is at (grows new (before + length nodes) (around ms) (suc k) vs rest x)))

-- ---- as many as the widths say, and no fewer

fits_of : (room : Room) (all layer : ℕ) → Fitting room all layer → fits room all layer ≡ true
fits_of room all layer f =
    rw (le-leb (2 * all) room.nodes f.pairs, le-leb (3 * all) room.probabilities f.threes, le-leb layer room.first f.first, le-leb layer room.second f.second)

less_fits : {room : Room} {all layer some part : ℕ} → Fitting room all layer → some ≤ all → part ≤ layer → Fitting room some part
less_fits f h k =
    let p = f.pairs in
    let t = f.threes in
    let a = f.first in
    let b = f.second in
    record { pairs = omega arith; threes = omega arith; first = omega arith; second = omega arith }

pub enough : (room : Room) (before w : ℕ) (ws : List ℕ) → Fitting room (before + total (w ∷ ws)) (widest (w ∷ ws)) → AllFit room before (w ∷ ws)
unfolding total widest
enough room before w [] f = last_fits
enough room before w (x ∷ ws) f =
    let e : before + (w + (x + total ws)) ≡ before + w + (x + total ws) = omega arith in
    let m = le-max_right w (max x (widest ws)) in
    let n = le-max_left x (widest ws) in
    more_fit
    (fits_of room (before + w + x) x (less_fits f (omega arith) (omega (arith, m, n))))
    (enough room (before + w) x ws (less_fits f (omega arith) m))

pub needed : (room : Room) (before w : ℕ) (ws : List ℕ) → fits room (before + w) w ≡ true → AllFit room before (w ∷ ws) → Fitting room (before + total (w ∷ ws)) (widest (w ∷ ws))
unfolding total widest
needed room before w [] e last_fits = let f = fitting room (before + w) w e in let p = f.pairs in let t = f.threes in let a = f.first in let b = f.second in record { pairs = omega arith; threes = omega arith; first = max-le a (omega arith); second = max-le b (omega arith) }
needed room before w (x ∷ ws) e (more_fit g a) =
    let f = fitting room (before + w) w e in
    let n = needed room (before + w) x ws g a in
    let p = n.pairs in
    let t = n.threes in
    record { pairs = omega arith; threes = omega arith; first = max-le f.first n.first; second = max-le f.second n.second }

-- ---- the whole tree

-- The layers have these widths, and the room is enough for them; or it isn't, and it is 21; or another cause stops it.
pub data Sized (room : Room) (before : ℕ) (ws : List ℕ) : Outcome Lattice → Type 0 where
  all_laid : {t : Lattice} → widths_of t.layers t.final ≡ ws → Fitting room (before + total ws) (widest ws) → Sized room before ws (Ok t)
  no_room : {k : ℕ} → (Fitting room (before + total ws) (widest ws) → ⊥) → Sized room before ws (refusal reason.NoRoom k)
  stopped_by : {r : Refusal} → (reason_number r.reason ≡ 21 → ⊥) → Sized room before ws (Err r)

from_front : (room : Room) (w : ℕ) (ws : List ℕ) (k : ℕ) (b : Bool) (o : Outcome Lattice) → fits room (0 + w) w ≡ b → Grows room 0 (w ∷ ws) o → Sized room 0 (w ∷ ws) (cond b o (refusal reason.NoRoom k))
unfolding total widest
from_front room w ws k true o e (laid p a) = all_laid p (needed room 0 w ws e a)
from_front room w ws k true o e (short ne) = no_room λ f. ne (enough room 0 w ws f)
from_front room w ws k true o e (stopped ne) = stopped_by ne
from_front room w ws k false o e g = no_room λ f. false≢true (sym e ∙ fits_of room (0 + w) w (less_fits f (omega arith) (le-max_left w (widest ws))))

of_value_lem : {A : Type 0} (a : Answer) (k : Float → Outcome A) {x : A} → follow a k ≡ Ok x → (y : Float) × (a ≡ Ok y) × (k y ≡ Ok x)
unfolding on_outcome
of_value_lem (Ok y) k e = (y, refl, e)
of_value_lem (Err r) k e = absurd (given_or_refused e refl)

rooted-sized : (slice : ℕ) (room : Room) (decay spacing v : Float) (vs : List Float) (ws : List ℕ) → widths_from slice decay spacing root_layer 0 (v ∷ vs) ≡ Ok ws → Sized room 0 ws (cond (fits room 1 1) (grown room decay spacing 0 root_layer 0 (v ∷ vs)) (refusal reason.NoRoom 0))
rooted-sized slice room decay spacing v vs ws x =
    let h = headed slice decay spacing root_layer 0 (v ∷ vs) ws x in
    let o = grown room decay spacing 0 root_layer 0 (v ∷ vs) in
    let g = subst (λ (z : List ℕ). Grows room 0 z o) h.is (grows slice room decay spacing 0 root_layer 0 (v ∷ vs) ws x) in
    subst (λ (z : List ℕ). Sized room 0 z (cond (fits room 1 1) o (refusal reason.NoRoom 0))) (sym h.is) (from_front room 1 h.tail 0 (fits room 1 1) o refl g)

curved-sized : (slice : ℕ) (room : Room) (alpha dt v : Float) (vs : List Float) (ws : List ℕ) → curved_widths slice alpha dt (v ∷ vs) ≡ Ok ws → Sized room 0 ws (curved room alpha dt (v ∷ vs))
unfolding curved_widths curved on_outcome
curved-sized slice room alpha dt v vs ws e =
    let (decay, p, q) = of_value_lem (decay_of alpha dt) (λ decay. follow (spacing_of v 0) λ spacing. cond (leb 1 slice) (widths_from slice decay spacing root_layer 0 (v ∷ vs)) (refusal reason.NoRoom 0)) e in
    let (spacing, u, w) = of_value_lem (spacing_of v 0) (λ spacing. cond (leb 1 slice) (widths_from slice decay spacing root_layer 0 (v ∷ vs)) (refusal reason.NoRoom 0)) q in
    let x = cond-given (leb 1 slice) (widths_from slice decay spacing root_layer 0 (v ∷ vs)) 0 w in
    let rooted : Float → Float → Outcome Lattice = λ decay spacing. cond (fits room 1 1) (grown room decay spacing 0 root_layer 0 (v ∷ vs)) (refusal reason.NoRoom 0) in
    subst (Sized room 0 ws)
    (sym (valued-value (decay_of alpha dt) (λ decay. follow (spacing_of v 0) (rooted decay)) p ∙ valued-value (spacing_of v 0) (rooted decay) u))
    (rooted-sized slice room decay spacing v vs ws x)

abbrev flat_front : Lattice → Outcome Lattice
flat_front rest = Ok (record { layers = flat_layer ∷ rest.layers; final = rest.final })

flat_more : (room : Room) (k : ℕ) (ws : List ℕ) (b : Bool) (o : Outcome Lattice) → fits room (k + 1) 1 ≡ b → Sized room (suc k) ws o → Sized room k (1 ∷ ws) (cond b (follow o flat_front) (refusal reason.NoRoom k))
unfolding total widest widths_of on_outcome
flat_more room k ws true o e (all_laid p f) =
    let g = fitting room (k + 1) 1 e in
    let i = f.pairs in
    let j = f.threes in
    all_laid (ap (λ (z : List ℕ). 1 ∷ z) p) (record { pairs = omega arith; threes = omega arith; first = max-le g.first f.first; second = max-le g.second f.second })
flat_more room k ws true o e (no_room ne) = no_room λ f. ne (less_fits f (omega arith) (le-max_right 1 (widest ws)))
flat_more room k ws true o e (stopped_by ne) = stopped_by ne
flat_more room k ws false o e g = no_room λ f. false≢true (sym e ∙ fits_of room (k + 1) 1 (less_fits f (omega arith) (le-max_left 1 (widest ws))))

flat_last : (room : Room) (k : ℕ) (b : Bool) → fits room (k + 1) 1 ≡ b → Sized room k (1 ∷ []) (cond b (Ok (record { layers = []; final = root_layer })) (refusal reason.NoRoom k))
unfolding total widest widths_of
flat_last room k true e = let g = fitting room (k + 1) 1 e in let i = g.pairs in let j = g.threes in all_laid refl (record { pairs = omega arith; threes = omega arith; first = g.first; second = g.second })
flat_last room k false e = no_room λ f. false≢true (sym e ∙ fits_of room (k + 1) 1 (less_fits f (omega arith) (le-max_left 1 0)))

flat-sized : (slice : ℕ) (room : Room) (k left : ℕ) (ws : List ℕ) → flat_widths slice k left ≡ Ok ws → Sized room k ws (flat room k left)
unfolding flat_widths flat
flat-sized slice room k zero ws e = rw (← same_given e) (flat_last room k (fits room (k + 1) 1) refl)
flat-sized slice room k (suc left) ws e =
    let (rest, p, q) = of_given (flat_widths slice (suc k) left) (λ ws. Ok (1 ∷ ws)) (cond-given (leb 2 slice) _ (suc k) e) in
    rw (← same_given q) (flat_more room k rest (fits room (k + 1) 1) (flat room (suc k) left) refl (flat-sized slice room (suc k) left rest p))

-- Where sizing finds widths: the tree in any room has these layers and the room is enough; or it isn't, and the answer is 21; or another cause stops it.
pub sized : (slice : ℕ) (room : Room) (alpha dt : Float) (variances : List Float) (ws : List ℕ) → widths slice alpha dt variances ≡ Ok ws → Sized room 0 ws (lattice room alpha dt variances)
unfolding widths lattice all_flat
sized slice room alpha dt [] ws e = flat-sized slice room 0 0 ws (cond-given (leb 1 slice) _ 0 e)
sized slice room alpha dt (v ∷ vs) ws e = go (all_flat (v ∷ vs)) e
  where
    go : (b : Bool) → cond b (cond (leb 1 slice) (flat_widths slice 0 (length (v ∷ vs))) (refusal reason.NoRoom 0)) (curved_widths slice alpha dt (v ∷ vs)) ≡ Ok ws → Sized room 0 ws (cond b (flat room 0 (length (v ∷ vs))) (curved room alpha dt (v ∷ vs)))
    go true e = flat-sized slice room 0 (length (v ∷ vs)) ws (cond-given (leb 1 slice) _ 0 e)
    go false e = curved-sized slice room alpha dt v vs ws e
