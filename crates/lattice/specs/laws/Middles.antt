-- The middles of a layer: each is the rounded quotient, within ±1,000,000, with its two neighbours as destinations; and they never fall from node to node. Assumes nothing.
use Rattle.std.specs.Prelude.{ℕ, ◌≡◌, refl, Bool, true, false, cond, ◌||◌, List, [], ◌∷◌, T, ℤ, Float, Ok, Err}
use Rattle.std.proofs.Common.{sym, subst, ◌∙◌}
use Rattle.std.proofs.Math.IntN.{suc_ℤ, pred_ℤ}
use Rattle.std.specs.Int.Signed.{le_z}
use Rattle.std.specs.Float.Ieee.{binary64, add, sub, mul, div, neg, le, lt, fits, to_signed}
use Rattle.std.specs.Float.Ieee.Fits.{div-fits}
use Rattle.std.specs.Float.Ieee.Scale.{finite}
use Rattle.floats.specs.declared.Reason.{Reason}
use Rattle.floats.specs.Refusals.{Refusal}
use Rattle.floats.specs.Answers.{plus_zero, one, two, on_outcome, Outcome, refusal}
use Rattle.floats.specs.Whole.{rounded}
use Rattle.floats.specs.laws.Arithmetic.{mul_mono_left, mul_mono_right, div_mono_left}
use Rattle.floats.specs.laws.Cuts.{whole-finite}
use Rattle.floats.specs.laws.Whole.{rounded-mono, rounded-whole, round-answers}
use Rattle.terms.specs.Numbers.{million}
use Rattle.floats.specs.declared.Reason.TheVariants as reason
use Rattle.lattice.specs.declared.Middle.{Middle}
use Rattle.lattice.specs.declared.Transition.{Transition}
use Rattle.lattice.specs.Layers.{below, node_float}
use Rattle.lattice.specs.Transitions.{Step, too_low, too_far, clamped, middle_of, from_middle, transition_of}
use Rattle.lattice.specs.Lattice.{transitions_of, destinations}
use Rattle.floats.specs.laws.Finite.{finite_of_mul, positive_of-div}
use Rattle.terms.specs.laws.Outcomes.{Gives, gives, nothing, given_of, gives-follow, gives-finite, gives-cond}
use Rattle.lattice.specs.laws.Bounds.{Within}
use Rattle.lattice.specs.laws.CastOrder.{cast_mono, middle-within}
use Rattle.lattice.specs.laws.Gaps.{Gap, gap_of, node-mono}
use Rattle.lattice.specs.laws.Making.{six, three, shares, chances, centred, centred_from, held, state_of, expectation_of, quotient_of}
use Rattle.lattice.specs.laws.RisingMiddles.{Rising, ends, next, Climbs, none, above, around}

-- ---- one transition

-- The destinations are a middle and its two neighbours.
pub record Spread (m : ℤ) (t : Transition) : Type 0 where
  pub down : t.down ≡ pred_ℤ m
  pub middle : t.middle ≡ m
  pub up : t.up ≡ suc_ℤ m

shares-spread : (m : ℤ) (d p u : Float) (place : ℕ) → Gives (Spread m) (shares m d p u place)
unfolding shares
shares-spread m d p u place =
    let w = add binary64 (add binary64 d p) u in
    gives-finite (add binary64 d p) _ _ λ _.
    gives-finite w _ _ λ _.
    gives-finite (div binary64 d w) _ _ λ _.
    gives-finite (div binary64 p w) _ _ λ _.
    gives-finite (div binary64 u w) _ _ λ _. gives (record { down = refl; middle = refl; up = refl })

spread-given : (m : ℤ) (pd pm pu : Float) → Gives (Spread m) (Ok (record { down = pred_ℤ m; middle = m; up = suc_ℤ m; probability_down = pd; probability_middle = pm; probability_up = pu }))
spread-given m pd pm pu = gives (record { down = refl; middle = refl; up = refl })

spread-nothing : (m : ℤ) (r : Refusal) → Gives (Spread m) (Err r)
spread-nothing m r = nothing

spread-cond : (m : ℤ) (b : Bool) (o q : Outcome Transition) → Gives (Spread m) o → Gives (Spread m) q → Gives (Spread m) (cond b o q)
spread-cond m b o q h k = gives-cond b o q h k

clamped-spread : (m : ℤ) (down mid up : Float) (place : ℕ) → Gives (Spread m) (clamped m down mid up place)
unfolding clamped
clamped-spread m down mid up place = search (spread-cond, spread-nothing, spread-given) depth 20 fits 4000

chances-spread : (m : ℤ) (error denominator scale : Float) (place : ℕ) → Gives (Spread m) (chances m error denominator scale place)
unfolding chances
chances-spread m error denominator scale place =
    let term = div binary64 (mul binary64 error error) denominator in
    let a = add binary64 (div binary64 one six) term in
    let skew = div binary64 error scale in
    let down = sub binary64 a skew in
    let mid = sub binary64 (div binary64 two three) (mul binary64 term two) in
    let up = add binary64 a skew in
    gives-finite (mul binary64 error error) _ _ λ _.
    gives-finite term _ _ λ _.
    gives-finite a _ _ λ _.
    gives-finite skew _ _ λ _.
    gives-finite down _ _ λ _.
    gives-finite (mul binary64 term two) _ _ λ _.
    gives-finite mid _ _ λ _.
    gives-finite up _ _ λ _.
    gives-cond (too_low down || (too_low mid || too_low up)) _ _ nothing
    (clamped-spread m down mid up place)

module _ {B : Type 0} {Q : B → Type 0} where
  -- tests that were false
  gives-neither : (a b : Bool) (q : Outcome B) (why : Reason) (k : ℕ) → (a ≡ false → b ≡ false → Gives Q q) → Gives Q (cond (a || b) (refusal why k) q)
  gives-neither true b q why k h = nothing
  gives-neither false true q why k h = nothing
  gives-neither false false q why k h = h refl refl

module _ {A : Type 0} {P Q : A → Type 0} where
  gives-map : {o : Outcome A} → ((x : A) → P x → Q x) → Gives P o → Gives Q o
  gives-map f (gives {x = x} p) = gives (f x p)
  gives-map f nothing = nothing

-- What is known of a node's middle.
pub record MiddleFrom (s : Step) (n : ℤ) (m : Middle) : Type 0 where
  pub state-finite : T (finite (state_of s n))
  pub expectation-finite : T (finite (expectation_of s n))
  pub quotient-finite : T (finite (quotient_of s n))
  pub is : m ≡ record { expectation = expectation_of s n; middle = rounded (quotient_of s n); node = to_signed 31 (rounded (quotient_of s n)) }
  pub not_far : too_far (rounded (quotient_of s n)) ≡ false
  pub within : Within m.node

-- What is known of a transition that was made from a node.
pub record FromNode (s : Step) (n : ℤ) (t : Transition) : Type 0 where
  pub state-finite : T (finite (state_of s n))
  pub expectation-finite : T (finite (expectation_of s n))
  pub quotient-finite : T (finite (quotient_of s n))
  pub within : Within t.middle
  pub spread : Spread (to_signed 31 (rounded (quotient_of s n))) t

module _ (s : Step) (n : ℤ) where
  q_fits : T (fits binary64 (quotient_of s n))
  q_fits = div-fits binary64 (expectation_of s n) s.new_spacing

  held_from : T (finite (state_of s n)) → T (finite (expectation_of s n)) → T (finite (quotient_of s n)) → Gives (MiddleFrom s n) (held (expectation_of s n) (rounded (quotient_of s n)) s.place)
  unfolding held
  held_from a b c =
      let y = rounded (quotient_of s n) in
      let w = rounded-whole (quotient_of s n) q_fits c in
      gives-neither (lt y (neg million)) (lt million y) _ reason.NodeTooFar s.place λ low high.
      gives
      (record {
        state-finite = a;
        expectation-finite = b;
        quotient-finite = c;
        is = refl;
        not_far = rw (low, high);
        within = middle-within y w low high;
      })

  pub middle_from : Gives (MiddleFrom s n) (middle_of s.spacing s.decay s.new_spacing s.place n)
  unfolding middle_of held on_outcome
  middle_from =
      gives-finite (state_of s n) _ _ λ a.
      gives-finite (expectation_of s n) _ _ λ b.
      gives-finite (quotient_of s n) _ _ λ c. rw (round-answers (quotient_of s n) s.place q_fits c) (held_from a b c)

  from_middle-spread : (m : Middle) → Gives (Spread m.node) (from_middle s m)
  unfolding centred
  from_middle-spread m =
      let centre = mul binary64 s.new_spacing m.middle in
      let error = sub binary64 m.expectation centre in
      rw (← centred_from s m)
      (gives-finite centre _ _ λ _.
      gives-finite error _ _ λ _. chances-spread m.node error s.denominator s.scale s.place)

  from_node : (m : Middle) → MiddleFrom s n m → (t : Transition) → Spread m.node t → FromNode s n t
  from_node m f t p =
      record {
        state-finite = f.state-finite;
        expectation-finite = f.expectation-finite;
        quotient-finite = f.quotient-finite;
        within = rw p.middle f.within;
        spread = subst (λ (k : Middle). Spread k.node t) f.is p;
      }

  pub transition_from : Gives (FromNode s n) (transition_of s n)
  unfolding transition_of
  transition_from = gives-follow _ _ middle_from λ m f. gives-map (from_node m f) (from_middle-spread m)

-- What the code makes of a node's middle.
module _ (s : Step) (n : ℤ) (found : Outcome Middle) (ensured : found ≡ middle_of s.spacing s.decay s.new_spacing s.place n) where
  pub made-within : (m : Middle) → found ≡ Ok m → Within m.node
  made-within m e = (given_of (middle_from s n) (sym ensured ∙ e)).within

  pub made-transition : (m : Middle) → found ≡ Ok m → centred m s.new_spacing s.denominator s.scale s.place ≡ transition_of s n
  unfolding transition_of on_outcome
  made-transition m e = rw (← ensured, e) (centred_from s m)

  pub made-refused : (r : Refusal) → found ≡ Err r → Err r ≡ transition_of s n
  unfolding transition_of on_outcome
  made-refused r e = rw (← ensured, e)

-- ---- a layer

-- Node by node.
pub data Along (s : Step) : List ℤ → List Transition → Type 0 where
  no_node : Along s [] []
  one_node : {n : ℤ} {t : Transition} {ns : List ℤ} {ts : List Transition} → FromNode s n t → Along s ns ts → Along s (n ∷ ns) (t ∷ ts)

pub transitions-along : (s : Step) (nodes : List ℤ) → Gives (Along s nodes) (transitions_of s nodes)
unfolding transitions_of
transitions-along s [] = gives no_node
transitions-along s (n ∷ nodes) =
    gives-follow _ _ (transition_from s n) λ t w.
    gives-follow _ _ (transitions-along s nodes) λ ts ws. gives (one_node w ws)

-- The middles of a layer's transitions.
unfoldable pub middles_of : List Transition → List ℤ
middles_of [] = []
middles_of (t ∷ ts) = t.middle ∷ middles_of ts

-- The next layer goes by the middles alone.
pub destinations-around : {s : Step} {ns : List ℤ} {ts : List Transition} → Along s ns ts → destinations ts ≡ around (middles_of ts)
unfolding destinations around middles_of
destinations-around no_node = refl
destinations-around (one_node {t = t} f a) =
    let p = f.spread in
    rw (p.down, p.middle, p.up, destinations-around a)

-- A step whose spacings and decay are not below 0.
pub record Upright (s : Step) : Type 0 where
  pub spacing-above : T (le plus_zero s.spacing)
  pub decay-above : T (le plus_zero s.decay)
  pub new-finite : T (finite s.new_spacing)
  pub new-above : T (le plus_zero s.new_spacing)

-- Every operation from a node to its middle keeps the order; a quotient is finite only where the new spacing is above 0.
middle-mono : (s : Step) → Upright s → (a b : ℤ) (t u : Transition) → T (below a b) → FromNode s a t → FromNode s b u → T (le_z t.middle u.middle)
middle-mono s r a b t u h f g =
    let x = finite_of_mul binary64 s.spacing (node_float a) f.state-finite in
    let y = finite_of_mul binary64 s.spacing (node_float b) g.state-finite in
    let d = finite_of_mul binary64 (state_of s a) s.decay f.expectation-finite in
    let p = positive_of-div binary64 (expectation_of s a) s.new_spacing r.new-finite r.new-above f.quotient-finite in
    rw (f.spread.middle, g.spread.middle)
    (cast_mono 31 (rounded (quotient_of s a)) (rounded (quotient_of s b))
    (whole-finite _ (rounded-whole (quotient_of s a) (q_fits s a) f.quotient-finite))
    (whole-finite _ (rounded-whole (quotient_of s b) (q_fits s b) g.quotient-finite))
    (rounded-mono (quotient_of s a) (quotient_of s b) f.quotient-finite g.quotient-finite
    (div_mono_left binary64 (expectation_of s a) (expectation_of s b) s.new_spacing f.expectation-finite g.expectation-finite r.new-finite p
    (mul_mono_left binary64 (state_of s a) (state_of s b) s.decay f.state-finite g.state-finite d.1 r.decay-above
    (mul_mono_right binary64 s.spacing (node_float a) (node_float b) x.0 x.1 y.1 r.spacing-above (node-mono a b h))))))

risen : {m n : ℤ} {ms : List ℤ} → Gap m n → Rising n ms → Rising m (n ∷ ms)
risen {m} {n} {ms} g r = rw g.is (next g.size (rw g.is at r))

-- The middles of a rising layer never fall from node to node.
pub rising-along : {s : Step} → Upright s → {n : ℤ} {t : Transition} {ns : List ℤ} {ts : List Transition} → FromNode s n t → Climbs n ns → Along s ns ts → Rising t.middle (middles_of ts)
unfolding middles_of
rising-along r f none no_node = ends
rising-along {s = s} r {n} {t} f (above {x = x} h c) (one_node {t = u} g a) = risen (gap_of t.middle u.middle (middle-mono s r n x t u h f g)) (rising-along r g c a)
