-- The exps of a layer, 64 nodes at a time: exp's own test stands for those before it, and what is kept of a part's exps on the way through it. Assumes nothing.
use Rattle.std.specs.Prelude.{ℕ, ◌+◌, ◌-◌, ◌*◌, ◌/◌, ◌%◌, min, ◌≤◌, ◌<◌, ◌≡◌, refl, Bool, true, cond, List, ◌++◌, length, get_or, set, take, ℤ, pos, Float, Ok, Err}
use Rattle.std.proofs.Common.{sym, ap, ◌∙◌, arith, get_or-take, length-take-le}
use Rattle.std.proofs.Math.ListN.{get_or-append}
use Rattle.std.specs.Float.{nan}
use Rattle.std.specs.Float.Ieee.{binary64, add, mul, neg}
use Rattle.floats.specs.Answers.{Answer, refusal, on_outcome, follow, not_finite, tested, when_finite}
use Rattle.floats.specs.laws.Propagation.{test_later, add_right, mul_left, mul_right}
use Rattle.elementary.specs.Exponential.{exp_at, ExpRow}
use Rattle.elementary.specs.laws.Rows.{Filled, filled_more}
use Rattle.elementary.specs.laws.Tested.{exp_later_then}
use Rattle.lattice.specs.Layers.{node_float}
use Rattle.forwardinduction.specs.laws.FitSteps.{weigh_one, discounted_of}
use Rattle.floats.specs.declared.Reason.TheVariants as reason

-- ---- the arguments of exp, from a node's number

abbrev pub weight_argument : Float → Float → Float → Float
weight_argument spacing dt node = mul binary64 spacing (mul binary64 (neg node) dt)

abbrev pub rate_argument : Float → Float → Float → Float → Float
rate_argument spacing dt shift node = mul binary64 (add binary64 shift (mul binary64 spacing node)) (neg dt)

-- ---- one test for those before it

then_same : (a : Answer) (k l : Float → Answer) → ((x : Float) → k x ≡ l x) → follow a k ≡ follow a l
unfolding on_outcome
then_same (Ok x) k l e = e x
then_same (Err r) k l e = refl

-- a test, then the same
after_test : (x : Float) (place : ℕ) {a b : Answer} → a ≡ b → cond (not_finite x) (refusal reason.NotFinite place) a ≡ cond (not_finite x) (refusal reason.NotFinite place) b
after_test x place e = ap (λ (a : Answer). cond (not_finite x) (refusal reason.NotFinite place) a) e

module _ (spacing dt : Float) (place : ℕ) (node price total : Float) where
  abbrev scaled : Float
  scaled = mul binary64 (neg node) dt

  abbrev added : Float → Answer
  added e = when_finite (mul binary64 price e) place λ w. tested (add binary64 total w) place

  pub weigh-fused : weigh_one spacing dt place node price total ≡ follow (exp_at (weight_argument spacing dt node) place) λ e. tested (add binary64 total (mul binary64 price e)) place
  unfolding weigh_one
  weigh-fused =
      after_test scaled place (exp_later_then (λ y. y) (mul binary64 spacing scaled) place added (λ y h. h))
      ∙ exp_later_then (mul binary64 spacing) scaled place added (mul_right binary64 spacing)
      ∙ then_same (exp_at (mul binary64 spacing scaled) place) added _ λ e. test_later (add binary64 total) (mul binary64 price e) place (add_right binary64 total)

module _ (spacing dt shift : Float) (place : ℕ) (node price : Float) where
  abbrev state : Float
  state = mul binary64 spacing node

  abbrev rate : Float
  rate = add binary64 shift state

  abbrev worth : Float → Answer
  worth e = tested (mul binary64 price e) place

  pub discounted-fused : discounted_of spacing dt shift place node price ≡ follow (exp_at (rate_argument spacing dt shift node) place) λ e. tested (mul binary64 price e) place
  unfolding discounted_of
  discounted-fused =
      after_test state place
      (after_test rate place (exp_later_then (λ x. x) (mul binary64 rate (neg dt)) place worth (λ x h. h))
      ∙ exp_later_then (λ r. mul binary64 r (neg dt)) rate place worth (λ r h. mul_left binary64 r (neg dt) h))
      ∙ exp_later_then (λ s. mul binary64 (add binary64 shift s) (neg dt)) state place worth (λ s h. mul_left binary64 (add binary64 shift s) (neg dt) (add_right binary64 shift s h))

-- ---- parts of 64 nodes

-- The number of node j, as a float.
abbrev pub number_at : List ℤ → ℕ → Float
number_at nodes j = node_float (get_or nodes (j * 2) (pos 0))

-- The argument of the node that stands k after the part's first.
abbrev pub argument_of : (Float → Float) → List ℤ → ℕ → ℕ → Float
argument_of f nodes first k = f (number_at nodes (first + k))

-- One argument more; z is the node's number as the code holds it.
pub argument_more : (f : Float → Float) (nodes : List ℤ) (first : ℕ) {xs₀ xs : List Float} {k : ℕ} {z : ℤ} → Filled (argument_of f nodes first) xs₀ xs k → k < length xs₀
    → z ≡ get_or nodes ((first + k) * 2) (pos 0) → Filled (argument_of f nodes first) xs₀ (set xs k (f (node_float z))) (k + 1)
argument_more f nodes first h l e = filled_more (argument_of f nodes first) _ _ _ _ h l (ap (λ (z : ℤ). f (node_float z)) e)

module _ (f : Float → Float) (nodes : List ℤ) (count : ℕ) where
  -- At node i: the exps of the nodes from i to the end of its part, each at its place in the part.
  pub record Ready (good : Bool) (i : ℕ) (es : List Float) : Type 0 where
    pub each : good ≡ true → (j place : ℕ) → i ≤ j → j < count → j / 64 ≡ i / 64 → exp_at (f (number_at nodes j)) place ≡ Ok (get_or es (j % 64) nan)

  -- Before node i: the same, but where a part begins there.
  pub record Kept (good : Bool) (i : ℕ) (es : List Float) : Type 0 where
    pub full : length es ≡ 64
    pub ready : 0 < i % 64 → Ready good i es

  pub kept-none : (good : Bool) (es : List Float) → length es ≡ 64 → Kept good 0 es
  kept-none good es e = record { full = e; ready = λ h. absurd (omega arith) }

  module _ {good : Bool} {i : ℕ} {es : List Float} where
    pub kept-ready : Kept good i es → (i % 64 ≡ 0 → ⊥) → Ready good i es
    kept-ready k h = k.ready (omega arith)

    pub kept_more : length es ≡ 64 → Ready good i es → Kept good (i + 1) es
    kept_more e r = record { full = e; ready = λ h. record { each = λ g j place a b s. r.each g j place (omega arith) b (omega arith) } }

    -- z is the node's number as the code holds it
    pub ready-here : {z : ℤ} (place : ℕ) → Ready good i es → i < count → z ≡ get_or nodes (i * 2) (pos 0) → good ≡ true → exp_at (f (node_float z)) place ≡ Ok (get_or es (i % 64) nan)
    ready-here place r h e g = rw e (r.each g i place (omega arith) h refl)

    -- a part's arguments xs and exps ys, which stand in the front of es
    pub ready_made : {n : ℕ} {xs₀ xs ys : List Float} (rest : List Float) → i % 64 ≡ 0 → n ≡ min (count - i) 64 → n ≤ length xs → Filled (argument_of f nodes i) xs₀ xs n
        → length ys ≡ n → ExpRow good (take n xs) ys → es ≡ ys ++ rest → Ready good i es
    ready_made {n} {xs₀} {xs} {ys} rest m e l a w x q = record { each = each }
      where
        each : good ≡ true → (j place : ℕ) → i ≤ j → j < count → j / 64 ≡ i / 64 → exp_at (f (number_at nodes j)) place ≡ Ok (get_or es (j % 64) nan)
        each g j place b h s =
            let p : i + (j - i) ≡ j = omega arith in
            let o : j - i ≡ j % 64 = omega arith in
            let t : j - i < n = omega arith in
            let v = x.values g (j - i) place (omega (arith, length-take-le n xs l)) in
            let d : get_or (take n xs) (j - i) nan ≡ f (number_at nodes j) = get_or-take n xs (j - i) nan t ∙ rw p at (a.below (j - i) t) in
            let y : get_or ys (j - i) nan ≡ get_or (ys ++ rest) (j - i) nan = sym (get_or-append ys rest nan (j - i) (omega arith)) in
            let z : get_or ys (j - i) nan ≡ get_or es (j % 64) nan = rw (q, ← o) y in
            ap (λ (u : Float). exp_at u place) (sym d) ∙ v ∙ ap Ok z
