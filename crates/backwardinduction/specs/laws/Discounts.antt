-- Discount factors of several nodes at a time, and one test where a later one gives the same number and place. Assumes nothing.
use Rattle.std.specs.Prelude.{ℕ, ◌+◌, ◌*◌, ◌/◌, ◌%◌, ◌≤◌, ◌<◌, ◌≡◌, Bool, true, false, List, ◌++◌, length, get_or, set, take, ℤ, pos, Float, Ok}
use Rattle.std.proofs.Common.{sym, ap, subst, ◌∙◌, arith, take_at}
use Rattle.std.specs.Float.{nan, binary64}
use Rattle.std.specs.Float.Ieee.{add, mul, neg}
use Rattle.floats.specs.Answers.{Answer, plus_zero, when_finite, tested}
use Rattle.floats.specs.laws.Propagation.{Spoils, test_later, add_left, add_right, mul_left}
use Rattle.elementary.specs.Exponential.{exp_at, ExpRow}
use Rattle.elementary.specs.laws.Rows.{Filled, filled_more, false_not}
use Rattle.elementary.specs.laws.Tested.{exp-later}
use Rattle.bondevents.specs.declared.CallStep.{CallStep}
use Rattle.lattice.specs.Layers.{node_float}
use Rattle.backwardinduction.specs.declared.walk.Rates.{Rates}
use Rattle.backwardinduction.specs.Walk.{exercised}
use Rattle.backwardinduction.specs.laws.WalkSteps.{sum_of, discount_with, worth_of}

-- ---- one test for several

-- From 0: three values, each × its probability, with no test.
abbrev pub plain_sum : Float → Float → Float → Float → Float → Float → Float
plain_sum low down mid middle high up = add binary64 (add binary64 (add binary64 plus_zero (mul binary64 low down)) (mul binary64 mid middle)) (mul binary64 high up)

sum-tested : (low down mid middle high up : Float) (place : ℕ) → sum_of low down mid middle high up place ≡ tested (plain_sum low down mid middle high up) place
unfolding sum_of
sum-tested low down mid middle high up place =
    let d = mul binary64 low down in
    let m = mul binary64 mid middle in
    let u = mul binary64 high up in
    let last : Spoils (λ e. add binary64 e u) = λ x h. add_left binary64 x u h in
    (λ i. when_finite d place (λ d. when_finite (add binary64 plus_zero d) place (λ e. when_finite m place (λ m. when_finite (add binary64 e m) place (λ e. test_later (add binary64 e) u place (λ x h. add_right binary64 e x h) i)))))
    ∙ (λ i. when_finite d place (λ d. when_finite (add binary64 plus_zero d) place (λ e. when_finite m place (λ m. test_later (λ e. add binary64 e u) (add binary64 e m) place last i))))
    ∙ (λ i. when_finite d place (λ d. when_finite (add binary64 plus_zero d) place (λ e. test_later (λ m. add binary64 (add binary64 e m) u) m place (λ x h. last (add binary64 e x) (add_right binary64 e x h)) i)))
    ∙ (λ i. when_finite d place (λ d. test_later (λ e. add binary64 (add binary64 e m) u) (add binary64 plus_zero d) place (λ x h. last (add binary64 x m) (add_left binary64 x m h)) i))
    ∙ test_later (λ d. add binary64 (add binary64 (add binary64 plus_zero d) m) u) d place (λ x h. last (add binary64 (add binary64 plus_zero x) m) (add_left binary64 (add binary64 plus_zero x) m (add_right binary64 plus_zero x h)))

-- the same, for an answer a in hand
pub sum_is : {a : Answer} (low down mid middle high up : Float) (place : ℕ) → a ≡ tested (plain_sum low down mid middle high up) place → a ≡ sum_of low down mid middle high up place
sum_is low down mid middle high up place h = h ∙ sym (sum-tested low down mid middle high up place)

-- with what is exercised in hand
pub worth_is : {a : Answer} (call : CallStep) (cashflow : Float) (place : ℕ) (e d held : Float) → held ≡ exercised call (mul binary64 e d)
    → a ≡ when_finite (mul binary64 e d) place (λ _. tested (add binary64 held cashflow) place) → a ≡ worth_of call cashflow place e d
unfolding worth_of
worth_is call cashflow place e d held h p = p ∙ ap (λ (x : Float). when_finite (mul binary64 e d) place (λ _. tested (add binary64 x cashflow) place)) h

-- A node's short rate × −time_step, with no test.
abbrev pub exponent_of : Rates → Float → Float
exponent_of r node = mul binary64 (add binary64 (add binary64 r.shift (mul binary64 r.spacing node)) r.spread) (neg r.dt)

discount-straight : (r : Rates) (node : Float) (place : ℕ) → discount_with r node place ≡ exp_at (exponent_of r node) place
unfolding discount_with
discount-straight r node place =
    let s = mul binary64 r.spacing node in
    let last : Spoils (λ x. mul binary64 x (neg r.dt)) = λ x h. mul_left binary64 x (neg r.dt) h in
    let spread : Spoils (λ x. mul binary64 (add binary64 x r.spread) (neg r.dt)) = λ x h. last (add binary64 x r.spread) (add_left binary64 x r.spread h) in
    (λ i. when_finite s place (λ s. when_finite (add binary64 r.shift s) place (λ f. when_finite (add binary64 f r.spread) place (λ x. exp-later (λ x. x) (mul binary64 x (neg r.dt)) place (λ x h. h) i))))
    ∙ (λ i. when_finite s place (λ s. when_finite (add binary64 r.shift s) place (λ f. exp-later (λ x. mul binary64 x (neg r.dt)) (add binary64 f r.spread) place last i)))
    ∙ (λ i. when_finite s place (λ s. exp-later (λ x. mul binary64 (add binary64 x r.spread) (neg r.dt)) (add binary64 r.shift s) place spread i))
    ∙ exp-later (λ x. mul binary64 (add binary64 (add binary64 r.shift x) r.spread) (neg r.dt)) s place (λ x h. spread (add binary64 r.shift x) (add_right binary64 r.shift x h))

pub discount_is : {a : Answer} {x : Float} (r : Rates) (node : Float) (place : ℕ) → x ≡ exponent_of r node → a ≡ exp_at x place → a ≡ discount_with r node place
discount_is r node place e h = h ∙ ap (λ (z : Float). exp_at z place) e ∙ sym (discount-straight r node place)

-- ---- a part of a layer

-- The number of the node at a position.
abbrev pub node_at : List ℤ → ℕ → Float
node_at nodes j = node_float (get_or nodes (j * 2) (pos 0))

abbrev pub exponents_from : Rates → List ℤ → ℕ → ℕ → Float
exponents_from r nodes from i = exponent_of r (node_at nodes (from + i))

-- The factor of each node from a position on, at any place, where the answer is yes; else nothing.
pub record Discounts (good : Bool) (rates : Rates) (nodes : List ℤ) (from : ℕ) (es : List Float) : Type 0 where
  pub values : good ≡ true → (i place : ℕ) → i < length es → discount_with rates (node_at nodes (from + i)) place ≡ Ok (get_or es i nan)

-- one exponent more
pub exponents_more : (rates : Rates) (nodes : List ℤ) (from : ℕ) (before after : List Float) (i : ℕ) {y : Float} {z : ℤ} → z ≡ get_or nodes ((from + i) * 2) (pos 0) → y ≡ exponent_of rates (node_float z)
    → Filled (exponents_from rates nodes from) before after i → i < length before → Filled (exponents_from rates nodes from) before (set after i y) (i + 1)
exponents_more rates nodes from before after i {y} n e f h = filled_more (exponents_from rates nodes from) before after i y f h (e ∙ ap (λ (x : ℤ). exponent_of rates (node_float x)) n)

-- from exp of the exponents ys, at the front of a longer row
pub discounts_are : {good : Bool} {rates : Rates} {nodes : List ℤ} {from n : ℕ} {before ys es : List Float} (zs : List Float) → Filled (exponents_from rates nodes from) before ys (length before) → length before ≡ n → length es ≡ n → ExpRow good (take n (ys ++ zs)) es
    → Discounts good rates nodes from es
discounts_are {good} {rates} {nodes} {from} {n} {before} {ys} {es} zs f b e r =
    let q : length ys ≡ n = f.kept ∙ b in
    let x : ExpRow good ys es = subst (λ (l : List Float). ExpRow good l es) (take_at ys zs n q) r in
    record {
      values = λ g i place h. sym (discount_is rates (node_at nodes (from + i)) place (f.below i (omega (arith, b, e))) (sym (x.values g i place (omega (arith, q, e)))));
    }

-- ---- the factors on the way through a layer, 64 nodes at a time

-- Where known, the factors of the nodes from i on, up to the end of the part that node n − 1 is in.
pub record Ahead (known : Bool) (rates : Rates) (nodes : List ℤ) (count i n : ℕ) (es : List Float) : Type 0 where
  pub factors : known ≡ true → (j place : ℕ) → i ≤ j → j < count → j < (n + 63) / 64 * 64 → discount_with rates (node_at nodes j) place ≡ Ok (get_or es (j % 64) nan)

pub ahead_none : {rates : Rates} {nodes : List ℤ} {count i n : ℕ} {es : List Float} → Ahead false rates nodes count i n es
ahead_none = record { factors = λ g. false_not g }

pub ahead_count : {known : Bool} {rates : Rates} {nodes : List ℤ} {count other i n : ℕ} {es : List Float} → count ≡ other → Ahead known rates nodes count i n es → Ahead known rates nodes other i n es
ahead_count {known} {rates} {nodes} {count} {other} {i} {n} {es} e a = subst (λ (m : ℕ). Ahead known rates nodes m i n es) e a

-- inside a part
pub ahead_kept : {known : Bool} {rates : Rates} {nodes : List ℤ} {count i : ℕ} {es : List Float} → (i % 64 ≡ 0 → ⊥) → Ahead known rates nodes count i i es → Ahead known rates nodes count i (i + 1) es
ahead_kept p a = record { factors = λ g j place h b c. a.factors g j place h b (omega (arith, p)) }

-- past a node
pub ahead_next : {known : Bool} {rates : Rates} {nodes : List ℤ} {count i : ℕ} {es : List Float} → Ahead known rates nodes count i (i + 1) es → Ahead known rates nodes count (i + 1) (i + 1) es
ahead_next a = record { factors = λ g j place h b c. a.factors g j place (omega arith) b c }

pub ahead_here : {known : Bool} {rates : Rates} {nodes : List ℤ} {count i : ℕ} {es : List Float} → Ahead known rates nodes count i (i + 1) es → i < count → (place : ℕ) → known ≡ true → discount_with rates (node_at nodes i) place ≡ Ok (get_or es (i % 64) nan)
ahead_here a h place g = a.factors g _ place (omega arith) h (omega arith)

-- a part's factors ys, at the front of es
pub ahead_part : {known : Bool} {rates : Rates} {nodes : List ℤ} {count i : ℕ} {ys : List Float} (es : List Float) → i % 64 ≡ 0 → ((j : ℕ) → j < count → j < i + 64 → j < i + length ys)
    → ((j : ℕ) → j < length ys → get_or es j nan ≡ get_or ys j nan) → Discounts known rates nodes i ys → Ahead known rates nodes count i (i + 1) es
ahead_part {known} {rates} {nodes} {count} {i} {ys} es p full front d = record {
  factors = λ g j place h b c.
      let k : j ≡ i + j % 64 = omega (arith, p) in
      let l : j % 64 < length ys = omega (arith, k, full j b (omega (arith, p))) in
      subst (λ (z : ℕ). discount_with rates (node_at nodes z) place ≡ Ok (get_or ys (j % 64) nan)) (sym k) (d.values g (j % 64) place l) ∙ ap Ok (sym (front (j % 64) l));
}
